-- Where the closes of their roots stand, step by step.
use Rattle.std.proofs.Common.{◌≡◌, ◌≢◌, ℕ, ◌<◌, ◌≤◌, List, [], ◌∷◌, ◌++◌, append-nil, Some, None, refl, sym, ap, ◌∙◌, subst, ⊎_elim}
use Rattle.chunk_core.specs.Lists.{IsAmong}
use Rattle.chunk_core.specs.Outcomes.{exit_of}
use Rattle.chunk_core.specs.declared.code.Code.{Code}
use Rattle.chunk_core.specs.declared.code.How.{How}
use Rattle.chunk_core.specs.declared.code.How.TheVariants as how
use Rattle.chunk_core.proofs.Members.{among_cons, among_nil}
use Rattle.interrupt_ctx.specs.Views.{interruption}
use Rattle.interrupt_ctx.specs.declared.view.Interruption.{Interruption}
use Rattle.interrupt_ctx.specs.declared.why.Stop.{Stop}
use Rattle.interrupt_ctx.specs.declared.why.Why.TheVariants as why
use Rattle.join_tale.specs.Bounds.{Bounds}
use Rattle.join_tale.specs.Steps.{Marks, learned, outer_ended}
use Rattle.join_tale.specs.Steps.Marks.{fresh, stale}
use Rattle.join_tale.specs.Tales.{Came, FailedSo, Tale}
use Rattle.join_tree.specs.Progress.{Progress}
use Rattle.res_ledger.specs.Ledger.{Notes}
use Rattle.res_ledger.specs.declared.event.Event.{Event}
use Rattle.res_ledger.specs.declared.event.StreamNo.{StreamNo}
use Rattle.res_ledger.specs.declared.event.StreamNo.TheVariants.{Inner, Outer}
use Rattle.res_ledger.specs.declared.event.What.TheVariants.{Close}
use Rattle.scope_tree.specs.Calls.{Seen}
use Rattle.dealt_streams.specs.Places.{ArePlaced, ClosedAs, KeepsPlaces}
use Rattle.dealt_streams.proofs.Placing.{placed_fault, placed_heeded, placed_more, placed_plain, placed_still}
use Rattle.collector.specs.Starting.{ClosesOuterBehind, cause_of}

-- a stream that failed has failed still
pub fails_on : (t u : Tale) → ((f : Code) → t.outer ≡ Some (how.Fault f) → u.outer ≡ Some (how.Fault f)) → ((j : ℕ) (h : How) → Came t j h → Came u j h) → (k : StreamNo) → FailedSo t k → FailedSo u k
fails_on t u outer came Outer f = (f.0, outer f.0 f.1)
fails_on t u outer came (Inner j) f = (f.0, came j (how.Fault f.0) f.1)

-- the outer stream, which was open, ended
pub fails_then : (t u : Tale) → t.outer ≡ None → ((j : ℕ) (h : How) → Came t j h → Came u j h) → (k : StreamNo) → FailedSo t k → FailedSo u k
fails_then t u none came k = fails_on t u (λ f e. let z : None ≡ Some (how.Fault f) = sym none ∙ e in cc) came k

module _ {V : Type 0} (bounds : Bounds) (b c : Seen V) (p q : Progress V) (t u : Tale) (noted : (e : Event) → IsAmong e b.seat.events → IsAmong e c.seat.events) (back : (y : Seen V) → IsAmong y p.back → IsAmong y q.back) (fails : (k : StreamNo) → FailedSo t k → FailedSo u k) (h : KeepsPlaces bounds b p t) where
  pub placed_same : u.obeyed ≡ t.obeyed → u.set ≡ t.set → KeepsPlaces bounds c q u
  placed_same obeyed set =
      subst (λ os. ArePlaced bounds c q u os u.set) (sym obeyed) (subst (λ vs. ArePlaced bounds c q u t.obeyed vs) (sym set) (placed_still bounds b c p q t u t.obeyed t.set noted back fails h))

  -- these were set
  pub placed_set : (vs : List Interruption) → u.obeyed ≡ t.obeyed → u.set ≡ t.set ++ vs → ArePlaced bounds c q u [] vs → KeepsPlaces bounds c q u
  placed_set vs obeyed set new =
      subst (λ os. ArePlaced bounds c q u os u.set) (append-nil t.obeyed ∙ sym obeyed)
      (subst (λ xs. ArePlaced bounds c q u (t.obeyed ++ []) xs) (sym set) (placed_more bounds c q u t.obeyed [] t.set vs (placed_still bounds b c p q t u t.obeyed t.set noted back fails h) new))

  -- the stream obeyed this
  pub placed_obeys : (k : StreamNo) (w : Stop) → u.obeyed ≡ t.obeyed ++ (k, w) ∷ [] → u.set ≡ t.set → ClosedAs c q (λ n. w.at ≤ n) k → KeepsPlaces bounds c q u
  placed_obeys k w obeyed set so =
      subst (λ os. ArePlaced bounds c q u os u.set) (sym obeyed)
      (subst (λ xs. ArePlaced bounds c q u (t.obeyed ++ (k, w) ∷ []) xs) (append-nil t.set ∙ sym set)
      (placed_more bounds c q u t.obeyed ((k, w) ∷ []) t.set [] (placed_still bounds b c p q t u t.obeyed t.set noted back fails h) (placed_heeded bounds c q u k w so)))

-- none of these asks for an order
abbrev pub AreCalm : List Interruption → Type 0
AreCalm vs = (context : ℕ) (w : Stop) → IsAmong (interruption context w) vs → (w.why ≢ why.Fault) × (w.why ≢ why.Until)

pub calm_none : AreCalm []
calm_none context w m = absurd (among_nil m)

pub calm_marks : {x : ℕ} {w : Stop} (vs cs : List Interruption) → Marks x w vs cs → w.why ≢ why.Fault → w.why ≢ why.Until → AreCalm vs
calm_marks {x = x} {w = w} vs cs fresh a z context v m =
    let same : v.why ≡ w.why = ⊎_elim (λ e. ap (λ (i : Interruption). i.stop.why) e) (λ i. absurd (among_nil i)) (among_cons m) in
    (λ e. a (sym same ∙ e), λ e. z (sym same ∙ e))
calm_marks vs cs (stale there) a z context v m = calm_none context v m

pub placed_calm : {V : Type 0} (bounds : Bounds) (c : Seen V) (q : Progress V) (t : Tale) (vs : List Interruption) → AreCalm vs → ArePlaced bounds c q t [] vs
placed_calm bounds c q t vs calm = record {
  obeyed = λ k w m. absurd (among_nil m);
  failed = λ x w m is. absurd ((calm x w m).0 is);
  ended = λ x w m is. absurd ((calm x w m).1 is);
}

-- the outer stream's root was closed behind what it obeyed
pub outer_behind : {V : Type 0} (c : Seen V) (q : Progress V) (h : How) (n : ℕ) → Notes c.seat.events Outer (Close 0 (exit_of h)) → ClosesOuterBehind n c → ClosedAs c q (λ m. n ≤ m) Outer
outer_behind c q h n (e, m, by, what) behind = (e, exit_of h, m, by, what, behind e (exit_of h) m by what)

-- and within a front that has all that was noted
pub outer_within : {V : Type 0} (c : Seen V) (q : Progress V) (h : How) (n : ℕ) → Notes c.seat.events Outer (Close 0 (exit_of h)) → ((e : Event) → IsAmong e c.seat.events → e.stamp < n) → ClosedAs c q (λ m. m < n) Outer
outer_within c q h n (e, m, by, what) all = (e, exit_of h, m, by, what, all e m)

-- what was set as the outer stream failed, or found no memory
pub placed_stop : {V : Type 0} (bounds : Bounds) (c : Seen V) (q : Progress V) (t : Tale) (h : How) (w : Stop) (vs cs : List Interruption) → cause_of h ≡ Some w.why → Marks 0 w vs cs → ClosedAs c q (λ n. n < w.at) Outer → ArePlaced bounds c q (learned (outer_ended t h) vs cs) [] vs
placed_stop bounds c q t how.Done w vs cs e m so = absurd cc
placed_stop bounds c q t how.Halted w vs cs e m so = absurd cc
placed_stop bounds c q t (how.Fault f) w vs cs e m so = placed_fault bounds c q (learned (outer_ended t (how.Fault f)) vs cs) vs cs m (let z : w.why ≡ why.Fault = cc in z) Outer (f, refl) so
placed_stop bounds c q t how.Memory w vs cs e m so = let is : w.why ≡ why.Memory = cc in placed_plain bounds c q (learned (outer_ended t how.Memory) vs cs) vs cs m (λ z. let y : why.Memory ≡ why.Fault = sym is ∙ z in cc) (λ z. let y : why.Memory ≡ why.Until = sym is ∙ z in cc)
