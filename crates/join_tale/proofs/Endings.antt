-- How streams ended: each in one way.
use Rattle.std.proofs.Common.{◌≡◌, ◌≢◌, ◌⊎◌, ℕ, ◌<◌, List, [], ◌∷◌, length, Some, inl, inr, refl, sym, ap, ◌∙◌, subst, ⊎_elim}
use Rattle.chunk_core.specs.Lists.{IsAmong}
use Rattle.chunk_core.specs.Lists.IsAmong.{here}
use Rattle.chunk_core.specs.Texts.{Frame}
use Rattle.chunk_core.specs.declared.code.How.{How}
use Rattle.chunk_core.specs.declared.code.How.TheVariants as how
use Rattle.run_rules.specs.Facts.{at}
use Rattle.join_tale.specs.Bounds.{Bounds}
use Rattle.join_tale.specs.Ended.{Ended}
use Rattle.join_tale.specs.Ended.Ended.{told, wanting, whole, halted, unmade, skipped}
use Rattle.join_tale.specs.Keeping.{IsTale}
use Rattle.join_tale.specs.Laws.{IsPrinted, OutputsFollow, StreamsEndOnce}
use Rattle.join_tale.specs.Tales.{Came, Fate, HasCome, IsBegun, Tale, end_of, load_of, loads_of}
use Rattle.join_tale.specs.Tales.Fate.{Begun, Skipped, Unmade}
use Rattle.join_tale.proofs.Parts.{loads_first, payloads_loads}
use Rattle.join_tale.proofs.Places.{at_some, some_is}

-- an end came late
late_ended : (t : Tale) (k : ℕ) (e : How) → IsAmong (end_of k e) t.late → (h : How) × Ended t k h
late_ended t k how.Memory m = (how.Memory, wanting m refl)
late_ended t k how.Halted m = (how.Halted, halted how.Halted m (λ q. cc) (λ q. absurd (not_done q)) refl)
  where
    not_done : how.Halted ≡ how.Done → ⊥
    not_done q = cc
late_ended t k (how.Fault c) m = (how.Halted, halted (how.Fault c) m (λ q. cc) (λ q. absurd (not_done q)) refl)
  where
    not_done : how.Fault c ≡ how.Done → ⊥
    not_done q = cc
late_ended t k how.Done m = by_loads (loads_of k t.late) refl
  where
    not_memory : how.Done ≡ how.Memory → ⊥
    not_memory q = cc

    some_left : (x : List ℕ) (xs : List (List ℕ)) → x ∷ xs ≡ [] → ⊥
    some_left x xs q = cc

    by_loads : (l : List (List ℕ)) → loads_of k t.late ≡ l → (h : How) × Ended t k h
    by_loads [] e = (how.Done, whole m e refl)
    by_loads (x ∷ xs) e = (how.Halted, halted how.Done m not_memory (λ q z. some_left x xs (sym e ∙ z)) refl)

-- each stream ended
pub some_end : (t : Tale) (k : ℕ) → ((j : ℕ) → IsBegun t j → HasCome t j) → k < length t.fates → (h : How) × Ended t k h
some_end t k all l = let q = at_some t.fates k l in by_fate q.0 q.1
  where
    by_fate : (f : Fate) → at t.fates k ≡ Some f → (h : How) × Ended t k h
    by_fate Begun e = let c = all k e in ⊎_elim (λ m. (c.0, told m)) (λ m. late_ended t k c.0 m) c.1
    by_fate Skipped e = (how.Halted, skipped e refl)
    by_fate Unmade e = (how.Memory, unmade e refl)

-- what the late end e of k makes of it
abbrev IsLateEnd : Tale → ℕ → How → How → Type 0
IsLateEnd t k e h = ((e ≡ how.Memory) × (h ≡ how.Memory)) ⊎ (((e ≡ how.Done) × (loads_of k t.late ≡ []) × (h ≡ how.Done)) ⊎ ((e ≢ how.Memory) × (e ≡ how.Done → loads_of k t.late ≢ []) × (h ≡ how.Halted)))

-- what the fate of k makes of it
abbrev IsFateEnd : Tale → ℕ → How → Type 0
IsFateEnd t k h = (f : Fate) × (at t.fates k ≡ Some f) × (((f ≡ Unmade) × (h ≡ how.Memory)) ⊎ ((f ≡ Skipped) × (h ≡ how.Halted)))

abbrev IsOneEnd : Tale → ℕ → How → Type 0
IsOneEnd t k h = IsAmong (end_of k h) t.front ⊎ (((e : How) × IsAmong (end_of k e) t.late × IsLateEnd t k e h) ⊎ IsFateEnd t k h)

one_end : (t : Tale) (k : ℕ) (h : How) → Ended t k h → IsOneEnd t k h
one_end t k h (told m) = inl m
one_end t k h (wanting m q) = inr (inl (how.Memory, m, inl (refl, q)))
one_end t k h (whole m n q) = inr (inl (how.Done, m, inr (inl (refl, n, q))))
one_end t k h (halted e m n l q) = inr (inl (e, m, inr (inr (n, l, q))))
one_end t k h (unmade e q) = inr (inr (Unmade, e, inl (refl, q)))
one_end t k h (skipped e q) = inr (inr (Skipped, e, inr (refl, q)))

both_ends : (e : How) → e ≡ how.Memory → e ≡ how.Done → ⊥
both_ends e m d = let q : how.Memory ≡ how.Done = sym m ∙ d in cc

late_one : (t : Tale) (k : ℕ) (e h g : How) → IsLateEnd t k e h → IsLateEnd t k e g → h ≡ g
late_one t k e h g (inl a) (inl b) = a.1 ∙ sym b.1
late_one t k e h g (inl a) (inr (inl b)) = absurd (both_ends e a.0 b.0)
late_one t k e h g (inl a) (inr (inr b)) = absurd (b.0 a.0)
late_one t k e h g (inr (inl a)) (inl b) = absurd (both_ends e b.0 a.0)
late_one t k e h g (inr (inl a)) (inr (inl b)) = a.2 ∙ sym b.2
late_one t k e h g (inr (inl a)) (inr (inr b)) = absurd (b.1 a.0 a.1)
late_one t k e h g (inr (inr a)) (inl b) = absurd (a.0 b.0)
late_one t k e h g (inr (inr a)) (inr (inl b)) = absurd (a.1 b.0 b.1)
late_one t k e h g (inr (inr a)) (inr (inr b)) = a.2 ∙ sym b.2

both_fates : (f : Fate) → f ≡ Unmade → f ≡ Skipped → ⊥
both_fates f u s = let q : Unmade ≡ Skipped = sym u ∙ s in cc

fate_one : (f : Fate) (h g : How) → ((f ≡ Unmade) × (h ≡ how.Memory)) ⊎ ((f ≡ Skipped) × (h ≡ how.Halted)) → ((f ≡ Unmade) × (g ≡ how.Memory)) ⊎ ((f ≡ Skipped) × (g ≡ how.Halted)) → h ≡ g
fate_one f h g (inl a) (inl b) = a.1 ∙ sym b.1
fate_one f h g (inl a) (inr b) = absurd (both_fates f a.0 b.0)
fate_one f h g (inr a) (inl b) = absurd (both_fates f b.0 a.0)
fate_one f h g (inr a) (inr b) = a.1 ∙ sym b.1

module _ (bounds : Bounds) (t : Tale) (k : ℕ) (i : IsTale bounds t) where
  -- a stream whose end came was begun
  pub come_begun : (h : How) → Came t k h → IsBegun t k
  come_begun h c = (i.frames.ours (end_of k h) c).0

  no_fate : (h g : How) → Came t k h → IsFateEnd t k g → ⊥
  no_fate h g c f =
      let b : Begun ≡ f.0 = some_is Begun f.0 (sym (come_begun h c) ∙ f.1) in
      ⊎_elim (λ u. let q : Begun ≡ Unmade = b ∙ u.0 in cc) (λ s. let q : Begun ≡ Skipped = b ∙ s.0 in cc) f.2

  same_end : (h g : How) → IsOneEnd t k h → IsOneEnd t k g → h ≡ g
  same_end h g (inl a) (inl b) = i.ends.once k h g (inl a) (inl b)
  same_end h g (inl a) (inr (inl b)) = absurd (i.ends.apart k h b.0 a b.1)
  same_end h g (inl a) (inr (inr b)) = absurd (no_fate h g (inl a) b)
  same_end h g (inr (inl a)) (inl b) = absurd (i.ends.apart k g a.0 b a.1)
  same_end h g (inr (inl a)) (inr (inl b)) = late_one t k b.0 h g (subst (λ e. IsLateEnd t k e h) (i.ends.once k a.0 b.0 (inr a.1) (inr b.1)) a.2) b.2
  same_end h g (inr (inl a)) (inr (inr b)) = absurd (no_fate a.0 g (inr a.1) b)
  same_end h g (inr (inr a)) (inl b) = absurd (no_fate g h (inl b) a)
  same_end h g (inr (inr a)) (inr (inl b)) = absurd (no_fate b.0 h (inr b.1) a)
  same_end h g (inr (inr a)) (inr (inr b)) =
      let f : a.0 ≡ b.0 = some_is a.0 b.0 (sym a.1 ∙ b.1) in
      fate_one b.0 h g (subst (λ z. ((z ≡ Unmade) × (h ≡ how.Memory)) ⊎ ((z ≡ Skipped) × (h ≡ how.Halted))) f a.2) b.2

  pub ended_once : (h g : How) → Ended t k h → Ended t k g → h ≡ g
  ended_once h g a b = same_end h g (one_end t k h a) (one_end t k g b)

pub printed : (bounds : Bounds) (t : Tale) (k : ℕ) (h : How) → IsTale bounds t → Ended t k h → IsPrinted t k h
printed bounds t k h i (told m) = inl (inl m, i.frames.whole k h m)
printed bounds t k h i (wanting m q) = inr (inr q)
printed bounds t k h i (whole m n q) = inl (subst (λ z. Came t k z) (sym q) (inr m), n)
printed bounds t k h i (halted e m n l q) = inr (inl q)
printed bounds t k h i (unmade e q) = inr (inr q)
printed bounds t k h i (skipped e q) = inr (inl q)

pub told_so : (bounds : Bounds) (t : Tale) (k : ℕ) (h : How) → IsTale bounds t → Ended t k h → h ≢ how.Halted → Came t k h ⊎ ((at t.fates k ≡ Some Unmade) × (h ≡ how.Memory))
told_so bounds t k h i (told m) n = inl (inl m)
told_so bounds t k h i (wanting m q) n = inl (subst (λ z. Came t k z) (sym q) (inr m))
told_so bounds t k h i (whole m l q) n = inl (subst (λ z. Came t k z) (sym q) (inr m))
told_so bounds t k h i (halted e m l r q) n = absurd (n q)
told_so bounds t k h i (unmade e q) n = inr (e, q)
told_so bounds t k h i (skipped e q) n = absurd (n q)

pub cut_goes_on : (bounds : Bounds) (t : Tale) (f : Frame) → IsTale bounds t → t.cut ≡ Some f → IsBegun t f.stream × (0 < length f.payload) × ((xs : List (List ℕ)) × (loads_of f.stream t.late ≡ f.payload ∷ xs))
cut_goes_on bounds t f i e =
    let q = i.frames.cut f e in
    let o = i.frames.ours (load_of f.stream f.payload) (inr (subst (λ l. IsAmong (load_of f.stream f.payload) l) (sym q.1) (here q.0))) in
    (o.0, o.1, (loads_of f.stream q.0, ap (loads_of f.stream) q.1 ∙ loads_first f.stream f.payload q.0))

pub streams_end_once : (bounds : Bounds) → StreamsEndOnce bounds
streams_end_once bounds = record { some = some_end; one = λ t k h g i a b. ended_once bounds t k i h g a b }

pub outputs_follow : (bounds : Bounds) → OutputsFollow bounds
outputs_follow bounds = record { payloads = payloads_loads; ended = printed bounds; cut = cut_goes_on bounds; told = told_so bounds }
