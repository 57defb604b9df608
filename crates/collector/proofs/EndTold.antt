-- An end came, and the tale goes on.
use Rattle.std.proofs.Common.{◌≡◌, ◌⊎◌, ℕ, suc, ◌+◌, ◌<◌, Bool, true, false, ◌||◌, List, [], ◌∷◌, ◌++◌, length, Option, Some, None, if◌then◌else◌, refl, sym, ◌∙◌, ap, subst, inl, inr, ⊎_elim, arith, eqb-true, append_assoc, append-nil}
use Rattle.std.specs.Prelude.{slice_get}
use Rattle.chunk_core.specs.Lists.{IsAmong}
use Rattle.chunk_core.specs.declared.code.Code.{Code}
use Rattle.chunk_core.specs.declared.code.How.{How}
use Rattle.chunk_core.specs.declared.code.How.TheVariants as how
use Rattle.chunk_core.proofs.Filters.{among_append, among_right}
use Rattle.chunk_core.proofs.Members.{among_last, among_left, among_nil}
use Rattle.interrupt_ctx.specs.Views.{interruption}
use Rattle.interrupt_ctx.specs.declared.view.Interruption.{Interruption}
use Rattle.interrupt_ctx.specs.declared.view.View.{View}
use Rattle.interrupt_ctx.specs.declared.why.Stop.{Stop}
use Rattle.interrupt_ctx.specs.declared.why.Why.TheVariants as why
use Rattle.join_report.specs.Calls.{after_end}
use Rattle.join_report.specs.declared.stops.Stops.{Stops}
use Rattle.join_tale.specs.Bounds.{Bounds, is_in_turn}
use Rattle.join_tale.specs.Keeping.{IsTale, Obeys}
use Rattle.join_tale.specs.Steps.{TellsEnd, ended, ended_late, heeded, learned}
use Rattle.join_tale.specs.Tales.{Came, IsCaused, IsKnown, IsOpen, IsSet, Tale, end_of, frames_of}
use Rattle.join_tale.proofs.Ending as ending
use Rattle.join_tale.proofs.Parts.{end_before_end, frames_end}
use Rattle.pipeline_desc.specs.Meant.{PlanMeant}
use Rattle.pipeline_desc.specs.declared.stream.StreamSpec.{StreamSpec}
use Rattle.res_ledger.specs.declared.event.StreamNo.TheVariants.{Inner}
use Rattle.row_seat.specs.declared.view.View.{View as SeatView}
use Rattle.run_rules.specs.Facts.{is_memory}
use Rattle.stream_jobs.specs.Learned.{HasSetFor}
use Rattle.stream_jobs.specs.Places.{HasPlaces}
use Rattle.dealt_streams.specs.Works.{plan_bounds, until_of}
use Rattle.dealt_streams.proofs.Placing.{heed}
use Rattle.collector.specs.Receiving.{EndsWith, StopsThose}
use Rattle.collector.proofs.Lists.{below_is}

-- the end h of stream k came behind the tale t, which goes on so
pub record EndComes (t u : Tale) (k : ℕ) (h : How) : Type 0 where
  pub fates : u.fates ≡ t.fates
  pub outer : u.outer ≡ t.outer
  pub pulled : u.pulled ≡ t.pulled
  pub room : u.room ≡ t.room
  pub cut : u.cut ≡ t.cut
  pub frames : frames_of u.front ≡ frames_of t.front
  pub memory : h ≡ how.Memory → u.memory ≡ true
  pub more : t.memory ≡ true → u.memory ≡ true
  pub came : Came u k h
  pub kept : (j : ℕ) (g : How) → Came t j g → Came u j g
  pub back : (j : ℕ) (g : How) → Came u j g → Came t j g ⊎ ((j ≡ k) × (g ≡ h))
  pub got : u.front ++ u.late ≡ (t.front ++ t.late) ++ end_of k h ∷ []

comes_front : (t : Tale) (k : ℕ) (h : How) → t.late ≡ [] → t.memory ≡ false → EndComes t (ended t k h) k h
comes_front t k h none calm = record {
  fates = refl;
  outer = refl;
  pulled = refl;
  room = refl;
  cut = refl;
  frames = frames_end t.front k h;
  memory = λ e. ap is_memory e;
  more = λ m. let z : false ≡ true = sym calm ∙ m in cc;
  came = inl (among_last t.front (end_of k h));
  kept = λ j g c. ⊎_elim (λ a. inl (among_left (end_of k h ∷ []) a)) (λ b. inr b) c;
  back = λ j g c. ⊎_elim (λ a. ⊎_elim (λ b. inl (inl b)) (λ e. inr e) (end_before_end j k g h t.front a)) (λ b. inl (inr b)) c;
  got = ap (λ ms. (t.front ++ end_of k h ∷ []) ++ ms) none ∙ (append-nil (t.front ++ end_of k h ∷ []) ∙ (ap (λ ms. ms ++ end_of k h ∷ []) (sym (append-nil t.front)) ∙ ap (λ ms. (t.front ++ ms) ++ end_of k h ∷ []) (sym none)));
}

or_left : (a b : Bool) → a ≡ true → (a || b) ≡ true
or_left true b e = refl
or_left false b e = absurd cc

or_right : (a b : Bool) → b ≡ true → (a || b) ≡ true
or_right true b e = refl
or_right false b e = e

comes_late : (t : Tale) (k : ℕ) (h : How) → EndComes t (ended_late t k h) k h
comes_late t k h = record {
  fates = refl;
  outer = refl;
  pulled = refl;
  room = refl;
  cut = refl;
  frames = refl;
  memory = λ e. or_right t.memory (is_memory h) (ap is_memory e);
  more = λ m. or_left t.memory (is_memory h) m;
  came = inr (among_last t.late (end_of k h));
  kept = λ j g c. ⊎_elim (λ a. inl a) (λ b. inr (among_left (end_of k h ∷ []) b)) c;
  back = λ j g c. ⊎_elim (λ a. inl (inl a)) (λ b. ⊎_elim (λ m. inl (inr m)) (λ e. inr e) (end_before_end j k g h t.late b)) c;
  got = sym (append_assoc t.front t.late (end_of k h ∷ []));
}

-- nothing is set or found by it
pub end_sets : (t : Tale) (k : ℕ) (h : How) → ((after_end t k h).set ≡ t.set) × ((after_end t k h).seen ≡ t.seen)
end_sets t k h = go t.ceased
  where
    go : (b : Bool) → ((if b then ended_late t k h else ended t k h).set ≡ t.set) × ((if b then ended_late t k h else ended t k h).seen ≡ t.seen)
    go true = (refl, refl)
    go false = (refl, refl)

-- and nothing more is obeyed
pub end_obeyed : (t : Tale) (k : ℕ) (h : How) → (after_end t k h).obeyed ≡ t.obeyed
end_obeyed t k h = go t.ceased
  where
    go : (b : Bool) → (if b then ended_late t k h else ended t k h).obeyed ≡ t.obeyed
    go true = refl
    go false = refl

-- what the end adds
pub end_comes : (bounds : Bounds) (t : Tale) (k : ℕ) (h : How) → IsTale bounds t → EndComes t (after_end t k h) k h
end_comes bounds t k h i = go t.ceased refl
  where
    go : (b : Bool) → t.ceased ≡ b → EndComes t (if b then ended_late t k h else ended t k h) k h
    go true e = comes_late t k h
    go false e = let quiet = i.frames.quiet e in comes_front t k h quiet.0 quiet.2

-- and where what goes with it is known, the tale stays one
pub end_tells : (bounds : Bounds) (t : Tale) (k : ℕ) (h : How) (vs cs : List Interruption) → IsTale bounds t → IsOpen t k → TellsEnd bounds (learned (after_end t k h) vs cs) k h vs → IsTale bounds (learned (after_end t k h) vs cs)
end_tells bounds t k h vs cs i o = go t.ceased refl
  where
    go : (b : Bool) → t.ceased ≡ b → TellsEnd bounds (learned (if b then ended_late t k h else ended t k h) vs cs) k h vs → IsTale bounds (learned (if b then ended_late t k h else ended t k h) vs cs)
    go true e tells = ending.ends_late bounds t k h vs cs i o e tells
    go false e tells = ending.ends bounds t k h vs cs i o e tells

-- the stream whose end stops another one stands in the plan
until_ends : (ss : List StreamSpec) (i k : ℕ) (o : Option StreamSpec) → slice_get ss i ≡ o → elim o [ Some s ↦ s.until | None ↦ None ] ≡ Some k → (s : StreamSpec) × (slice_get ss i ≡ Some s) × (s.until ≡ Some k)
until_ends ss i k None e u = cc
until_ends ss i k (Some s) e u = (s, e, u)

pub until_spec : (p : PlanMeant) (i k : ℕ) → until_of p.streams i ≡ Some k → (i < length p.streams) × EndsWith p k i
until_spec p i k u = let e = until_ends p.streams i k (slice_get p.streams i) refl u in (below_is p.streams i e.0 e.1, e)

pub until_is : (p : PlanMeant) (i k : ℕ) → EndsWith p k i → until_of p.streams i ≡ Some k
until_is p i k (s, e, u) = ap (λ (o : Option StreamSpec). elim o [ Some x ↦ x.until | None ↦ None ]) e ∙ u

-- where one stream is open at a time, a code of stream k that its seat has seen is among those that were set before or by it
abbrev pub HasSetOwn : PlanMeant → Tale → ℕ → View → Type 0
HasSetOwn p t k w = p.max_open ≡ 1 → (x : Stop) → IsAmong (interruption (suc k) x) w.seen → IsAmong (interruption (suc k) x) (t.set ++ w.set)

-- where stream k was halted, the tale has what it obeyed, which its seat has found
abbrev pub HasHeeded : Tale → ℕ → How → View → Type 0
HasHeeded t k h w = h ≡ how.Halted → (x : Stop) × IsAmong (Inner k, x) t.obeyed × (IsAmong (interruption 0 x) w.seen ⊎ IsAmong (interruption (1 + k) x) w.seen)

-- so it has behind what its job obeyed
pub has_heeded : {V : Type 0} (t : Tale) (k : ℕ) (seat : SeatView V) (w : View) (h : How) (q : HasPlaces k seat w h) → HasHeeded (heeded t (heed k seat w h q)) k h w
has_heeded t k seat w how.Done q = λ e. cc
has_heeded t k seat w how.Halted q = λ e. let f = q.obeyed refl in (f.0, among_last t.obeyed (Inner k, f.0), f.1)
has_heeded t k seat w (how.Fault c) q = λ e. cc
has_heeded t k seat w how.Memory q = λ e. cc

module _ (p : PlanMeant) (t : Tale) (k : ℕ) (h : How) (i : IsTale (plan_bounds p) t) (o : IsOpen t k) (w : View) (ended_so : HasSetFor k w (Some h)) (heeds : HasHeeded t k h w) (own : HasSetOwn p t k w) (before stops : Stops) (n : ℕ) (those : StopsThose p k (length p.streams) n before stops) where
  abbrev pub vs : List Interruption
  vs = w.set ++ those.set

  abbrev pub cs : List Interruption
  cs = w.seen ++ those.seen

  abbrev pub u : Tale
  u = after_end t k h

  abbrev pub v : Tale
  v = learned u vs cs

  pub comes : EndComes t u k h
  comes = end_comes (plan_bounds p) t k h i

  seen_in : (x : Interruption) → IsAmong x cs → IsAmong x v.seen
  seen_in x m = among_right x u.seen cs m

  set_in : (x : Interruption) → IsAmong x vs → IsAmong x v.set
  set_in x m = among_right x u.set vs m

  -- a stop of the whole run by the seat of the stream
  known_so : (there : Stop) → IsAmong (interruption 0 there) w.set ⊎ IsAmong (interruption 0 there) w.seen → IsKnown v 0
  known_so there m = ⊎_elim (λ a. inl (there, set_in (interruption 0 there) (among_left those.set a))) (λ b. inr (there, seen_in (interruption 0 there) (among_left those.seen b))) m

  caused_fault : (c : Code) → h ≡ how.Fault c → (context : ℕ) (x : Stop) → (context ≡ 0) × (x.why ≡ why.Fault) → IsCaused (plan_bounds p) v context x.why
  caused_fault c is context x e = subst (λ y. IsCaused (plan_bounds p) v context y) (sym e.1) (e.0, inl (k, c, subst (λ g. Came u k g) is comes.came))

  caused_memory : h ≡ how.Memory → (context : ℕ) (x : Stop) → (context ≡ 0) × (x.why ≡ why.Memory) → IsCaused (plan_bounds p) v context x.why
  caused_memory is context x e = subst (λ y. IsCaused (plan_bounds p) v context y) (sym e.1) (e.0, comes.memory is)

  caused_seat : (g : How) → h ≡ g → HasSetFor k w (Some g) → (context : ℕ) (x : Stop) → IsAmong (interruption context x) w.set → IsCaused (plan_bounds p) v context x.why
  caused_seat how.Done is s context x m = absurd (among_nil (subst (λ l. IsAmong (interruption context x) l) s m))
  caused_seat how.Halted is s context x m = absurd (among_nil (subst (λ l. IsAmong (interruption context x) l) s.none m))
  caused_seat (how.Fault c) is s context x m = caused_fault c is context x (s.only (interruption context x) m)
  caused_seat how.Memory is s context x m = caused_memory is context x (s.only (interruption context x) m)

  caused_until : (context : ℕ) (x : Stop) → IsAmong (interruption context x) those.set → IsCaused (plan_bounds p) v context x.why
  caused_until context x m =
      let r = those.only context x m in
      let ends = r.1.2 in
      subst (λ (y : Stop). IsCaused (plan_bounds p) v context y.why) (sym r.0) (r.1.0, k, r.1.1, until_is p r.1.0 k ends, (h, comes.came))

  -- what it obeyed: a code of the whole run, or one of its own, which had been set where one stream is open at a time
  own_set : (x : Stop) → IsAmong (interruption (suc k) x) w.seen → is_in_turn (plan_bounds p) ≡ true → IsSet v (suc k)
  own_set x m turn = (x, subst (λ l. IsAmong (interruption (suc k) x) (l ++ vs)) (sym (end_sets t k h).0) (subst (λ l. IsAmong (interruption (suc k) x) l) (append_assoc t.set w.set those.set) (among_left those.set (own (eqb-true p.max_open 1 turn) x m))))

  obeys : h ≡ how.Halted → Obeys (plan_bounds p) v k
  obeys e =
      let f = heeds e in (
        f.0,
        subst (λ l. IsAmong (Inner k, f.0) l) (sym (end_obeyed t k h)) f.1,
        ⊎_elim
            (λ a. inl (seen_in (interruption 0 f.0) (among_left those.seen a)))
            (λ b. let m = subst (λ n. IsAmong (interruption n f.0) w.seen) (let z : 1 + k ≡ suc k = omega arith in z) b in inr (seen_in (interruption (suc k) f.0) (among_left those.seen m), own_set f.0 m))
            f.2,
      )

  fault_so : (g : How) (c : Code) → HasSetFor k w (Some g) → g ≡ how.Fault c → IsKnown v 0
  fault_so (how.Fault d) c s e = known_so s.known.0 s.known.1
  fault_so how.Halted c s e = cc
  fault_so how.Done c s e = cc
  fault_so how.Memory c s e = cc

  memory_so : (g : How) → HasSetFor k w (Some g) → g ≡ how.Memory → IsKnown v 0
  memory_so how.Memory s e = known_so s.known.0 s.known.1
  memory_so how.Halted s e = cc
  memory_so how.Done s e = cc
  memory_so (how.Fault d) s e = cc

  tells : TellsEnd (plan_bounds p) v k h vs
  tells = record {
    caused = λ context x m. ⊎_elim (λ a. caused_seat h refl ended_so context x a) (λ b. caused_until context x b) (among_append (interruption context x) w.set those.set m);
    halted = obeys;
    fault = λ c e. fault_so h c ended_so e;
    memory = λ e. memory_so h ended_so e;
    until = λ j e. let s = until_spec p j k e in let r = those.each j s.0 s.1 in ⊎_elim (λ a. inl (r.0, set_in (interruption (suc j) r.0) (among_right (interruption (suc j) r.0) w.set those.set a))) (λ b. inr (r.0, seen_in (interruption (suc j) r.0) (among_right (interruption (suc j) r.0) w.seen those.seen b))) r.1;
  }

  pub is_tale : IsTale (plan_bounds p) v
  is_tale = end_tells (plan_bounds p) t k h vs cs i o tells
