-- A turn of a pipe from the turn of what is below it.
use Rattle.std.proofs.Common.{◌≡◌, inl, inr, ℕ, zero, suc, ◌+◌, ◌≤◌, List, [], ◌++◌, length, Some, refl, sym, ◌∙◌, subst, arith, append-nil, Box, Global}
use Rattle.chunk_core.specs.declared.code.Code.{Code}
use Rattle.chunk_core.specs.declared.code.Code.TheVariants as code
use Rattle.chunk_core.specs.declared.feed.Fed.{Fed}
use Rattle.chunk_core.specs.declared.feed.Fed.TheVariants as fed
use Rattle.chunk_core.specs.declared.load.Load.{Load}
use Rattle.chunk_core.specs.Elements.{Element, LoadKind, elements, kind_of}
use Rattle.chunk_core.specs.Elements.LoadKind.{Bytes, Lines}
use Rattle.chunk_core.specs.Feed.{Feeds, IsSound, Meaning}
use Rattle.chunk_core.specs.Outcomes.{Fault, Cut}
use Rattle.device_port.specs.Device.{DeviceTold}
use Rattle.pull_nodes.specs.Laws.{IsNoDeviceFault}
use Rattle.pull_nodes.proofs.OwnFaults.{own_faults}
use Rattle.pull_turns.specs.Around.{Around}
use Rattle.pull_turns.specs.Groups.{HasNoGroups}
use Rattle.pull_turns.specs.Moves.{load_or_quiet}
use Rattle.pull_turns.specs.Passing.{IsFed, after_fed, after_pipe, load_or_fault, same_or_faulty, turn_of_fed}
use Rattle.pull_turns.specs.Piping.{CanPass, HasKind, PipeStands, PipedOn, PipesFit, StateMeaning}
use Rattle.pull_turns.specs.Rest.{IsLive, IsReady, IsRunOfRest, left, rows_left, scopes_left}
use Rattle.pull_turns.specs.Turned.{OwnScopes, TellsAtEnd, Gave, GivesKind, GoesOn, HasCause, IsLoadOrDone, Moved, TurnIsCaused, Over, Turned}
use Rattle.pull_turns.specs.Turned.HasFinished.{through}
use Rattle.pull_turns.specs.declared.piping.After.{After}
use Rattle.pull_turns.specs.declared.piping.After.TheVariants as after
use Rattle.pull_turns.specs.declared.rest.Rest.{Rest}
use Rattle.pull_turns.specs.declared.rest.Rest.TheVariants.{Through', Faulty}
use Rattle.pull_turns.specs.declared.turn.Turn.{Turn}
use Rattle.pull_turns.specs.declared.turn.Turn.TheVariants as turn
use Rattle.pull_turns.proofs.Leads.{by_left, can_stop}
use Rattle.pull_turns.proofs.Lists.{no_length}
use Rattle.pull_turns.proofs.Piped.{at_fault, fault_fed, load_fed, none_fed, nothing_fed, some_piped}
use Rattle.pull_turns.proofs.Unwritten.{writes_no_more, stays_well}
use Rattle.pull_turns.proofs.Turns.{by_three, cause_none, cause_part, caused_part, one_of_three, chunk_goes_on, quiet_goes_on}

-- a fault of a pipe is none of a device
pub own_cause : {F : Type 0} (a b : ℕ → DeviceTold) (r : Rest F) (c : Code) → IsNoDeviceFault (Some c) → HasCause a b r (turn.Fault c)
own_cause a b r c h = record {
  open_fault = λ e. let i : Some c ≡ Some code.Open = cc in absurd (h.opening i);
  read_fault = λ e. let i : Some c ≡ Some code.Read = cc in absurd (h.reading i);
  write_fault = λ e. let i : Some c ≡ Some code.Write = cc in absurd (h.writing i);
}

-- no load is of two kinds
one_kind : (l : Load) → ((k : LoadKind) → kind_of l ≡ k) → ⊥
one_kind l f = let a : kind_of l ≡ Bytes = f Bytes in let b : kind_of l ≡ Lines = f Lines in cc

-- what was touched below a pipe
pub below_moved : {F : Type 0} (a b : Around) (p : Box (Unit {0}) Global) (x : Rest F) (q : F) → Moved a b x → Moved a b (Through' p x q)
below_moved a b p x q h = record { keeps = h.keeps; goes = h.goes }

-- the pipe may get what came of a turn below it
pub can_pass : {F : Type 0} (P : StateMeaning F) (a b : Around) (s n : ℕ) (x new : Rest F) (q : F) → PipeStands P q x → (t : Turn) → Turned P a b s n x new t → CanPass P q t
can_pass P a b s n x new q fit (turn.Chunk l) h = (fit.1, fit.2, fit.4, sym (h.kinds fit.1.takes fit.5).0)
can_pass P a b s n x new q fit turn.Quiet h = tt
can_pass P a b s n x new q fit turn.Done h = inl (fit.1, fit.2, fit.4)
can_pass P a b s n x new q fit (turn.Fault c) h = tt

module _ {F : Type 0} (P : StateMeaning F) (sound : (q : F) → IsSound (P.stands q)) (a b : Around) (s n : ℕ) (p p' : Box (Unit {0}) Global) (x new : Rest F) (q r : F) (fit : PipesFit P (Through' p x q)) (plain : HasNoGroups x) (still : HasNoGroups new) where
  -- the pipe stays where it is, or stands alone
  pub whole : (z : Rest F) (t u : Turn) → Turned P a b s n x new t → (IsLoadOrDone u → IsLoadOrDone t) → ((k : ℕ) → IsLive k z → IsLive k new) → left z ≤ left new + 1 → rows_left z ≤ rows_left new → scopes_left z ≤ scopes_left new
      → (GoesOn u → IsReady b s z) → (GoesOn u → OwnScopes a b s x z) → (GoesOn u → PipesFit P z) → ((k : LoadKind) → HasKind P k (Through' p x q) → GivesKind P k z u) → (GoesOn u → TurnIsCaused P a.told b.told (Through' p x q) z)
      → HasCause a.told b.told x u → Gave P b.told (Through' p x q) z u → Turned P a b s n (Through' p x q) z u
  whole z t u h gives live fewer rows rooms ready scopes pipes kinds caused cause gave = record {
    moved = below_moved a b p x q h.moved;
    once = h.once;
    writes = λ i. h.writes (gives i);
    live = λ k i. h.live k (live k i);
    fewer = omega (arith, fewer, h.fewer);
    spends = record { events = omega (arith, rows, rooms, h.spends.events); scopes = omega (arith, rooms, h.spends.scopes); rows = omega (arith, rows, h.spends.rows) };
    ready = ready;
    scopes = scopes;
    pipes = pipes;
    kinds = kinds;
    caused = by_three P a.told b.told (Through' p x q) z u caused;
    cause = cause_part a.told b.told x (Through' p x q) u (λ k i. i) cause;
    gave = gave;
  }

  pub same : (t u : Turn) (f : F) → Turned P a b s n x new t → (GoesOn u → GoesOn t) → (IsLoadOrDone u → IsLoadOrDone t) → (GoesOn u → PipesFit P (Through' p' new f)) → ((k : LoadKind) → HasKind P k (Through' p x q) → GivesKind P k (Through' p' new f) u)
      → HasCause a.told b.told x u → Gave P b.told (Through' p x q) (Through' p' new f) u → Turned P a b s n (Through' p x q) (Through' p' new f) u
  same t u f h on gives pipes kinds cause gave =
      whole (Through' p' new f) t u h gives (λ k i. i) (omega arith) (omega arith) (omega arith) (λ i. (h.ready (on i), still)) (λ i. h.scopes (on i)) pipes kinds
      (λ i. caused_part P a.told b.told x new (Through' p x q) (Through' p' new f) (λ l. omega (arith, l)) (λ k j. j) (λ e. through p p' x new q f e) (one_of_three P a.told b.told x new t plain h.caused (on i)))
      cause gave

  -- what is below is asked no more
  pub over_below : (w : ℕ → DeviceTold) → Over b.told w (Through' p x q) → Over b.told w x
  over_below w o = record { over = o.over; goes = o.goes }

  pub ends_over : (w : ℕ → DeviceTold) (z : Rest F) → ((k : ℕ) → IsLive k z → ⊥) → TellsAtEnd b.told w (Through' p x q) z → Over b.told w x
  ends_over w z none e = record { over = λ k i. e.over k i (none k); goes = e.goes }

  ends_below : (w : ℕ → DeviceTold) (f : F) → TellsAtEnd b.told w (Through' p x q) (Through' p' new f) → TellsAtEnd b.told w x new
  ends_below w f e = record { over = e.over; goes = e.goes }

  pub quiet_step : Turned P a b s n x new turn.Quiet → Turned P a b s n (Through' p x q) (Through' p' new q) turn.Quiet
  quiet_step h = same turn.Quiet turn.Quiet q h (λ i. i) (λ i. i)
      (λ i. (h.pipes tt, (fit.1.0, fit.1.1, fit.1.2, fit.1.3, fit.1.4, h.kinds fit.1.1.takes fit.1.5)))
      (λ k. elim [ inl i ↦ inl (i.0, i.1, i.2, h.kinds i.0.takes i.3, i.4) | inr i ↦ inr (λ j. h.kinds j (i.0 j), i.1) ])
      (cause_none a.told b.told _ _ quiet_goes_on)
      (λ w e. record {
        gives = λ ys g run m xs st k.
            (by_left (none_fed m xs (IsRunOfRest P w new) (IsRunOfRest P w x) (h.gave w (ends_below w q e))) (λ i. some_piped m xs (IsRunOfRest P w new) (sound q m xs st) (can_stop P w new i))).gives ys g (run m xs st (h.kinds m.takes k));
      })

  pub fault_step : (c : Code) → Turned P a b s n x new (turn.Fault c) → Turned P a b s n (Through' p x q) (Through' p' new q) (turn.Fault c)
  fault_step c h = same (turn.Fault c) (turn.Fault c) q h (λ i. i) (λ i. i) (λ i. absurd i) (λ k i. tt) h.cause
      (λ w o m xs st k. inl (at_fault m xs (IsRunOfRest P w x) c (sound q m xs st) (h.gave w (over_below w o))))

  -- what is below gave a load, which the pipe was fed
  module _ (l : Load) (h : Turned P a b s n x new (turn.Chunk l)) where
    abbrev Answered : Fed → Type 0
    Answered answer = (m : Meaning) (xs : List Element) → P.stands q m xs → m.takes ≡ kind_of l → Feeds m xs (elements l) answer (P.stands r m)

    -- the load was all that came of what is below
    stopped_below : (w : ℕ → DeviceTold) → Over b.told w x → IsRunOfRest P w x (elements l) Cut
    stopped_below w o =
        let ends : TellsAtEnd b.told w x new = record { over = λ k i never. o.over k i; goes = o.goes } in
        let none = writes_no_more b w s new (h.ready tt) (λ k i. stays_well (b.told k) (w k) (o.over k (h.live k i))) in
        subst (λ zs. IsRunOfRest P w x zs Cut) (append-nil (elements l)) ((h.gave.1 w ends).gives [] Cut (can_stop P w new none))

    out_kinds : (o : Load) → Answered (fed.Out o)
        → (k : LoadKind) → HasKind P k (Through' p x q) → (kind_of o ≡ k) × HasKind P k (Through' p' new r)
    out_kinds o f k = elim [
      | inl i ↦
          let j = h.kinds i.0.takes i.3 in
          let g = f i.0 i.1 i.2 (sym j.0) in
          (g.0.kind ∙ i.4, inl (i.0, i.1 ++ elements l, g.1, j.1, i.4))
      | inr i ↦ absurd (one_kind l (λ j. (h.kinds j (i.0 j)).0))
    ]

    fault_kinds : (o : Load) (c : Code) → Answered (fed.Fault o c)
        → (k : LoadKind) → HasKind P k (Through' p x q) → kind_of o ≡ k
    fault_kinds o c f k = elim [
      | inl i ↦ (f i.0 i.1 i.2 (sym (h.kinds i.0.takes i.3).0)).kind ∙ i.4
      | inr i ↦ absurd (one_kind l (λ j. (h.kinds j (i.0 j)).0))
    ]

    out_fits : (o : Load) → Answered (fed.Out o) → PipesFit P (Through' p' new r)
    out_fits o f =
        let j = h.kinds fit.1.1.takes fit.1.5 in
        let g = f fit.1.1 fit.1.2 fit.1.4 (sym j.0) in
        (h.pipes tt, (fit.1.0, fit.1.1, fit.1.2 ++ elements l, fit.1.3, g.1, j.1))

    fault_own : (o : Load) (c : Code) → Answered (fed.Fault o c) → IsNoDeviceFault (Some c)
    fault_own o c f =
        let g = f fit.1.1 fit.1.2 fit.1.4 (sym (h.kinds fit.1.1.takes fit.1.5).0) in
        subst IsNoDeviceFault g.fault (own_faults P.values fit.1.0 fit.1.1 fit.1.3 (fit.1.2 ++ elements l)).0

    out_step : (o : Load) → Answered (fed.Out o)
        → (k : ℕ) → length (elements o) ≡ k → Turned P a b s n (Through' p x q) (Through' p' new r) (load_or_quiet k o)
    out_step o f zero e =
        same (turn.Chunk l) turn.Quiet r h (λ i. tt) (λ i. tt) (λ i. out_fits o f) (λ k i. (out_kinds o f k i).1) (cause_none a.told b.told _ _ quiet_goes_on)
        (λ w d. record {
          gives = λ ys g run m xs st k.
              let j = h.kinds m.takes k in
              let fed = f m xs st (sym j.0) in
              (by_left (nothing_fed m xs (elements l) o (IsRunOfRest P w new) (IsRunOfRest P w x) (no_length (elements o) e) fed.0 (h.gave.1 w (ends_below w r d)))
              (λ i. some_piped m (xs ++ elements l) (IsRunOfRest P w new) fed.0.fault (can_stop P w new i))).gives ys g (run m (xs ++ elements l) fed.1 j.1);
        })
    out_step o f (suc k) e =
        same (turn.Chunk l) (turn.Chunk o) r h (λ i. tt) (λ i. tt) (λ i. out_fits o f) (out_kinds o f) (cause_none a.told b.told _ _ (chunk_goes_on o)) (
          omega (arith, e),
          λ w d. record {
            gives = λ ys g run m xs st k.
                let j = h.kinds m.takes k in
                let fed = f m xs st (sym j.0) in
                (by_left (load_fed m xs (elements l) o (IsRunOfRest P w new) (IsRunOfRest P w x) fed.0 (h.gave.1 w (ends_below w r d)))
                (λ i. some_piped m (xs ++ elements l) (IsRunOfRest P w new) fed.0.fault (can_stop P w new i))).gives ys g (run m (xs ++ elements l) fed.1 j.1);
          },
        )

    failed_step : (o : Load) (c : Code) → Answered (fed.Fault o c) → (k : ℕ) → length (elements o) ≡ k
        → Turned P a b s n (Through' p x q) (after_pipe (same_or_faulty k c) (Through' p' new r)) (load_or_fault k o c)
    failed_step o c f zero e =
        same (turn.Chunk l) (turn.Fault c) r h (λ i. absurd i) (λ i. tt) (λ i. absurd i) (λ k i. tt) (own_cause a.told b.told x c (fault_own o c f))
        (λ w d m xs st k.
        let lead = fault_fed m xs (elements l) o c (IsRunOfRest P w x) (f m xs st (sym (h.kinds m.takes k).0)) (stopped_below w (over_below w d)) in
        let run : PipedOn m xs (IsRunOfRest P w x) (elements o ++ []) (Fault c) = lead.gives [] (Fault c) (refl, refl) in
        inl (subst (λ zs. PipedOn m xs (IsRunOfRest P w x) zs (Fault c)) (append-nil (elements o) ∙ no_length (elements o) e) run))
    failed_step o c f (suc k) e =
        whole (Faulty c) (turn.Chunk l) (turn.Chunk o) h (λ i. tt) (λ k i. absurd i) (omega arith) (omega arith) (omega arith) (λ i. tt) (λ i d j. absurd j) (λ i. fault_own o c f) (λ k i. (fault_kinds o c f k i, tt))
        (λ i. inl (omega arith)) (cause_none a.told b.told _ _ (chunk_goes_on o)) (
          omega (arith, e),
          λ w d. record {
            gives = λ ys g run m xs st k.
                (by_left (fault_fed m xs (elements l) o c (IsRunOfRest P w x) (f m xs st (sym (h.kinds m.takes k).0)) (stopped_below w (ends_over w (Faulty c) (λ i j. j) d))) (λ i. ([], Fault c, (refl, refl)))).gives ys g run;
          },
        )

    fed_by : (answer : Fed) → Answered answer → Turned P a b s n (Through' p x q) (after_pipe (after_fed answer after.Same) (Through' p' new r)) (turn_of_fed answer)
    fed_by (fed.Out o) f = out_step o f (length (elements o)) refl
    fed_by fed.End f = absurd (f fit.1.1 fit.1.2 fit.1.4 (sym (h.kinds fit.1.1.takes fit.1.5).0))
    fed_by (fed.Fault o c) f = failed_step o c f (length (elements o)) refl

    pub fed_step : (u : Turn) (z : After) → IsFed P q r l u z → Turned P a b s n (Through' p x q) (after_pipe z (Through' p' new r)) u
    fed_step u z f = rw (f.turn, f.after) (fed_by f.answer f.feeds)
