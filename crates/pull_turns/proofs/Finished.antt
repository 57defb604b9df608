-- A turn of a pipe whose input has ended.
use Rattle.std.proofs.Common.{◌≡◌, inl, inr, ℕ, zero, suc, ◌<◌, List, [], ◌++◌, length, Some, refl, sym, ◌∙◌, ap, subst, arith, append-nil, Box, Global}
use Rattle.chunk_core.specs.declared.code.Code.{Code}
use Rattle.chunk_core.specs.declared.feed.Fed.{Fed}
use Rattle.chunk_core.specs.declared.feed.Fed.TheVariants as fed
use Rattle.chunk_core.specs.declared.load.Load.{Load}
use Rattle.chunk_core.specs.Elements.{Element, LoadKind, elements, kind_of}
use Rattle.chunk_core.specs.Feed.{Finishes, IsSound, Meaning}
use Rattle.chunk_core.specs.Outcomes.{Done, Fault}
use Rattle.pull_nodes.specs.Laws.{IsNoDeviceFault}
use Rattle.pull_nodes.proofs.OwnFaults.{own_faults}
use Rattle.pull_turns.specs.Around.{Around}
use Rattle.pull_turns.specs.Groups.{HasNoGroups}
use Rattle.pull_turns.specs.Moves.{load_or_quiet}
use Rattle.pull_turns.specs.Passing.{PipeGaveMore, Passes, after_fed, after_pipe, load_or_fault, same_or_faulty, turn_of_fed}
use Rattle.pull_nodes.specs.Runs.{Exactly, end_by_fault}
use Rattle.pull_turns.specs.Piping.{HasKind, PipedOn, PipesFit, StateMeaning}
use Rattle.pull_turns.specs.Rest.{IsRunOfRest}
use Rattle.pull_turns.specs.Turned.{Leads, Turned}
use Rattle.pull_turns.specs.declared.piping.After.{After}
use Rattle.pull_turns.specs.declared.piping.After.TheVariants as after
use Rattle.pull_turns.specs.declared.rest.Rest.{Rest}
use Rattle.pull_turns.specs.declared.rest.Rest.TheVariants.{Through', Finishing, Faulty}
use Rattle.pull_turns.specs.declared.turn.Turn.{Turn}
use Rattle.pull_turns.specs.declared.turn.Turn.TheVariants as turn
use Rattle.pull_turns.proofs.Leads.{by_left}
use Rattle.pull_turns.proofs.Lists.{no_front, no_length, no_rest}
use Rattle.pull_turns.proofs.Passed.{ends_over, fault_step, fed_step, over_below, own_cause, quiet_step, same, whole}
use Rattle.pull_turns.proofs.Piped.{at_end}
use Rattle.pull_turns.proofs.Turns.{cause_none, chunk_goes_on, done_is_no_fault}

-- what the pipe gives now, and then what is still to come, is what it gives at the end
whole_list : (given all rest xs ys : List Element) → given ++ rest ≡ all → rest ≡ xs ++ ys → given ++ (xs ++ ys) ≡ all
whole_list given all rest xs ys w e = ap (λ us. given ++ us) (sym e) ∙ w

module _ {F : Type 0} (P : StateMeaning F) (sound : (q : F) → IsSound (P.stands q)) (a b : Around) (s n : ℕ) (p p' : Box (Unit {0}) Global) (x new : Rest F) (q r : F) (fit : PipesFit P (Through' p x q)) (plain : HasNoGroups x) (still : HasNoGroups new) (h : Turned P a b s n x new turn.Done) where
  abbrev Answered : Fed → Type 0
  Answered answer = (m : Meaning) (xs : List Element) → P.stands q m xs → Finishes m xs answer (P.comes r m.gives)

  -- a pipe that makes nothing of nothing gives no load
  no_out : (o : Load) → Answered (fed.Out o) → (m : Meaning) → P.stands q m [] → (m.all []).list ≡ [] → ⊥
  no_out o f m st e =
      let g = f m [] st in
      let none : g.rest ≡ [] = no_rest (m.part []).list g.rest (g.whole ∙ e) in
      no_front (elements o) g.given.2 (sym none ∙ g.given.3) g.given.1

  out_kinds : (o : Load) → Answered (fed.Out o) → (k : LoadKind) → HasKind P k (Through' p x q) → (kind_of o ≡ k) × HasKind P k (Finishing r)
  out_kinds o f k = elim [
    | inl i ↦
        let g = f i.0 i.1 i.2 in
        (g.given.0 ∙ i.4, inl (g.given.2, (i.0.all i.1).fault, subst (λ j. P.comes r j g.given.2 (i.0.all i.1).fault) i.4 g.given.4))
    | inr i ↦ absurd (no_out o f i.1.0 i.1.1 i.1.2)
  ]

  fault_kinds : (o : Load) (c : Code) → Answered (fed.Fault o c) → 0 < length (elements o) → (k : LoadKind) → HasKind P k (Through' p x q) → kind_of o ≡ k
  fault_kinds o c f some k = elim [
    | inl i ↦ (f i.0 i.1 i.2).given.0 ∙ i.4
    | inr i ↦
        let g = f i.1.0 [] i.1.1 in
        let none : elements o ≡ [] = sym g.given.1 ∙ no_rest (i.1.0.part []).list g.rest (g.whole ∙ i.1.2) in
        absurd (no_front (elements o) [] (sym (append-nil (elements o) ∙ none)) some)
  ]

  end_own : IsNoDeviceFault (fit.1.1.all fit.1.2).fault
  end_own = (own_faults P.values fit.1.0 fit.1.1 fit.1.3 fit.1.2).1

  out_step : (o : Load) → Answered (fed.Out o) → (k : ℕ) → length (elements o) ≡ k → Turned P a b s n (Through' p x q) (Finishing r) (load_or_quiet k o)
  out_step o f zero e = absurd (let g = f fit.1.1 fit.1.2 fit.1.4 in let some : 0 < length (elements o) = g.given.1 in omega (arith, e, some))
  out_step o f (suc k) e =
      whole P sound a b s n p p' x new q r fit plain still (Finishing r) turn.Done (turn.Chunk o) h (λ i. tt) (λ k i. absurd i) (omega arith) (omega arith) (omega arith) (λ i. tt) (λ i c j. absurd j)
      (λ i. let g = f fit.1.1 fit.1.2 fit.1.4 in (fit.1.1.gives, g.given.2, (fit.1.1.all fit.1.2).fault, g.given.4, end_own))
      (out_kinds o f) (λ i. inl (omega arith)) (cause_none a.told b.told _ _ (chunk_goes_on o)) (
        omega (arith, e),
        λ w d. record {
          gives = λ ys end run m xs st k.
              let g = f m xs st in
              let to : Leads (elements o) (Exactly g.given.2 (end_by_fault (m.all xs).fault Done)) (PipedOn m xs (IsRunOfRest P w x)) = record {
                gives = λ zs g2 i.
                    at_end m xs (IsRunOfRest P w x) (elements o ++ zs) g2 (sound q m xs st) (h.gave w (ends_over P sound a b s n p p' x new q r fit plain still w (Finishing r) (λ i j. j) d))
                    (ap (λ us. (m.part xs).list ++ (elements o ++ us)) i.0 ∙ whole_list (m.part xs).list (m.all xs).list g.rest (elements o) g.given.2 g.whole g.given.3) i.1;
              } in
              (by_left to (λ i. (g.given.2, end_by_fault (m.all xs).fault Done, (refl, refl)))).gives ys end (run m.gives g.given.2 (m.all xs).fault g.given.4);
        },
      )

  -- what the pipe gave with the end is all that it gives
  last_list : (o : Load) (c : Code) → Answered (fed.Fault o c) → (m : Meaning) (xs : List Element) → P.stands q m xs → (m.part xs).list ++ elements o ≡ (m.all xs).list
  last_list o c f m xs st = let g = f m xs st in ap (λ us. (m.part xs).list ++ us) (sym g.given.1) ∙ g.whole

  last_fault : (o : Load) (c : Code) → Answered (fed.Fault o c) → (m : Meaning) (xs : List Element) → P.stands q m xs → Fault c ≡ end_by_fault (m.all xs).fault Done
  last_fault o c f m xs st = ap (λ d. end_by_fault d Done) (sym (f m xs st).given.2)

  fault_own : (o : Load) (c : Code) → Answered (fed.Fault o c) → IsNoDeviceFault (Some c)
  fault_own o c f = subst IsNoDeviceFault (f fit.1.1 fit.1.2 fit.1.4).given.2 end_own

  failed_step : (o : Load) (c : Code) → Answered (fed.Fault o c) → (k : ℕ) → length (elements o) ≡ k
      → Turned P a b s n (Through' p x q) (after_pipe (same_or_faulty k c) (Through' p' new r)) (load_or_fault k o c)
  failed_step o c f zero e =
      same P sound a b s n p p' x new q r fit plain still turn.Done (turn.Fault c) r h (λ i. absurd i) (λ i. tt) (λ i. absurd i) (λ k i. tt) (own_cause a.told b.told x c (fault_own o c f))
      (λ w d m xs st k.
      let list : (m.part xs).list ++ [] ≡ (m.all xs).list = ap (λ us. (m.part xs).list ++ us) (sym (no_length (elements o) e)) ∙ last_list o c f m xs st in
      inl (at_end m xs (IsRunOfRest P w x) [] (Fault c) (sound q m xs st) (h.gave w (over_below P sound a b s n p p' x new q r fit plain still w d)) list (last_fault o c f m xs st)))
  failed_step o c f (suc k) e =
      whole P sound a b s n p p' x new q r fit plain still (Faulty c) turn.Done (turn.Chunk o) h (λ i. tt) (λ k i. absurd i) (omega arith) (omega arith) (omega arith) (λ i. tt) (λ i d j. absurd j) (λ i. fault_own o c f)
      (λ k i. (fault_kinds o c f (omega (arith, e)) k i, tt)) (λ i. inl (omega arith)) (cause_none a.told b.told _ _ (chunk_goes_on o)) (
        omega (arith, e),
        λ w d. record {
          gives = λ ys end run m xs st k.
              let to : Leads (elements o) (Exactly [] (Fault c)) (PipedOn m xs (IsRunOfRest P w x)) = record {
                gives = λ zs g i.
                    at_end m xs (IsRunOfRest P w x) (elements o ++ zs) g (sound q m xs st) (h.gave w (ends_over P sound a b s n p p' x new q r fit plain still w (Faulty c) (λ i j. j) d))
                    (ap (λ us. (m.part xs).list ++ (elements o ++ us)) i.0 ∙ (ap (λ us. (m.part xs).list ++ us) (append-nil (elements o)) ∙ last_list o c f m xs st)) (i.1 ∙ last_fault o c f m xs st);
              } in
              (by_left to (λ i. ([], Fault c, (refl, refl)))).gives ys end run;
        },
      )

  end_step : Answered fed.End → Turned P a b s n (Through' p x q) (Through' p' new r) turn.Done
  end_step f =
      same P sound a b s n p p' x new q r fit plain still turn.Done turn.Done r h (λ i. i) (λ i. i) (λ i. absurd i) (λ k i. tt) (cause_none a.told b.told _ _ done_is_no_fault)
      (λ w d m xs st k.
      let g = f m xs st in
      let list : (m.part xs).list ++ [] ≡ (m.all xs).list = ap (λ us. (m.part xs).list ++ us) (sym g.given.0) ∙ g.whole in
      inl (at_end m xs (IsRunOfRest P w x) [] Done (sound q m xs st) (h.gave w (over_below P sound a b s n p p' x new q r fit plain still w d)) list (ap (λ c. end_by_fault c Done) (sym g.given.1))))

  ended_by : (answer : Fed) → Answered answer → Turned P a b s n (Through' p x q) (after_pipe (after_fed answer after.Finishing) (Through' p' new r)) (turn_of_fed answer)
  ended_by (fed.Out o) f = out_step o f (length (elements o)) refl
  ended_by fed.End f = end_step f
  ended_by (fed.Fault o c) f = failed_step o c f (length (elements o)) refl

  ended_step : (u : Turn) (z : After) → PipeGaveMore P q r u z → Turned P a b s n (Through' p x q) (after_pipe z (Through' p' new r)) u
  ended_step u z f = rw (f.turn, f.after) (ended_by f.answer f.first)

module _ {F : Type 0} (P : StateMeaning F) (sound : (q : F) → IsSound (P.stands q)) (a b : Around) (s n : ℕ) (p p' : Box (Unit {0}) Global) (x new : Rest F) (q r : F) (fit : PipesFit P (Through' p x q)) (plain : HasNoGroups x) (still : HasNoGroups new) where
  kept : (z : After) (u t : Turn) → r ≡ q → u ≡ t → z ≡ after.Same → Turned P a b s n (Through' p x q) (Through' p' new q) t → Turned P a b s n (Through' p x q) (after_pipe z (Through' p' new r)) u
  kept z u t e i j h = rw (e, i, j) h

  pub through_step : (t u : Turn) (z : After) → Passes P q r t u z → Turned P a b s n x new t → Turned P a b s n (Through' p x q) (after_pipe z (Through' p' new r)) u
  through_step (turn.Chunk l) u z f h = fed_step P sound a b s n p p' x new q r fit plain still l h u z f
  through_step turn.Quiet u z f h = kept z u turn.Quiet f.0 f.1 f.2 (quiet_step P sound a b s n p p' x new q r fit plain still h)
  through_step turn.Done u z f h = ended_step P sound a b s n p p' x new q r fit plain still h u z f
  through_step (turn.Fault c) u z f h = kept z u (turn.Fault c) f.0 f.1 f.2 (fault_step P sound a b s n p p' x new q r fit plain still c h)
