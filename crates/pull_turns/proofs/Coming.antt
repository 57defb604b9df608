-- A turn of a pipe whose input had ended before, and of a fault that comes next; a pipe is entered.
use Rattle.std.proofs.Common.{◌≡◌, inl, inr, ℕ, zero, suc, ◌<◌, List, [], ◌++◌, length, Option, Some, refl, sym, ◌∙◌, ap, subst, arith, append-nil, Box, Global}
use Rattle.chunk_core.specs.declared.code.Code.{Code}
use Rattle.chunk_core.specs.declared.feed.Fed.{Fed}
use Rattle.chunk_core.specs.declared.feed.Fed.TheVariants as fed
use Rattle.chunk_core.specs.declared.load.Load.{Load}
use Rattle.chunk_core.specs.Elements.{Element, LoadKind, elements, kind_of}
use Rattle.chunk_core.specs.Feed.{Continues, IsSound, Meaning}
use Rattle.chunk_core.specs.Outcomes.{Done, Fault, Outcomes}
use Rattle.pull_nodes.specs.Laws.{IsNoDeviceFault}
use Rattle.pull_nodes.specs.Pipes.{IsMeaningOver, meaning_over, part_of, all_of}
use Rattle.pull_nodes.specs.Runs.{Exactly, GivesBy, IsRun, Piped, end_by_fault}
use Rattle.chunk_core.specs.Tables.{Values}
use Rattle.pull_nodes.specs.declared.node.Node.{Node}
use Rattle.pull_nodes.specs.declared.node.Node.TheVariants as node
use Rattle.pull_nodes.specs.declared.pipe.Pipe.{Pipe}
use Rattle.pull_nodes.proofs.Beginnings.{part_of-nil}
use Rattle.pull_nodes.proofs.Meanings.{is_meaning_over}
use Rattle.pull_turns.specs.Around.{Around}
use Rattle.pull_turns.specs.Moves.{load_or_quiet}
use Rattle.pull_turns.specs.Passing.{PipeGaveMore, after_fed, after_pipe, load_or_fault, same_or_faulty, turn_of_fed}
use Rattle.pull_turns.specs.Piping.{HasKind, PipedOn, PipesFit, StateMeaning}
use Rattle.pull_turns.specs.Rest.{CanStep}
use Rattle.pull_turns.specs.Turned.{Leads, Turned}
use Rattle.pull_turns.specs.Turned.HasFinished.{next, last}
use Rattle.pull_turns.specs.declared.piping.After.{After}
use Rattle.pull_turns.specs.declared.piping.After.TheVariants as after
use Rattle.pull_turns.specs.declared.rest.Rest.TheVariants.{Start, Through', Finishing, Faulty}
use Rattle.pull_turns.specs.declared.turn.Turn.{Turn}
use Rattle.pull_turns.specs.declared.turn.Turn.TheVariants as turn
use Rattle.pull_turns.proofs.Leads.{by_left}
use Rattle.pull_turns.proofs.Lists.{no_front, no_length}
use Rattle.pull_turns.proofs.Passed.{own_cause}
use Rattle.pull_turns.proofs.Piped.{more_comes, some_piped}
use Rattle.pull_turns.proofs.Turns.{cause_none, chunk_goes_on, done_is_no_fault, quiet_goes_on, turned_same}

module _ {F : Type 0} (P : StateMeaning F) (a : Around) (s n : ℕ) where
  pub faulty_step : (c : Code) → PipesFit P (Faulty c) → Turned P a a s n (Faulty c) (Faulty c) (turn.Fault c)
  faulty_step c fit = turned_same P a s n _ _ _ (λ p i. i) (omega arith) (omega arith) (omega arith) (λ c i. i) (λ g. absurd g) (λ g. absurd g) (λ k i. tt) (λ g. absurd g)
      (own_cause a.told a.told (Faulty c) c fit) (λ w o. inl (refl, refl))

  module _ (q r : F) (fit : PipesFit P (Finishing q)) where
    abbrev Answered : Fed → Type 0
    Answered answer = (k : LoadKind) (ys : List Element) (c : Option Code) → P.comes q k ys c → Continues k ys c answer (P.comes r k)

    out_kinds : (o : Load) → Answered (fed.Out o) → (k : LoadKind) → HasKind P k (Finishing q) → (kind_of o ≡ k) × HasKind P k (Finishing r)
    out_kinds o f k = elim [
      | inl i ↦ let g = f k i.0 i.1 i.2 in (g.0, inl (g.2, i.1, g.4))
      | inr i ↦ let g = f i.0 [] i.1 i.2 in absurd (no_front (elements o) g.2 g.3 g.1)
    ]

    fault_kinds : (o : Load) (d : Code) → Answered (fed.Fault o d) → 0 < length (elements o) → (k : LoadKind) → HasKind P k (Finishing q) → kind_of o ≡ k
    fault_kinds o d f some k = elim [
      | inl i ↦ (f k i.0 i.1 i.2).0
      | inr i ↦ let g = f i.0 [] i.1 i.2 in absurd (no_front (elements o) [] (g.1 ∙ sym (append-nil (elements o))) some)
    ]

    fault_own : (o : Load) (d : Code) → Answered (fed.Fault o d) → IsNoDeviceFault (Some d)
    fault_own o d f = subst IsNoDeviceFault (f fit.0 fit.1 fit.2 fit.3).2 fit.4

    out_step : (o : Load) → Answered (fed.Out o) → (k : ℕ) → length (elements o) ≡ k → Turned P a a s n (Finishing q) (Finishing r) (load_or_quiet k o)
    out_step o f zero e = absurd (let g = f fit.0 fit.1 fit.2 fit.3 in let some : 0 < length (elements o) = g.1 in omega (arith, e, some))
    out_step o f (suc k) e =
        turned_same P a s n _ _ _ (λ p i. i) (omega arith) (omega arith) (omega arith) (λ c i. i) (λ g. tt)
        (λ i. let g = f fit.0 fit.1 fit.2 fit.3 in (fit.0, g.2, fit.2, g.4, fit.4))
        (out_kinds o f)
        (λ i. inr (inr (next q r (λ j ys c h. let g = f j ys c h in (elements o, g.2, g.1, g.3, g.4)))))
        (cause_none a.told a.told _ _ (chunk_goes_on o)) (
          omega (arith, e),
          λ w d. record {
            gives = λ ys end run k xs c h.
                let g = f k xs c h in
                (by_left (more_comes (elements o) xs g.2 (end_by_fault c Done) g.3) (λ i. (g.2, end_by_fault c Done, (refl, refl)))).gives ys end (run k g.2 c g.4);
          },
        )

    failed_step : (o : Load) (d : Code) → Answered (fed.Fault o d) → (k : ℕ) → length (elements o) ≡ k
        → Turned P a a s n (Finishing q) (after_pipe (same_or_faulty k d) (Finishing r)) (load_or_fault k o d)
    failed_step o d f zero e =
        turned_same P a s n _ _ _ (λ p i. i) (omega arith) (omega arith) (omega arith) (λ c i. i) (λ i. absurd i) (λ i. absurd i) (λ k i. tt) (λ i. absurd i)
        (own_cause a.told a.told (Finishing q) d (fault_own o d f))
        (λ w i k xs c h. let g = f k xs c h in inl (sym (g.1 ∙ no_length (elements o) e), ap (λ g. end_by_fault g Done) (sym g.2)))
    failed_step o d f (suc k) e =
        turned_same P a s n _ _ _ (λ p i. i) (omega arith) (omega arith) (omega arith) (λ c i. i) (λ i. tt) (λ i. fault_own o d f) (λ k i. (fault_kinds o d f (omega (arith, e)) k i, tt))
        (λ i. inr (inr (last q d (λ j ys c h. let g = f j ys c h in (subst (λ zs. 0 < length zs) (sym g.1) (omega (arith, e)), g.2)))))
        (cause_none a.told a.told _ _ (chunk_goes_on o)) (
          omega (arith, e),
          λ w i. record {
            gives = λ ys end run k xs c h.
                let g = f k xs c h in
                let to : Leads (elements o) (Exactly [] (Fault d)) (Exactly xs (end_by_fault c Done)) = record {
                  gives = λ zs v j. (ap (λ us. elements o ++ us) j.0 ∙ (append-nil (elements o) ∙ sym g.1), j.1 ∙ ap (λ g. end_by_fault g Done) (sym g.2));
                } in
                (by_left to (λ i. ([], Fault d, (refl, refl)))).gives ys end run;
          },
        )

    end_step : Answered fed.End → Turned P a a s n (Finishing q) (Finishing r) turn.Done
    end_step f =
        turned_same P a s n _ _ _ (λ p i. i) (omega arith) (omega arith) (omega arith) (λ c i. i) (λ i. absurd i) (λ i. absurd i) (λ k i. tt) (λ i. absurd i)
        (cause_none a.told a.told _ _ done_is_no_fault) (λ w i k xs c h. let g = f k xs c h in inl (sym g.0, ap (λ g. end_by_fault g Done) (sym g.1)))

    more_by : (answer : Fed) → Answered answer → Turned P a a s n (Finishing q) (after_pipe (after_fed answer after.Finishing) (Finishing r)) (turn_of_fed answer)
    more_by (fed.Out o) f = out_step o f (length (elements o)) refl
    more_by fed.End f = end_step f
    more_by (fed.Fault o d) f = failed_step o d f (length (elements o)) refl

    pub finishing_step : (u : Turn) (z : After) → PipeGaveMore P q r u z → Turned P a a s n (Finishing q) (after_pipe z (Finishing r)) u
    finishing_step u z f = rw (f.turn, f.after) (more_by f.answer f.next)

-- before a pipe gets anything it gives what it gives of the whole input
at_first : (t : Values) (p : Pipe) (m : Meaning) (A : Outcomes) → IsMeaningOver t p m → Leads [] (PipedOn m [] A) (Piped (part_of t p) (all_of t p) A)
at_first t p m A h = record {
  gives = λ ys e i.
      let is : m ≡ meaning_over t p m.takes m.gives = (is_meaning_over t p m h).0 in
      let run : PipedOn (meaning_over t p m.takes m.gives) [] A ys e = subst (λ o. PipedOn o [] A ys e) is i in
      (run.0, run.1, run.2, subst (λ us. GivesBy (part_of t p run.0).fault (part_of t p) (all_of t p) run.0 run.1 (us ++ ys) e) (part_of-nil t p) run.3);
}

pub through_enter : {F : Type 0} (P : StateMeaning F) (sound : (q : F) → IsSound (P.stands q)) (a : Around) (s n : ℕ) (p r : Box (Unit {0}) Global) (x : Node) (pipe : Pipe) (q : F) → CanStep P a s (Start (node.Through' p x pipe))
    → ((m : Meaning) → IsMeaningOver P.values pipe m → P.stands q m []) → Turned P a a s n (Start (node.Through' p x pipe)) (Through' r (Start x) q) turn.Quiet
through_enter P sound a s n p r x pipe q h of = turned_same P a s n _ _ _ (λ k i. i) (omega arith) (omega arith) (omega arith) (λ c i. i) (λ g. (h.ready, tt))
    (λ g. (h.pipes.0, (pipe, h.pipes.1.0, [], h.pipes.1.1, of h.pipes.1.0 h.pipes.1.1, h.pipes.1.2)))
    (λ k. elim [ inl i ↦ inl (i.0, [], of i.0 i.1, i.2, i.3) | inr i ↦ inr (i.0, (i.1.0, of i.1.0 i.1.1, i.1.2)) ])
    (λ g. inl (omega arith)) (cause_none a.told a.told _ _ quiet_goes_on)
    (λ w o. record {
      gives = λ ys e run.
          let m = h.pipes.1.0 in
          (by_left (at_first P.values pipe m (IsRun P.values w x) h.pipes.1.1) (λ i. some_piped m [] (IsRun P.values w x) (sound q m [] (of m h.pipes.1.1)) (inr (refl, inl (refl, i))))).gives ys e (run m [] (of m h.pipes.1.1) h.pipes.1.2);
    })
