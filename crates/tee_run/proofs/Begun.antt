-- A reader that was begun, stepped for its branches, and taken apart.
use Rattle.std.proofs.Common.{◌≡◌, ◌⊎◌, ℕ, true, false, List, [], ◌∷◌, length, Some, refl, sym, ◌∙◌, ap, subst, inl, inr, ⊎_elim}
use Rattle.std.proofs.lemmas.List.{length-map}
use Rattle.std.specs.List.{list_any}
use Rattle.chunk_core.specs.Elements.{Bytes}
use Rattle.chunk_core.specs.Outcomes.{Cut, Done, End, Fault, exit_of}
use Rattle.chunk_core.specs.Tables.{Values}
use Rattle.chunk_core.specs.declared.code.How.{How}
use Rattle.chunk_core.specs.declared.code.How.TheVariants as how
use Rattle.device_port.specs.Device.{DeviceTold}
use Rattle.device_port.specs.Sink.{SinkTold}
use Rattle.pipeline_desc.specs.declared.step.Step.{Step}
use Rattle.pull_nodes.specs.declared.node.Node.{Node}
use Rattle.pull_stepper.specs.Stepping.{CanGo, Stepping}
use Rattle.pull_turns.specs.Piping.{HasKind, HasKindOf, StateMeaning}
use Rattle.res_ledger.specs.declared.event.Event.{Event}
use Rattle.res_ledger.specs.declared.event.StreamNo.TheVariants.{Outer}
use Rattle.run_rules.specs.Facts.{is_memory}
use Rattle.run_rules.specs.Outputs.{IsReported}
use Rattle.run_rules.specs.declared.end.EndOf.{EndOf}
use Rattle.cat_run.specs.declared.outcome.Outcome.{Outcome}
use Rattle.lone_stream.specs.declared.run.Ran.{Ran}
use Rattle.lone_stream.specs.Ran.{ComesHome, RunsLone}
use Rattle.lone_stream.specs.Rooms.{IsFileNode}
use Rattle.lone_stream.specs.Steps.{HasEnded, IsBegun, IsPast, IsStepped, StepsTo}
use Rattle.lone_stream.proofs.Begun.{same_how, steps_start}
use Rattle.tee_pump.specs.declared.ended.TeeEnd.{TeeEnd}
use Rattle.tee_run.specs.Chains.{meaning_of, meanings_of}
use Rattle.tee_run.specs.Reading.{HasTeed}
use Rattle.tee_run.specs.Telling.{TeesAll, all_halted, ends_from}
use Rattle.tee_run.proofs.Tellings.{prints, prints_nothing}

-- a run that was halted may be told as one that wanted memory
as_memory : (e : End) → IsReported e how.Halted → IsReported e how.Memory
as_memory Done r = absurd (let no : how.Halted ≡ how.Done = r in cc)
as_memory (Fault c) r = absurd (let no : how.Halted ≡ how.Fault c = r in cc)
as_memory Cut r = inr refl

told_reported : (e : End) (k h : How) → IsReported e k → (h ≡ k) ⊎ ((h ≡ how.Memory) × (k ≡ how.Halted)) → IsReported e h
told_reported e k h r (inl s) = subst (λ x. IsReported e x) (sym s) r
told_reported e k h r (inr s) = subst (λ x. IsReported e x) (sym s.0) (as_memory e (subst (λ x. IsReported e x) s.1 r))

told_exit : (k h : How) → (h ≡ k) ⊎ ((h ≡ how.Memory) × (k ≡ how.Halted)) → exit_of k ≡ exit_of h
told_exit k h (inl s) = sym (ap exit_of s)
told_exit k h (inr s) = ap exit_of s.1 ∙ sym (ap exit_of s.0)

module _ {V : Type 0} (told : V → DeviceTold) where
  -- with an end of the same exit
  comes_as : (n : Node) (devices : List V) (home : ℕ → DeviceTold) (r : Ran V) (h : How) → exit_of r.how ≡ exit_of h → ComesHome told Outer n devices home r → ComesHome told Outer n devices home (record { how = h; ledger = r.ledger; shelf = r.shelf; unopened = r.unopened })
  comes_as n devices home r h same c =
      let a = c.account in
      record {
        same = c.same;
        each = c.each;
        rest = c.rest;
        within = c.within;
        account = record {
          stamped = a.stamped;
          opened = a.opened;
          legal = a.legal;
          complete = a.complete;
          ordered = a.ordered;
          own = a.own;
          acquired = a.acquired;
          each = a.each;
          ended = a.ended;
          closed = a.closed;
          exits = λ x m. a.exits x m ∙ same;
        };
      }

  -- it wasn't begun for want of memory
  pub unbegun : (branches : List (List Step)) (n : Node) (devices : List V) (start : SinkTold) (r : Ran V) (o : Outcome) → r.how ≡ how.Memory → RunsLone told Outer n devices [] r → o.ledger ≡ r.ledger → o.ends ≡ record { who = Outer; how = r.how } ∷ ends_from 0 (all_halted (length branches)) → o.sink_failed ≡ false → o.memory ≡ true
      → TeesAll told branches n devices start start (record { outcome = o; shelf = r.shelf; unopened = r.unopened })
  unbegun branches n devices start r o is lone ledger ends sink memory = record {
    home = lone.home;
    how = how.Memory;
    given = [];
    end = lone.end;
    run = lone.run;
    reported = subst (λ x. IsReported lone.end x) is lone.reported;
    comes = subst (λ (L : List Event). ComesHome told Outer n devices lone.home (record { how = how.Memory; ledger = L; shelf = r.shelf; unopened = r.unopened })) (sym ledger) (comes_as n devices lone.home r how.Memory (ap exit_of is) lone.comes);
    prints = prints_nothing branches lone.end start o (ends ∙ ap (λ (h : How). let e : EndOf = record { who = Outer; how = h } in e ∷ ends_from 0 (all_halted (length branches))) is) sink memory;
  }

  module _ {F : Type 0} (P : Values → StateMeaning F) (n : Node) (devices : List V) (chunk : ℕ) (node : IsFileNode n) (a : Stepping V F) (begun : IsBegun P told Outer n devices chunk a) (can : CanGo P told a) where
    -- a file gives bytes
    gives_bytes : HasKind (P a.tables) Bytes a.rest
    gives_bytes =
        let v : Values = (P begun.tables).values in
        subst (λ (x : Stepping V F). HasKind (P x.tables) Bytes x.rest) (sym begun.is) (subst (λ m. HasKindOf v Bytes m) (sym node.1) refl)

    pub starts : IsStepped P told Bytes a a []
    starts = steps_start P told Bytes a can gives_bytes

    module _ (branches : List (List Step)) (b : Stepping V F) (so sn : SinkTold) (h : How) (t : TeeEnd) (teed : HasTeed P told (meanings_of branches) a b so sn h t) where
      pub ended : HasEnded P told a b teed.given teed.end
      ended = subst (λ k. StepsTo P told Bytes a b teed.given k) teed.ended teed.stepped.at

      pub past : IsPast told a b
      past = record { since = teed.stepped.since; goes = ended.goes; spends = ended.spends }

      pub many : length t.ends.items ≡ length branches
      many = teed.finished.count ∙ length-map branches meaning_of

      -- what is told of it
      pub tees : (r : Ran V) (o : Outcome) → b.how ≡ Some r.how → RunsLone told Outer n devices teed.given r → o.ledger ≡ r.ledger → o.ends ≡ record { who = Outer; how = h } ∷ ends_from 0 t.ends.items → o.sink_failed ≡ t.broken → o.memory ≡ list_any is_memory (h ∷ t.ends.items)
          → TeesAll told branches n devices so sn (record { outcome = o; shelf = r.shelf; unopened = r.unopened })
      tees r o how_is lone ledger ends sink memory =
          let same : r.how ≡ teed.end = same_how r.how teed.end (sym how_is ∙ teed.ended) in
          let so_told : (h ≡ r.how) ⊎ ((h ≡ how.Memory) × (r.how ≡ how.Halted)) = ⊎_elim (λ e. inl (e ∙ sym same)) (λ e. inr (e.0, same ∙ e.1)) teed.told_so in
          let reported = told_reported lone.end r.how h lone.reported so_told in
          record {
            home = lone.home;
            how = h;
            given = teed.given;
            end = lone.end;
            run = lone.run;
            reported = reported;
            comes = subst (λ (L : List Event). ComesHome told Outer n devices lone.home (record { how = h; ledger = L; shelf = r.shelf; unopened = r.unopened })) (sym ledger) (comes_as n devices lone.home r h (told_exit r.how h so_told) lone.comes);
            prints = prints branches teed.given teed.taken lone.end h reported teed.front teed.all so sn t teed.caused teed.finished o ends sink memory;
          }
