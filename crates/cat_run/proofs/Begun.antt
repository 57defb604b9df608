-- A stream that was begun and printed.
use Rattle.std.proofs.Common.{◌≡◌, ℕ, List, [], Some, inl, inr, refl, sym, ap, subst, ◌∙◌, arith}
use Rattle.std.proofs.lemmas.Bool.{false≢true}
use Rattle.chunk_core.specs.Elements.{Element}
use Rattle.chunk_core.specs.Outcomes.{Cut, Done, End, Fault}
use Rattle.chunk_core.specs.Tables.{Values, no_values}
use Rattle.chunk_core.specs.declared.code.How.{How}
use Rattle.chunk_core.specs.declared.code.How.TheVariants as how
use Rattle.device_port.specs.Device.{DeviceTold}
use Rattle.device_port.specs.Sink.{SinkTold}
use Rattle.device_port.proofs.Puts.{with_bytes_none}
use Rattle.pull_nodes.specs.Failures.{IsToldRun}
use Rattle.pull_nodes.specs.declared.node.Node.{Node}
use Rattle.pull_stepper.specs.Sites.{told_at}
use Rattle.pull_stepper.specs.Stepping.{Stepping}
use Rattle.pull_turns.specs.Piping.{StateMeaning}
use Rattle.pull_turns.specs.Sizes.{HasNoPipeOf, widest_of}
use Rattle.res_ledger.specs.declared.event.StreamNo.TheVariants.{Inner}
use Rattle.run_rules.specs.Outputs.{IsReported}
use Rattle.lone_stream.specs.declared.run.Ran.{Ran}
use Rattle.lone_stream.specs.Ran.{RunsLone}
use Rattle.lone_stream.specs.Steps.{IsBegun}
use Rattle.cat_run.specs.declared.stopped.Stopped.{Stopped}
use Rattle.cat_run.specs.declared.stopped.Stopped.TheVariants as stopped
use Rattle.cat_run.specs.Printing.{PrintsAll, PrintsRun}
use Rattle.cat_run.specs.Streams.{RunsPrinted}

module _ {V : Type 0} (told : V → DeviceTold) (n : Node) (devices : List V) (chunk : ℕ) (old new : SinkTold) where
  -- pieces of a run of the node were printed
  pub begun_prints : {F : Type 0} (P : Values → StateMeaning F) (x z : Stepping V F) (h : How) (r : Stopped) → IsBegun P told (Inner 0) n devices chunk x → PrintsAll P told 0 x z old new r → z.how ≡ Some h → PrintsRun (IsToldRun no_values (told_at told z.site) n) (HasNoPipeOf n) (widest_of chunk n) 0 old new (Some h) r
  begun_prints {F = F} P x z h r i prints ended =
      subst (λ e. PrintsRun (IsToldRun no_values (told_at told z.site) n) (HasNoPipeOf n) (widest_of chunk n) 0 old new e r) ended
      (subst (λ v. PrintsRun (IsToldRun v (told_at told z.site) n) (HasNoPipeOf n) (widest_of chunk n) 0 old new z.how r) i.none (subst (λ (y : Stepping V F). PrintsAll P told 0 y z old new r) i.is prints))

  -- it wasn't begun for want of memory
  pub unbegun_prints : (r : Ran V) → r.how ≡ how.Memory → RunsLone told (Inner 0) n devices [] r → new ≡ old → RunsPrinted told n devices chunk old new r stopped.Memory
  unbegun_prints r is lone quiet = record {
    home = lone.home;
    comes = lone.comes;
    prints = record {
      how = how.Memory;
      ended_is = ap (λ h. Some h) is;
      ends = inr refl;
      printed = record { pieces = []; some = tt; next = []; rest = []; cut = (refl, refl); wrote = quiet ∙ sym (with_bytes_none old) };
      small = λ plain. record { fits = tt; next_fits = omega arith };
      run = record {
        end = Cut;
        run = subst (λ e. IsToldRun no_values lone.home n [] e) (cut_is lone.end (subst (λ h. IsReported lone.end h) is lone.reported)) lone.run;
        goes_on = λ e. absurd (false≢true e);
        reported = inr refl;
        silenced = λ e. absurd (false≢true e);
        halted = λ e. absurd (false≢true e);
        remembered = λ e. refl;
        wanting = λ e. (refl, inl refl);
      };
    };
  }
    where
      cut_is : (e : End) → IsReported e how.Memory → e ≡ Cut
      cut_is Done h = cc
      cut_is (Fault c) h = cc
      cut_is Cut h = refl
