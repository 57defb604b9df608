-- A stepper that made no turn.
use Rattle.std.proofs.Common.{◌≡◌, ℕ, List, [], Some, refl, sym, subst}
use Rattle.chunk_core.specs.Elements.{Element, LoadKind}
use Rattle.chunk_core.specs.Outcomes.{End}
use Rattle.chunk_core.specs.Tables.{Values, no_values}
use Rattle.chunk_core.specs.declared.code.How.{How}
use Rattle.device_port.specs.Device.{DeviceTold}
use Rattle.pull_nodes.specs.Failures.{IsToldRun}
use Rattle.pull_nodes.specs.declared.node.Node.{Node}
use Rattle.pull_stepper.specs.Held.{FinishesDevice}
use Rattle.pull_stepper.specs.Laws.{since_same}
use Rattle.pull_stepper.specs.Sites.{around, told_at}
use Rattle.pull_stepper.specs.Stepping.{CanGo, Stepping}
use Rattle.pull_turns.specs.Piping.{HasKind, StateMeaning}
use Rattle.pull_turns.specs.Failures.{IsToldRunOfRest}
use Rattle.pull_turns.proofs.Led.{led_start, spends_none}
use Rattle.res_ledger.specs.declared.event.StreamNo.{StreamNo}
use Rattle.lone_stream.specs.Steps.{IsBegun, IsStepped, StepsTo}

-- a stream ends in one way
pub same_how : (h k : How) → Some h ≡ Some k → h ≡ k
same_how h k e = cc

module _ {V F : Type 0} (P : Values → StateMeaning F) (told : V → DeviceTold) where
  -- what comes of it are runs of its node
  pub run_of : (who : StreamNo) (n : Node) (devices : List V) (chunk : ℕ) (a : Stepping V F) → IsBegun P told who n devices chunk a → (w : ℕ → DeviceTold) (xs : List Element) (e : End) → IsToldRunOfRest (P a.tables) w a.rest xs e → IsToldRun no_values w n xs e
  run_of who n devices chunk a b w xs e r = subst (λ v. IsToldRun v w n xs e) b.none (subst (λ (x : Stepping V F). IsToldRunOfRest (P x.tables) w x.rest xs e) b.is r)

  -- it gave nothing
  pub steps_start : (k : LoadKind) (a : Stepping V F) → CanGo P told a → HasKind (P a.tables) k a.rest → IsStepped P told k a a []
  steps_start k a can kind = record {
    since = since_same told (FinishesDevice told) a.site;
    at = subst (λ h. StepsTo P told k a a [] h) (sym can.how) (record {
      can = can;
      tables = refl;
      chunk = refl;
      spends = spends_none (around told a.site) a.rest;
      led = led_start (P a.tables) (told_at told a.site) a.rest;
      kind = kind;
    });
  }
