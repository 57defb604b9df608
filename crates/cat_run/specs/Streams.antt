-- What running a stream alone and printing it does.
use Rattle.std.specs.Prelude.{◌≡◌, ℕ, List, [], ◌∷◌, Some}
use Rattle.chunk_core.specs.declared.code.How.{How}
use Rattle.res_ledger.specs.declared.event.StreamNo.TheVariants.{Inner}
use Rattle.device_port.specs.Device.{DeviceTold}
use Rattle.device_port.specs.Sink.{SinkTold}
use Rattle.pull_nodes.specs.Failures.{IsToldRun}
use Rattle.chunk_core.specs.Tables.{no_values}
use Rattle.pull_nodes.specs.declared.node.Node.{Node}
use Rattle.pull_turns.specs.Sizes.{HasNoPipeOf, widest_of}
use Rattle.lone_stream.specs.declared.run.Ran.{Ran}
use Rattle.lone_stream.specs.Ran.{ComesHome}
use Rattle.cat_run.specs.declared.alone.Printed.{Printed}
use Rattle.cat_run.specs.declared.stopped.Stopped.{Stopped}
use Rattle.cat_run.specs.Alone.{AreSmall, IsRunIn, PrintsPieces}
use Rattle.cat_run.specs.Printing.{PrintsRun}

module _ {V : Type 0} (told : V → DeviceTold) where
  -- stream 0 ran the node over these devices, and pieces of a run were printed
  pub record RunsPrinted (n : Node) (devices : List V) (chunk : ℕ) (old new : SinkTold) (r : Ran V) (s : Stopped) : Type 0 where
    pub home : ℕ → DeviceTold
    pub comes : ComesHome told (Inner 0) n devices home r
    pub prints : PrintsRun (IsToldRun no_values home n) (HasNoPipeOf n) (widest_of chunk n) 0 old new (Some r.how) s

  -- the same of what is told of it
  pub record RunsStream (n : Node) (devices : List V) (chunk : ℕ) (old new : SinkTold) (r : Printed V) : Type 0 where
    pub home : ℕ → DeviceTold
    pub how : How
    pub comes : ComesHome told (Inner 0) n devices home (record { how = how; ledger = r.outcome.ledger; shelf = r.shelf; unopened = r.unopened })
    pub printed : PrintsPieces 0 old new r.outcome.sink_failed
    pub small : HasNoPipeOf n → AreSmall (widest_of chunk n) printed.pieces printed.next
    pub run : IsRunIn (IsToldRun no_values home n) printed.pieces printed.next r.outcome.sink_failed r.outcome.memory how
    pub ends : r.outcome.ends ≡ record { who = Inner 0; how = how } ∷ []
