-- The branches of a tee, to which loads are given.
use Rattle.std.specs.Prelude.{◌≡◌, ◌⊎◌, ◌<◌, ◌≤◌, false, List, [], map, length, vec_capacity, Option}
use Rattle.std.specs.List.{AllByRecursion}
use Rattle.chunk_core.specs.Elements.{Bytes, Element, LoadKind, elements_of, kind_of}
use Rattle.chunk_core.specs.Feed.{Meaning}
use Rattle.chunk_core.specs.declared.code.Code.{Code}
use Rattle.chunk_core.specs.declared.code.How.{How}
use Rattle.chunk_core.specs.declared.code.How.TheVariants as how
use Rattle.chunk_core.specs.declared.load.Load.{Load}
use Rattle.channel_bounded.specs.declared.message.Body.TheVariants as body
use Rattle.device_port.specs.Sink.{SinkTold}
use Rattle.pull_nodes.specs.Plain.{IsFront}
use Rattle.topic_hub.specs.Topics.{NothingPending}
use Rattle.tee_prints.specs.Printed.{MustStop}
use Rattle.tee_pump.specs.declared.pump.Pump.{Pump}
use Rattle.tee_pump.specs.Branches.{AreHired, SharedSeen}
use Rattle.tee_pump.specs.Printing.{HasCause, IsPrinting}
use Rattle.tee_pump.specs.Publishing.{ArePending, IsPublishing}
use Rattle.tee_pump.specs.Stopping.{IsEarly, IsSeat, IsStopped}

module _ {F : Type 0} (StandsFor : F → Meaning → List Element → Type 0) (Comes : F → LoadKind → List Element → Option Code → Type 0) (s : SharedSeen) (ms : List Meaning) where
  -- The branches go on, what they said was printed as far as it was received, since the sink was so, and the run is interrupted just where it must stop,
  -- or because the reader, which ended so, wasn't done.
  pub record IsServing (reader : How) (start now : SinkTold) (p : Pump F) : Type 0 where
    pub hired : AreHired StandsFor Comes s ms p.hired.items
    pub printing : IsPrinting s.hub (length ms) start now p.printer
    pub context : 0 < s.board.contexts
    pub seat : IsSeat s.board (length ms) (HasCause (length ms) p.printer ⊎ IsEarly reader) p.seat
    pub obeyed : MustStop p.printer.ends.items p.printer.broken → IsStopped p.seat
    pub none_told : p.ends.items ≡ []
    pub room : length ms ≤ vec_capacity p.ends

  -- These elements were given, in order and nothing else, to each branch, as far as the run needn't stop, and the reader goes on.
  pub record IsPumping (start : SinkTold) (given : List Element) (now : SinkTold) (p : Pump F) : Type 0 where
    pub some : 0 < length ms
    pub topic : length s.topic ≡ length ms
    pub serving : IsServing how.Done start now p
    pub loads : List Load
    pub kinds : AllByRecursion (λ l. kind_of l ≡ Bytes) loads
    pub given_is : given ≡ elements_of loads
    pub sent : List Load
    pub front : IsFront sent loads
    pub published : IsPublishing s.topic (length ms) (map body.Load sent) p.publisher
    pub pending : ArePending p.publisher
    pub goes_on : p.publisher.ended ≡ false
    pub whole : ¬ (MustStop p.printer.ends.items p.printer.broken) → (sent ≡ loads) × NothingPending p.publisher
