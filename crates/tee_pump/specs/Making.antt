-- What the branches of a tee are made of.
use Rattle.std.specs.Prelude.{◌≡◌, ℕ, ◌<◌, ◌≤◌, false, List, [], length, vec_capacity, Option}
use Rattle.chunk_core.specs.Elements.{Bytes, Element, LoadKind}
use Rattle.chunk_core.specs.Feed.{Meaning}
use Rattle.chunk_core.specs.Totals.{IsAt}
use Rattle.chunk_core.specs.declared.code.Code.{Code}
use Rattle.channel_bounded.specs.Ends.{ReceiverSeen}
use Rattle.device_port.specs.Sink.{SinkTold}
use Rattle.interrupt_ctx.specs.Ends.{SeatSeen}
use Rattle.topic_hub.specs.Topics.{NothingPending, PublisherSeen}
use Rattle.tee_prints.specs.Printed.{Prints}
use Rattle.tee_pump.specs.declared.crew.Crew.{Crew}
use Rattle.tee_pump.specs.Branches.{AreBranches, SharedSeen}
use Rattle.tee_pump.specs.Printing.{numbers}
use Rattle.tee_pump.specs.Publishing.{IsPublishing}
use Rattle.tee_pump.specs.Stopping.{IsSeat}

-- the pipe has this meaning, was fed nothing, and takes bytes
pub record IsPipeOf {F : Type 0} (StandsFor : F → Meaning → List Element → Type 0) (m : Meaning) (f : F) : Type 0 where
  pub takes : m.takes ≡ Bytes
  pub nothing : (m.part []).list ≡ []
  pub stands : StandsFor f m []

-- one pipe for each meaning
pub record ArePipes {F : Type 0} (StandsFor : F → Meaning → List Element → Type 0) (ms : List Meaning) (fs : List F) : Type 0 where
  pub count : length fs ≡ length ms
  pub each : (i : ℕ) (m : Meaning) (f : F) → IsAt ms i m → IsAt fs i f → IsPipeOf StandsFor m f

-- of the ends for n branches those of the first i were split off
pub record HasSplit (s : SharedSeen) (n i : ℕ) (p : PublisherSeen) (r : ReceiverSeen) (seat : SeatSeen) : Type 0 where
  pub topic : length s.topic ≡ n
  pub context : 0 < s.board.contexts
  pub published : IsPublishing s.topic i [] p
  pub places : length p.places ≡ n
  pub given : p.given ≡ i
  pub goes_on : p.ended ≡ false
  pub none_pending : NothingPending p
  pub receiver : r ≡ record { hub = s.hub.id; got = []; made = numbers i; closed = [] }
  pub seat_is : IsSeat s.board i ⊥ seat

module _ {F : Type 0} (StandsFor : F → Meaning → List Element → Type 0) (Comes : F → LoadKind → List Element → Option Code → Type 0) (s : SharedSeen) where
  -- the branches of these pipes, which received nothing, joined to the ends that the caller keeps; nothing was published or printed
  pub record IsCrew (ms : List Meaning) (c : Crew F) : Type 0 where
    pub some : 0 < length ms
    pub split : HasSplit s (length ms) (length ms) c.publisher c.printer.receiver c.seat
    pub branches : AreBranches StandsFor Comes s ms c.branches.items
    pub prints : (sink : SinkTold) → Prints (length ms) sink sink [] c.printer.ends.items false
    pub unbroken : c.printer.broken ≡ false
    pub none_hired : c.hired.items ≡ []
    pub none_told : c.ends.items ≡ []
    pub room : (length ms ≤ vec_capacity c.hired) × (length ms ≤ vec_capacity c.ends)
