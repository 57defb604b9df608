-- What holds of a collector from its first pull to the end.
use Rattle.std.specs.Prelude.{◌≡◌, ℕ, ◌+◌, ◌-◌, ◌^◌, ◌<◌, ◌≤◌, List, [], ◌∷◌, ◌++◌, map, length, Option, None, is_some, if◌then◌else◌, vec_capacity}
use Rattle.std.specs.VecDeque.{deque_capacity}
use Rattle.channel_bounded.specs.Ends.{ReceiverSeen}
use Rattle.chunk_core.specs.Texts.{IsRestOf, frames_text}
use Rattle.chunk_core.specs.declared.code.How.{How}
use Rattle.device_port.specs.Depot.{DepotTold}
use Rattle.device_port.specs.Sink.{SinkTold, with_bytes}
use Rattle.join_report.specs.Reports.{IsReport}
use Rattle.join_report.specs.Stopping.{IsSeated, TellsKnown, view_of}
use Rattle.join_report.specs.declared.report.Report.{Report}
use Rattle.join_report.specs.declared.stops.Stops.{Stops}
use Rattle.join_tale.specs.Tales.{Fate, Tale, frames_of}
use Rattle.join_tale.specs.Keeping.{IsTale}
use Rattle.join_tree.specs.Progress.{Progress}
use Rattle.outer_source.specs.Standing.{IsAmidAll}
use Rattle.pipeline_desc.specs.Meant.{PlanMeant, stream_limit}
use Rattle.pipeline_desc.specs.Sound.{IsSoundPlan}
use Rattle.scope_tree.specs.Trees.{Fits, seen}
use Rattle.stream_jobs.specs.declared.job.Job.{Job}
use Rattle.dealt_streams.specs.Moves.{AreMoved, Move, dealt_of, lines_of, opened_of}
use Rattle.dealt_streams.specs.Parts.{Part, fate_of}
use Rattle.dealt_streams.specs.Standing.{StandsOuter, plan_parts}
use Rattle.dealt_streams.specs.Places.{KeepsPlaces}
use Rattle.dealt_streams.specs.Turns.{KeepsTurns}
use Rattle.dealt_streams.specs.Works.{plan_bounds}
use Rattle.collector.specs.declared.collector.Collector.{Collector}
use Rattle.collector.specs.declared.waiting.Waiting.{Waiting}
use Rattle.collector.specs.Members.{Members}
use Rattle.collector.specs.Streams.{KeepsStreams}
use Rattle.collector.specs.Trees.{HaveLines, KeepsTree}

-- the frames of a tale were written to the sink, and where a write failed a proper front of the one that was begun
pub record WritesTale (old new : SinkTold) (tale : Tale) : Type 0 where
  pub rest : List ℕ
  pub cut : IsRestOf tale.cut rest
  pub wrote : new ≡ record (with_bytes old (frames_text (frames_of tale.front) ++ rest)) { faults = (if is_some tale.cut then old.faults + 1 else old.faults) }

-- The tale of the collector of a plan, whose outer stream has ended so, if it has: its report and its seat at the board say the same, so many seats of jobs are out, and the frames
-- were written.
pub record KeepsTale (p : PlanMeant) (outer : Option How) (report : Report) (stops : Stops) (out : ℕ) (old new : SinkTold) (fates : List Fate) (tale : Tale) : Type 0 where
  pub is_tale : IsTale (plan_bounds p) tale
  pub fates_are : tale.fates ≡ fates
  pub outer_is : tale.outer ≡ outer
  pub report_is : IsReport p.take (stream_limit p) tale report
  pub known : TellsKnown tale stops
  pub seated : IsSeated stops
  pub seats : (view_of stops).out ≡ out
  pub contexts : stops.board.contexts ≡ stream_limit p + 1
  pub wrote : WritesTale old new tale

-- A collector at some time: these leases wait, of which there may be so many, these jobs are open, and so much was received; and so the depot and the sink stand, and its desk. Between
-- calls the leases, the jobs and what was received are those that the collector has itself.
pub record Moment (S V F D T : Type 0) : Type 0 where
  pub waits : ℕ
  pub waiting : List Waiting
  pub jobs : List (Job S V F V D T)
  pub receiver : ReceiverSeen
  pub depot : DepotTold
  pub sink : SinkTold
  pub desk : D
  pub collector : Collector S V F D T

module _ {S V F D T : Type 0} where
  -- between calls
  abbrev pub between : ℕ → DepotTold → SinkTold → D → Collector S V F D T → Moment S V F D T
  between waits depot sink d c = record { waits = waits; waiting = c.waiting.items; jobs = c.jobs.items; receiver = c.receiver; depot = depot; sink = sink; desk = d; collector = c }

  -- this stream was the first that waits
  abbrev pub holding : Waiting → Moment S V F D T → Moment S V F D T
  holding w m = record m { waiting = w ∷ m.waiting }

  -- this job was the first that is open
  abbrev pub having_job : Job S V F V D T → Moment S V F D T → Moment S V F D T
  having_job j m = record m { jobs = j ∷ m.jobs }

  -- so much was received by then
  abbrev pub having_received : ReceiverSeen → Moment S V F D T → Moment S V F D T
  having_received r m = record m { receiver = r }

module _ {S V F D T : Type 0} (p : PlanMeant) where
  -- there is room for two leases, for as many jobs as streams may be open, for as many messages as may be queued, and for what is kept of each stream
  pub record HasRoom (jobs dealt : ℕ) (c : Collector S V F D T) : Type 0 where
    pub waiting : deque_capacity c.waiting ≡ 2
    pub jobs_room : deque_capacity c.jobs ≡ p.max_open
    pub queue : c.hub.capacity ≡ p.queue
    pub few : jobs ≤ p.max_open
    pub left : length c.left.items + jobs + (stream_limit p - dealt) ≤ vec_capacity c.left

module _ {S V F D T : Type 0} (M : Members S V F D T) (p : PlanMeant) where
  -- A collector of the plan, since the depot stood as d0 and the sink as s0: these moves were made, by which the depot came to stand so; of the streams that were begun some have ended.
  pub record IsCollecting (d0 : DepotTold) (s0 : SinkTold) (m : Moment S V F D T) : Type 0 where
    pub sound : IsSoundPlan p
    pub few_faults : s0.faults < 2 ^ 64 - 1
    pub fits_desk : Fits M.view M.fits m.collector.tree m.desk
    pub its_parts : m.collector.parts ≡ plan_parts p
    pub moves : List (Move V F)
    pub parts : List (Part V F)
    pub parts_are : dealt_of moves ≡ parts
    pub progress : Progress V
    pub tale : Tale
    pub moved : AreMoved M.told p [] d0 moves m.depot
    pub tree : KeepsTree p M.told m.waits (seen M.view m.collector.tree) m.collector.outer m.collector.outer_stream m.waiting (length parts) progress
    pub lines : HaveLines p (lines_of moves) m.waiting
    pub next : m.collector.next ≡ length parts
    pub amid : m.collector.outer ≡ None → IsAmidAll M.told p (plan_parts p) (opened_of moves) (lines_of moves) m.collector.outer_stream (seen M.view m.collector.tree)
    pub begun : ℕ
    pub begun_is : m.collector.outer ≡ None → m.collector.outer_stream.outer.part ≡ begun
    pub stands : StandsOuter p M.told moves begun m.collector.outer_stream.outer.leased m.collector.outer_stream.outer.tables m.collector.outer tale.memory (seen M.view m.collector.tree)
    pub streams : KeepsStreams M m.collector.hub m.collector.stops.board m.desk (seen M.view m.collector.tree) m.jobs m.collector.left.items m.receiver parts progress tale
    pub turns : KeepsTurns progress tale
    pub places : KeepsPlaces (plan_bounds p) (seen M.view m.collector.tree) progress tale
    pub telling : KeepsTale p m.collector.outer m.collector.report m.collector.stops (length m.jobs) s0 m.sink (map fate_of parts) tale
    pub room : HasRoom p (length m.jobs) (length parts) m.collector

  -- a collector of the plan stands so, since some depot and sink
  abbrev pub IsUnderWay : Moment S V F D T → Type 0
  IsUnderWay m = (d0 : DepotTold) × (s0 : SinkTold) × IsCollecting d0 s0 m

  -- it goes on so, since whichever depot and sink
  abbrev pub GoesOn : Moment S V F D T → Moment S V F D T → Type 0
  GoesOn old new = (d0 : DepotTold) (s0 : SinkTold) → IsCollecting d0 s0 old → IsCollecting d0 s0 new
