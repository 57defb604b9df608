-- What stands once the outer stream and all that it gave have ended.
use Rattle.std.specs.Prelude.{◌≡◌, ◌⊎◌, ◌↔◌, ℕ, nat_eq, List, [], ◌∷◌, ◌++◌, map, flat_map, length, take, Some}
use Rattle.std.specs.List.{IsDistinct}
use Rattle.channel_bounded.specs.Ends.{ReceiverSeen}
use Rattle.chunk_core.specs.Lists.{IsAmong}
use Rattle.chunk_core.specs.Outcomes.{exit_of}
use Rattle.chunk_core.specs.Tables.{Values}
use Rattle.chunk_core.specs.declared.code.How.{How}
use Rattle.chunk_core.specs.Texts.{IsRestOf}
use Rattle.csv_pipes.specs.Dictionaries.{Dictionary}
use Rattle.device_port.specs.Device.{DeviceTold}
use Rattle.device_port.specs.Depot.{DepotTold}
use Rattle.join_report.specs.Accounts.{names_below}
use Rattle.join_report.specs.Reports.{IsReport}
use Rattle.join_report.specs.declared.report.Report.{Report}
use Rattle.join_tale.specs.Keeping.{IsTale}
use Rattle.join_tale.specs.Records.{IsSettled}
use Rattle.join_tale.specs.Tales as tales
use Rattle.join_tale.specs.Tales.{HasCome, Tale, frames_of}
use Rattle.join_tree.specs.Mains.{IsMain}
use Rattle.join_tree.specs.Progress.{Progress}
use Rattle.pipeline_desc.specs.Meant.{PlanMeant, stream_limit}
use Rattle.pull_nodes.specs.declared.node.Node.{Node}
use Rattle.pull_stepper.specs.Held.{FinishesDevice}
use Rattle.pull_turns.specs.Piping.{StateMeaning}
use Rattle.res_ledger.specs.declared.event.Event.{Event}
use Rattle.res_ledger.specs.declared.event.StreamNo.TheVariants.{Outer}
use Rattle.res_ledger.specs.Order.{firsts}
use Rattle.row_seat.specs.declared.view.View.{View}
use Rattle.run_rules.specs.Facts.{at}
use Rattle.run_rules.specs.Work.{RunRecord}
use Rattle.scope_tree.specs.Calls.{Seen}
use Rattle.scope_tree.specs.Released.{said}
use Rattle.scope_tree.specs.declared.branch.Spent.{Spent}
use Rattle.stream_jobs.specs.declared.job.JobEnd.{JobEnd}
use Rattle.stream_jobs.specs.Running.{Origin}
use Rattle.stream_parts.specs.Retire.{devices_of}
use Rattle.tree_families.specs.Families.{Split}
use Rattle.dealt_streams.specs.Kept.{AreKept, Gone, number_of, told_message}
use Rattle.dealt_streams.specs.Kept.Gone.{Came}
use Rattle.dealt_streams.specs.Moves.{AreMoved, Move, dealt_of}
use Rattle.dealt_streams.specs.Parts.{Part, fate_of}
use Rattle.dealt_streams.specs.Places.{KeepsPlaces}
use Rattle.dealt_streams.specs.Standing.{StandsOuter}
use Rattle.dealt_streams.specs.Turns.{KeepsTurns}
use Rattle.dealt_streams.specs.Works.{plan_bounds}
use Rattle.dealt_streams.specs.declared.leftover.Leftover.{Leftover}

module _ {S V F : Type 0} (view : S → View V) (told : V → DeviceTold) (P : Values → StateMeaning F) where
  -- No stream is open: each that was begun has come back, and the main seat has what the seats were handed that came back. What came through the channel is what the tale tells.
  pub record EndsStreams (b : Seen V) (left : List (Leftover V)) (receiver : ReceiverSeen) (parts : List (Part V F)) (progress : Progress V) (tale : Tale) : Type 0 where
    pub begun : (k : ℕ) → tales.IsBegun tale k ↔ ((m : Split) × IsAmong m progress.splits × (m.stream ≡ k))
    pub come : (k : ℕ) → tales.IsBegun tale k → HasCome tale k
    pub gone : List (Gone S V F)
    pub kept : AreKept view told P parts progress receiver tale left gone
    pub apart : IsDistinct nat_eq (map number_of gone)
    pub numbers : (k : ℕ) → IsAmong k (map number_of gone) ↔ (HasCome tale k ⊎ (at tale.fates k ≡ Some tales.Fate.Unmade))
    pub home : (y : Seen V) → IsAmong y progress.back → (n : Node) × (ds : List V) × (w : Origin V F) × (e : JobEnd S V) × IsAmong (Came n ds w e) gone × (y.seat ≡ view e.seat)
    pub given : (y : Seen V) → IsAmong y progress.back → (z : ℕ × V) → IsAmong z y.seat.given → IsAmong z b.seat.given
    pub got : map told_message receiver.got ≡ tale.front ++ tale.late

  -- A collector of the plan has come to its end, since the depot stood as d0: the outer stream ended so, no lease waits and no stream is open. These moves were made, by which the depot came to stand
  -- as it does, and the outer stream stands by them. The main tree stands as b, and has no open row.
  pub record IsCollected (p : PlanMeant) (d0 depot : DepotTold) (outer : How) (b : Seen V) (left : List (Leftover V)) (receiver : ReceiverSeen) (tale : Tale) : Type 0 where
    pub moves : List (Move V F)
    pub parts : List (Part V F)
    pub parts_are : dealt_of moves ≡ parts
    pub progress : Progress V
    pub main : IsMain (FinishesDevice told) p.max_open (stream_limit p) b progress
    pub next : progress.next ≡ length parts
    pub waits : progress.waits ≡ []
    pub root : progress.root ≡ Some (exit_of outer)
    pub shut : b.seat.opened ≡ []
    pub once : IsDistinct nat_eq (firsts (said b.shelf))
    pub moved : AreMoved told p [] d0 moves depot
    pub begun : ℕ
    pub dicts : List Dictionary
    pub stands : StandsOuter p told moves begun progress.leased dicts (Some outer) tale.memory b
    pub streams : EndsStreams b left receiver parts progress tale
    pub is_tale : IsTale (plan_bounds p) tale
    pub fates_are : tale.fates ≡ map fate_of parts
    pub outer_is : tale.outer ≡ Some outer
    pub settled : IsSettled tale
    pub turns : KeepsTurns progress tale
    pub places : KeepsPlaces (plan_bounds p) b progress tale

-- all devices that are to go back once the ledger is there: those on the main tree's shelf, and those that are left of the streams
abbrev pub all_left : {V : Type 0} → (V → DeviceTold) → List (Spent V) → List (Leftover V) → List DeviceTold
all_left told shelf left = map (λ x. told x.pay) shelf ++ flat_map (λ x. devices_of told x.shelf x.unopened) left

-- The record is that of a run of the plan with n streams between these depots with this ledger, of which the report tells the tale: its frames, the rest of the one whose write failed, and the ends.
pub record IsRunOf (p : PlanMeant) (n : ℕ) (outer : How) (tale : Tale) (L : List Event) (d0 last : DepotTold) (c : RunRecord) : Type 0 where
  pub depot_old : c.depot_old ≡ d0
  pub depot_new : c.depot_new ≡ last
  pub events : c.events ≡ L
  pub frames : c.frames ≡ frames_of tale.front
  pub cut : c.cut ≡ tale.cut
  pub rest : IsRestOf tale.cut c.rest
  pub memory : c.memory ≡ tale.memory
  pub report : Report
  pub report_is : IsReport p.take (stream_limit p) tale report
  pub names : map (λ e. e.who) c.ends ≡ Outer ∷ names_below n
  pub hows : map (λ e. e.how) c.ends ≡ outer ∷ take n report.streams.hows
