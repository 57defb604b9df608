-- What a collector leaves that has come to its end.
use Rattle.std.specs.Prelude.{◌+◌, List, length}
use Rattle.channel_bounded.specs.Ends.{ReceiverSeen}
use Rattle.chunk_core.specs.Tables.{Values}
use Rattle.chunk_core.specs.declared.code.How.{How}
use Rattle.device_port.specs.Device.{DeviceTold}
use Rattle.device_port.specs.Depot.{DepotTold}
use Rattle.join_tale.specs.Tales.{Tale}
use Rattle.join_tree.specs.Settled.{Settles}
use Rattle.joined_runs.specs.Together.{RunsTogether}
use Rattle.pipeline_desc.specs.Meant.{PlanMeant, stream_limit}
use Rattle.pipeline_desc.specs.Sound.{IsSoundPlan}
use Rattle.plan_work.specs.Listed.{ListRuns}
use Rattle.plan_work.specs.Plans.{PlanRuns, opener_of, streams_of}
use Rattle.pull_turns.specs.Piping.{StateMeaning}
use Rattle.res_ledger.specs.declared.event.Event.{Event}
use Rattle.row_seat.specs.declared.view.View.{View}
use Rattle.run_rules.specs.Devices.{KeepsToWhatIsThere}
use Rattle.run_rules.specs.Work.{RunRecord}
use Rattle.scope_tree.specs.Calls.{Seen}
use Rattle.stream_parts.specs.Retire.{MayReturnAll, Returns}
use Rattle.collected.specs.Collected.{IsCollected, IsRunOf, all_left}
use Rattle.dealt_streams.specs.Moves.{lines_of}
use Rattle.dealt_streams.specs.declared.leftover.Leftover.{Leftover}

-- Once its main tree has settled into a ledger all devices that are left may go back. Once they went back the streams of the plan ran together, those of the lines of its list that were given streams among them, where no device tells that it was opened to be read that isn't there.
pub record CollectedRuns {S V F : Type 0} (view : S → View V) (told : V → DeviceTold) (P : Values → StateMeaning F) : Type 0 where
  pub may_go : (p : PlanMeant) (d0 now : DepotTold) (outer : How) (b : Seen V) (left : List (Leftover V)) (receiver : ReceiverSeen) (tale : Tale) (L : List Event) → IsSoundPlan p → (h : IsCollected view told P p d0 now outer b left receiver tale)
      → Settles p.max_open (stream_limit p) b h.progress L → MayReturnAll now (all_left told b.shelf left)
  pub runs : (p : PlanMeant) (d0 now last : DepotTold) (outer : How) (b : Seen V) (left : List (Leftover V)) (receiver : ReceiverSeen) (tale : Tale) (L : List Event) (c : RunRecord) → IsSoundPlan p → ((d : V) → KeepsToWhatIsThere (told d)) → (h : IsCollected view told P p d0 now outer b left receiver tale)
      → Settles p.max_open (stream_limit p) b h.progress L → Returns now last (all_left told b.shelf left) → IsRunOf p (length p.streams + length (lines_of h.moves)) outer tale L d0 last c
      → RunsTogether (opener_of p (lines_of h.moves)) (streams_of p (lines_of h.moves)) (PlanRuns p) ListRuns c
