-- The room of a run.
use Rattle.std.specs.Prelude.{◌≡◌, ℕ, ◌+◌}
use Rattle.res_ledger.specs.declared.event.StreamNo.TheVariants.{Outer}
use Rattle.pipeline_desc.specs.Meant.{PlanMeant, stream_limit}
use Rattle.pipeline_desc.specs.Places.{first_row, outer_rows}
use Rattle.row_seat.specs.declared.view.View.{View}
use Rattle.row_seat.specs.Views.{start}
use Rattle.scope_tree.specs.Visible.{row_room, scope_room}
use Rattle.collector.specs.Starting.{child_scopes, outer_events}
use Rattle.collector.specs.Trees.{events_from}
use Rattle.par_join.specs.declared.room.RunRoom.{RunRoom}

-- how many rows the streams of a plan have, as many as there may be, with those of the outer stream
abbrev pub all_rows : PlanMeant → ℕ
all_rows p = first_row p (stream_limit p)

-- the most events of a run: the Close of the outer stream's root, what else it notes, and for each stream that there may be its Lease and what it notes
abbrev pub all_events : PlanMeant → ℕ
all_events p = 1 + outer_events p + stream_limit p + events_from p 0

-- a fresh seat of the outer stream, with all rows, and room for all events and the seats of the streams, and room for its scopes and its rows
pub record IsRoomOfRun {S P : Type 0} (view : S → View P) (p : PlanMeant) (room : RunRoom S P) : Type 0 where
  pub seat : view room.seat ≡ start Outer (all_rows p) (all_events p) (stream_limit p)
  pub scopes : scope_room room.scopes ≡ 1 + child_scopes p
  pub rows : row_room room.scopes ≡ outer_rows p
