-- A collector over the room of a run is fresh.
use Rattle.std.proofs.Common.{◌≡◌, ℕ, ◌≤◌, sym, ap, ◌∙◌, arith}
use Rattle.collector.specs.Starting.{IsFirstSeat}
use Rattle.pipeline_desc.specs.Meant.{PlanMeant, stream_limit}
use Rattle.res_ledger.specs.declared.event.StreamNo.TheVariants.{Outer}
use Rattle.row_seat.specs.declared.view.View.{View}
use Rattle.row_seat.specs.Views.{start}
use Rattle.par_join.specs.Room.{all_events, all_rows}

-- the seat of a run has all rows and room for all events
pub first_seat : {P : Type 0} (p : PlanMeant) (v : View P) → v ≡ start Outer (all_rows p) (all_events p) (stream_limit p) → IsFirstSeat p v
first_seat p v e = record { rows = all_rows p; events = all_events p; splits = stream_limit p; is = e; all_rows = omega arith; all_events = omega arith; all_splits = omega arith }

-- the outer stream begins at it
pub begins_there : {P : Type 0} (p : PlanMeant) (v : View P) → v ≡ start Outer (all_rows p) (all_events p) (stream_limit p) → (rows events : ℕ) × (1 ≤ events) × (v ≡ start Outer rows events v.splits)
begins_there {P} p v e = (all_rows p, all_events p, omega arith, e ∙ ap (λ n. start {P = P} Outer (all_rows p) (all_events p) n) (sym (ap (λ (w : View P). w.splits) e)))
