use Rattle.std.proofs.Common.{[], ◌∷◌, sym, subst, lit≤}
use Rattle.chunk_core.specs.Lists.{IsAmong}
use Rattle.chunk_core.specs.Lists.IsAmong.{here, there}
use Rattle.res_ledger.specs.declared.event.StreamNo.TheVariants.{Outer}
use Rattle.row_seat.specs.declared.view.View.{View}
use Rattle.row_seat.specs.PlainSeats.{shown}
use Rattle.tree_scripts.proofs.ThreeRows.{script_start}
use Rattle.worked_trees.proofs.scripts.ends_two_rows_of_a_plain_seat.Goals as goal

pub two-shelf-requires-clause-start : goal.two-shelf-requires-clause-start
two-shelf-requires-clause-start g c = script_start (shown c.in_ok-seat.seat) Outer 2 7 _ (lit≤ tt) c.in_ok-seat.ensures.0

pub two-shelf-requires-clause-rows : goal.two-shelf-requires-clause-rows
two-shelf-requires-clause-rows g c =
    let e = sym c.in_ok-seat.ensures.0 in (subst (λ (v : View _). IsAmong 0 v.empty) e (here (1 ∷ [])), subst (λ (v : View _). IsAmong 1 v.empty) e (there 0 (here [])))
