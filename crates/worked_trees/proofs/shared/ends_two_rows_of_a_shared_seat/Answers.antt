use Rattle.std.proofs.Common.{[], ◌∷◌, sym, subst}
use Rattle.chunk_core.specs.Lists.{IsAmong}
use Rattle.chunk_core.specs.Lists.IsAmong.{here, there}
use Rattle.row_seat.specs.declared.view.View.{View}
use Rattle.worked_trees.proofs.shared.ends_two_rows_of_a_shared_seat.Goals as goal

pub two-shelf-requires-clause-rows : goal.two-shelf-requires-clause-rows
two-shelf-requires-clause-rows g c =
    let e = sym c.in_ok-seat.ensures.0 in (subst (λ (v : View _). IsAmong 0 v.empty) e (here (1 ∷ [])), subst (λ (v : View _). IsAmong 1 v.empty) e (there 0 (here [])))
