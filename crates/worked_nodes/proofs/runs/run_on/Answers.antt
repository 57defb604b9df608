use Rattle.std.proofs.Common.{◌∙◌, ◌-◌, ◌^◌, ap, arith, length, refl, sym}
use Rattle.pull_nodes.specs.Shape.{places_of}
use Rattle.pull_nodes.proofs.Counts.{places_le, scopes_le}
use Rattle.res_ledger.specs.declared.event.StreamNo.TheVariants.{Inner}
use Rattle.row_seat.specs.Views.{start}
use Rattle.worked_nodes.proofs.Driving.{placed_first, placed_supplied}
use Rattle.worked_nodes.proofs.runs.run_on.Goals as goal

pub new-requires : goal.new-requires
new-requires c = omega (arith, c.events.ensures, places_le c.args.node, scopes_le c.args.node)

pub overflow_add-scopes : goal.overflow_add-scopes
overflow_add-scopes c = omega (arith, c.scopes.ensures, scopes_le c.args.node)

pub run_alone-requires-clause-supplied : goal.run_alone-requires-clause-supplied
run_alone-requires-clause-supplied c =
    let fits = c.in_ok-fits_rows.ensures in
    placed_supplied _ c.args.node fits.placed fits.count _ _ fits.kind (omega (arith, c.len.ensures, c.requires.count)) (sym c.len.ensures) c.requires.unused (c.if-not-are_for.ensures.reads refl) (c.if-not-are_for.ensures.writes refl)

pub run_alone-requires-clause-first : goal.run_alone-requires-clause-first
run_alone-requires-clause-first c = let fits = c.in_ok-fits_rows.ensures in placed_first _ c.args.node fits.placed fits.count

pub run_alone-requires-clause-start : goal.run_alone-requires-clause-start
run_alone-requires-clause-start c =
    let splits = 2 ^ 32 - 1 in
    (splits, c.in_ok-seat.ensures.0 ∙ (ap (λ r. start (Inner 0) r c.events.result splits) c.places.ensures ∙ ap (λ e. start (Inner 0) (length (places_of c.args.node)) e splits) c.events.ensures))
