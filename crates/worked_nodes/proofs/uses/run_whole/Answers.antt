use Rattle.std.proofs.Common.{◌≡◌, flat_map, ap, ◌∙◌}
use Rattle.chunk_core.specs.Elements.{elements}
use Rattle.pull_turns.specs.Piping.{standing}
use Rattle.scope_tree.specs.Trees.{seen}
use Rattle.pull_stepper.specs.Steppers.{stepping}
use Rattle.worked_nodes.proofs.Driving.{goes, others_then}
use Rattle.worked_nodes.proofs.uses.run_whole.Goals as goal

pub gather-quiet-requires-clause-fits : goal.gather-quiet-requires-clause-fits
gather-quiet-requires-clause-fits g c = c.in_ok-stepper.ensures.fits c.args.desk.now c.requires.fits

pub gather-quiet-requires-clause-can : goal.gather-quiet-requires-clause-can
gather-quiet-requires-clause-can g c = c.in_ok-stepper.ensures.can

pub returns-clause-ran : goal.returns-clause-ran
returns-clause-ran g c =
    let told = g.V.Device.told in let view = g.S.RowSeat.view in let values = g.F.PipeState.values in
    goes (standing g.F.Feed.stands g.F.Feed.comes) told c.args.node c.args.devices (seen view c.args.tree) c.requires.room (stepping view values c.gather-quiet.new.stepper) (stepping view values c.close.new.stepper) (flat_map elements c.gather-quiet.new.out.items)
    (stepping view values c.in_ok-stepper.stepper) (values c.args.tables) c.args.pace.chunk c.in_ok-stepper.ensures.begun c.gather-quiet.ensures.gathers c.gather-quiet.ensures.spends c.gather-quiet.ensures.since
    (seen view c.end.result.tree) c.end.result.how c.end.result.unopened c.close.ensures.how c.close.ensures.tells c.close.ensures.affords c.close.ensures.since c.end.ensures.ends
    (c.end.ensures.fits c.close.new.desk c.close.ensures.fits).sound.used

pub returns-clause-fits : goal.returns-clause-fits
returns-clause-fits g c = c.end.ensures.fits c.close.new.desk c.close.ensures.fits

pub returns-clause-others : goal.returns-clause-others
returns-clause-others g c =
    let view = g.S.RowSeat.view in let values = g.F.PipeState.values in let fits = g.S.RowSeat.fits in
    let first = (stepping view values c.in_ok-stepper.stepper).site.tree.seat.by in
    let by : first ≡ (view c.args.tree.seat).by = ap (λ s. s.site.tree.seat.by) c.in_ok-stepper.ensures.begun in
    others_then view fits (view c.args.tree.seat).by _ c.args.desk.now c.gather-quiet.new.desk c.close.new.desk (c.gather-quiet.ensures.since.alone.by ∙ by)
    (others_then view fits (view c.args.tree.seat).by first c.args.desk.now c.args.desk.now c.gather-quiet.new.desk by (λ o n t. t) c.gather-quiet.ensures.others)
    c.close.ensures.others
