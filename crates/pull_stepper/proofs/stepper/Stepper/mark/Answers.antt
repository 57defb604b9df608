-- The tree's seat sees the front, and nothing else is done.
use Rattle.std.proofs.Common.{◌≡◌, sym, ap, ◌∙◌, subst}
use Rattle.row_seat.specs.Fronts.{sight_of}
use Rattle.row_seat.specs.Views.{IsFreshStamp, OthersFit}
use Rattle.scope_tree.specs.Trees.{Fits}
use Rattle.pull_stepper.specs.declared.resources.Resources.{Resources}
use Rattle.pull_stepper.proofs.Again.{stepping_again, works_again}
use Rattle.pull_stepper.proofs.stepper.Stepper.mark.Goals as goal

pub mark-requires : goal.mark-requires
mark-requires g c = record { fits = subst (λ (r : Resources _ _ _ _). Fits g.S.RowSeat.view g.S.RowSeat.fits r.tree c.args.desk.now) (sym c.outside_mut.ensures.value) c.requires.fits.stands.tree }

pub returns-clause-same : goal.returns-clause-same
returns-clause-same g c = stepping_again g.S.RowSeat.view c.args.self.now c.outside_mut.result.now c.mark.new.self c.outside_mut.ensures.value c.mark.ensures.seen g.F.PipeState.values

pub returns-clause-front : goal.returns-clause-front
returns-clause-front g c = subst (λ (r : Resources _ _ _ _). IsFreshStamp (g.S.RowSeat.view r.tree.seat) c.mark.result.0) c.outside_mut.ensures.value c.mark.ensures.front

pub returns-clause-sight : goal.returns-clause-sight
returns-clause-sight g c = subst (λ (r : Resources _ _ _ _). g.S.MarksFront.sight c.mark.result.1 ≡ sight_of (g.S.RowSeat.view r.tree.seat) c.mark.result.0) c.outside_mut.ensures.value c.mark.ensures.sight

pub returns-clause-fits : goal.returns-clause-fits
returns-clause-fits g c = works_again g.S.RowSeat.view c.args.self.now c.outside_mut.result.now c.mark.new.self c.outside_mut.ensures.value c.mark.ensures.seen g.V.Device.told g.S.RowSeat.fits c.args.desk.now c.mark.new.desk c.requires.fits c.mark.ensures.fits

pub returns-clause-others : goal.returns-clause-others
returns-clause-others g c = subst (λ (r : Resources _ _ _ _). OthersFit g.S.RowSeat.view g.S.RowSeat.fits (g.S.RowSeat.view r.tree.seat).by c.args.desk.now c.mark.new.desk) c.outside_mut.ensures.value c.mark.ensures.others
