-- A scope that the tree opens is one of the resources.
use Rattle.std.proofs.Common.{◌+◌, ◌≤◌, arith}
use Rattle.scope_tree.specs.Trees.{seen as tree_seen}
use Rattle.scope_tree.specs.Trace.{owed}
use Rattle.pull_stepper.specs.Held.{FinishesDevice}
use Rattle.pull_stepper.specs.Resources.{site}
use Rattle.pull_stepper.proofs.Entering.{enter_enters, enter_order, enter_since, root_open}
use Rattle.pull_stepper.proofs.Standing.{stands}
use Rattle.pull_stepper.proofs.resources.ResourcesOutside.enter.Goals as goal

pub open-requires-clause-root : goal.open-requires-clause-root
open-requires-clause-root g c =
    let t = c.args.self.now.tree in root_open (g.S.RowSeat.view t.seat) t.branches.items t.acquisitions.items c.requires.fits.tree.sound.kept c.args.at c.requires.scope

pub returns-clause-enters : goal.returns-clause-enters
returns-clause-enters g c =
    let o = c.args.self.now in let free : owed (g.S.RowSeat.view o.tree.seat) + 2 ≤ (g.S.RowSeat.view o.tree.seat).spare = omega arith in
    enter_enters g.V.Device.told (FinishesDevice g.V.Device.told) (site g.S.RowSeat.view o) (tree_seen g.S.RowSeat.view c.open.new.self) c.args.at c.open.result o.tree.branches.items o.tree.acquisitions.items c.requires.fits.tree.sound.kept c.requires.fits.order c.requires.scope free c.open.ensures.opens

pub returns-clause-fits : goal.returns-clause-fits
returns-clause-fits g c =
    let o = c.args.self.now in let free : owed (g.S.RowSeat.view o.tree.seat) + 2 ≤ (g.S.RowSeat.view o.tree.seat).spare = omega arith in
    stands g.S.RowSeat.view g.V.Device.told g.S.RowSeat.fits (record o { tree = c.open.new.self }) c.open.new.desk c.open.ensures.fits
    (enter_order g.V.Device.told (FinishesDevice g.V.Device.told) (site g.S.RowSeat.view o) (tree_seen g.S.RowSeat.view c.open.new.self) c.args.at c.open.result o.tree.branches.items o.tree.acquisitions.items c.requires.fits.tree.sound.kept c.requires.fits.order c.requires.scope free c.open.ensures.opens)

pub returns-clause-since : goal.returns-clause-since
returns-clause-since g c =
    let o = c.args.self.now in let free : owed (g.S.RowSeat.view o.tree.seat) + 2 ≤ (g.S.RowSeat.view o.tree.seat).spare = omega arith in record {
      since = enter_since g.V.Device.told (FinishesDevice g.V.Device.told) (site g.S.RowSeat.view o) (tree_seen g.S.RowSeat.view c.open.new.self) c.args.at c.open.result o.tree.branches.items o.tree.acquisitions.items c.requires.fits.tree.sound.kept c.requires.fits.order c.requires.scope free c.open.ensures.opens (omega arith);
      others = c.open.ensures.others;
    }
