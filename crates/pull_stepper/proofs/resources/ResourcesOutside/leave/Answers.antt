-- A scope that the tree closes is closed in the resources.
use Rattle.scope_tree.specs.Trees.{seen as tree_seen}
use Rattle.pull_stepper.specs.Resources.{site}
use Rattle.pull_stepper.proofs.Leaving.{left_leaves, left_order, left_since}
use Rattle.pull_stepper.proofs.Standing.{stands}
use Rattle.pull_stepper.proofs.resources.ResourcesOutside.leave.Goals as goal

pub returns-clause-leaves : goal.returns-clause-leaves
returns-clause-leaves g c =
    let o = c.args.self.now in let s = c.requires.fits.tree.sound in let n = c.close.ensures.fits.sound in
    left_leaves g.V.Device.told g.met.V.Device.open_once (site g.S.RowSeat.view o) (tree_seen g.S.RowSeat.view c.close.new.self) c.args.scope c.args.exit o.tree.branches.items o.tree.acquisitions.items s.kept s.shelved c.requires.fits.order c.requires.scope c.close.ensures.closes c.close.new.self.branches.items c.close.new.self.acquisitions.items n.kept n.shelved

pub returns-clause-fits : goal.returns-clause-fits
returns-clause-fits g c =
    let o = c.args.self.now in let s = c.requires.fits.tree.sound in
    stands g.S.RowSeat.view g.V.Device.told g.S.RowSeat.fits (record o { tree = c.close.new.self }) c.close.new.desk c.close.ensures.fits
    (left_order g.V.Device.told g.met.V.Device.open_once (site g.S.RowSeat.view o) (tree_seen g.S.RowSeat.view c.close.new.self) c.args.scope c.args.exit o.tree.branches.items o.tree.acquisitions.items s.kept s.shelved c.requires.fits.order c.requires.scope c.close.ensures.closes)

pub returns-clause-since : goal.returns-clause-since
returns-clause-since g c =
    let o = c.args.self.now in let s = c.requires.fits.tree.sound in record {
      since = left_since g.V.Device.told g.met.V.Device.open_once (site g.S.RowSeat.view o) (tree_seen g.S.RowSeat.view c.close.new.self) c.args.scope c.args.exit o.tree.branches.items o.tree.acquisitions.items s.kept s.shelved c.requires.fits.order c.requires.scope c.close.ensures.closes;
      others = c.close.ensures.others;
    }
