use Rattle.scope_tree.specs.Trees.{seen}
use Rattle.outer_stream.proofs.Stepping.{child_entered, root_entered}
use Rattle.outer_stream.proofs.outer.Outer.enter.Goals as goal

pub returns-then-self-eq0-clause-step : goal.returns-then-self-eq0-clause-step
returns-then-self-eq0-clause-step g c = root_entered g.V.Device.told c.args.self.now.scope (seen g.S.RowSeat.view c.args.tree.now) c.requires.left

pub returns-clause-step : goal.returns-clause-step
returns-clause-step g c =
    let e = c.open_child-self.ensures in
    child_entered g.V.Device.told c.open_child-self.result (seen g.S.RowSeat.view c.args.tree.now) (seen g.S.RowSeat.view c.open_child-self.new.tree) e.child.0
    (record { main = e.main; gives = e.gives; guests = e.guests; rows = e.rows; events = e.events; room = e.room })
