use Rattle.scope_tree.specs.Trees.{seen}
use Rattle.outer_stream.proofs.Stepping.{child_left, root_left}
use Rattle.outer_stream.proofs.outer.Outer.leave.Goals as goal

pub returns-then-self-eq0-clause-step : goal.returns-then-self-eq0-clause-step
returns-then-self-eq0-clause-step g c = root_left g.V.Device.told c.args.self.now.scope (seen g.S.RowSeat.view c.args.tree.now) c.if-self-eq0.true

pub returns-clause-step : goal.returns-clause-step
returns-clause-step g c =
    let e = c.close_child.ensures in
    child_left g.V.Device.told c.args.self.now.scope (seen g.S.RowSeat.view c.args.tree.now) (seen g.S.RowSeat.view c.close_child.new.tree) c.if-self-eq0.false
    (record { main = e.main; gives = e.gives; guests = e.guests; rows = e.rows; events = e.events; room = e.room })
