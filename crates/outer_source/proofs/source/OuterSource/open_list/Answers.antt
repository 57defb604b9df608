-- A child scope is opened, and the list's device acquired there.
use Rattle.std.proofs.Common.{◌≡◌, length, sym, ap, ◌∙◌, subst}
use Rattle.pipeline_desc.specs.Meant.{stream_limit}
use Rattle.chunk_core.specs.Lists.{IsAmong}
use Rattle.scope_tree.specs.Calls.{AcquiresRow as Acquired}
use Rattle.scope_tree.specs.Trees.{seen}
use Rattle.outer_source.proofs.Opening.{OpensScope, fails_so, opens_so, row_empty, row_free, row_room, scope_free, scope_is, scope_room, tries_badly}
use Rattle.outer_source.proofs.source.OuterSource.open_list.Goals as goal

pub open_child-self-requires-clause-main : goal.open_child-self-requires-clause-main
open_child-self-requires-clause-main g c = let m = c.requires.may in (m.1, stream_limit c.args.plan.now, m.2, m.3.main, m.3.root)

pub open_child-self-requires-clause-room : goal.open_child-self-requires-clause-room
open_child-self-requires-clause-room g c = let m = c.requires.may in scope_room g.D.Dev.Device.told c.args.plan.now m.0 m.1 m.3

pub open_child-self-requires-clause-free : goal.open_child-self-requires-clause-free
open_child-self-requires-clause-free g c = let m = c.requires.may in scope_free g.D.Dev.Device.told c.args.plan.now m.0 m.1 m.3

pub acquired-requires-clause-scope : goal.acquired-requires-clause-scope
acquired-requires-clause-scope g c = c.open_child-self.ensures.child.1

pub acquired-requires-clause-row : goal.acquired-requires-clause-row
acquired-requires-clause-row g c =
    let told = g.D.Dev.Device.told in
    let p = c.args.plan.now in
    let m = c.requires.may in
    let e = c.open_child-self.ensures in
    let b = seen g.S.RowSeat.view c.open_child-self.new.tree in
    let w : OpensScope told p m.0 m.1 m.3 b c.open_child-self.result = record { is = scope_is told p m.0 m.1 m.3 c.open_child-self.result e.number; main = e.main m.1 (stream_limit p) m.2 m.3.main m.3.root; gives = e.gives; usable = e.child.1; guests = e.guests; rows = e.rows; events = e.events; room = e.room } in
    let same : c.len-row.result ≡ length p.tables = c.len-row.ensures ∙ ap length c.tables.ensures.value in
    subst (λ r. IsAmong r b.seat.empty) (sym same) (row_empty told p m.0 m.1 m.3 b c.open_child-self.result w)

pub acquired-requires-clause-room : goal.acquired-requires-clause-room
acquired-requires-clause-room g c =
    let told = g.D.Dev.Device.told in
    let p = c.args.plan.now in
    let m = c.requires.may in
    let e = c.open_child-self.ensures in
    let b = seen g.S.RowSeat.view c.open_child-self.new.tree in
    let w : OpensScope told p m.0 m.1 m.3 b c.open_child-self.result = record { is = scope_is told p m.0 m.1 m.3 c.open_child-self.result e.number; main = e.main m.1 (stream_limit p) m.2 m.3.main m.3.root; gives = e.gives; usable = e.child.1; guests = e.guests; rows = e.rows; events = e.events; room = e.room } in
    row_room told p m.0 m.1 m.3 b c.open_child-self.result w

pub acquired-requires-clause-free : goal.acquired-requires-clause-free
acquired-requires-clause-free g c =
    let told = g.D.Dev.Device.told in
    let p = c.args.plan.now in
    let m = c.requires.may in
    let e = c.open_child-self.ensures in
    let b = seen g.S.RowSeat.view c.open_child-self.new.tree in
    let w : OpensScope told p m.0 m.1 m.3 b c.open_child-self.result = record { is = scope_is told p m.0 m.1 m.3 c.open_child-self.result e.number; main = e.main m.1 (stream_limit p) m.2 m.3.main m.3.root; gives = e.gives; usable = e.child.1; guests = e.guests; rows = e.rows; events = e.events; room = e.room } in
    row_free told p m.0 m.1 m.3 b c.open_child-self.result w

pub returns-clause-tries : goal.returns-clause-tries
returns-clause-tries g c parts width q h =
    let told = g.D.Dev.Device.told in
    let p = c.args.plan.now in
    let e = c.open_child-self.ensures in
    let b = seen g.S.RowSeat.view c.open_child-self.new.tree in
    let w : OpensScope told p parts width h b c.open_child-self.result = record { is = scope_is told p parts width h c.open_child-self.result e.number; main = e.main width (stream_limit p) q h.main h.root; gives = e.gives; usable = e.child.1; guests = e.guests; rows = e.rows; events = e.events; room = e.room } in
    let t = c.acquired.ensures in
    let d = c.in_ok-device.device in
    let d1 = seen g.S.RowSeat.view c.acquired.new.self in
    let same : c.len-row.result ≡ length p.tables = c.len-row.ensures ∙ ap length c.tables.ensures.value in
    (d, opens_so told p parts width h b c.open_child-self.result w c.args.list.now (g.D.Depot.told c.args.depot.now) (g.D.Depot.told c.open_device.new.depot) d c.in_ok-device.ensures d1 c.new.result c.new.ensures (subst (λ r. Acquired b c.open_child-self.result r c.new.result d1) same t.acquires) t.scopes t.room t.owed)

pub returns-in_err-device-clause-tries : goal.returns-in_err-device-clause-tries
returns-in_err-device-clause-tries g c parts width q h =
    let told = g.D.Dev.Device.told in
    let p = c.args.plan.now in
    let e = c.open_child-self.ensures in
    let a = seen g.S.RowSeat.view c.args.tree.now in
    let b = seen g.S.RowSeat.view c.open_child-self.new.tree in
    let x = c.args.self.now.outer in
    let s = c.open_child-self.result in
    let w : OpensScope told p parts width h b s = record { is = scope_is told p parts width h s e.number; main = e.main width (stream_limit p) q h.main h.root; gives = e.gives; usable = e.child.1; guests = e.guests; rows = e.rows; events = e.events; room = e.room } in
    let why = c.in_err-device.field-0.0 in
    tries_badly told p parts width c.args.list.now q x (record x { scope = s }) (g.D.Depot.told c.args.depot.now) (g.D.Depot.told c.open_device.new.depot) a b c.from_residual.result why c.from_residual.ensures.1
    (fails_so told p parts width h b s w c.args.list.now (g.D.Depot.told c.args.depot.now) (g.D.Depot.told c.open_device.new.depot) why c.in_err-device.ensures)

pub returns-clause-others : goal.returns-clause-others
returns-clause-others g c o other fit =
    let m = c.requires.may in
    let by = (c.open_child-self.ensures.main m.1 (stream_limit c.args.plan.now) m.2 m.3.main m.3.root).by in
    c.acquired.ensures.others o (λ e. other (e ∙ by)) (c.open_child-self.ensures.others o other fit)
