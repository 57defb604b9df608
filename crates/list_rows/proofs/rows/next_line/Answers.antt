use Rattle.std.proofs.Common.{sym, subst}
use Rattle.chunk_core.specs.Lists.{IsAmong}
use Rattle.scope_tree.proofs.Lent.{lent_fits, lent_seen}
use Rattle.scope_tree.specs.Lending.{lent_tree}
use Rattle.scope_tree.specs.Trees.{seen}
use Rattle.pull_stepper.specs.Held.{FinishesDevice}
use Rattle.list_rows.proofs.Paid.{paid_events, paid_gives, paid_guests, paid_main, paid_room, paid_rows, paid_scopes}
use Rattle.list_rows.proofs.rows.next_line.Goals as goal

pub returns-clause-fits : goal.returns-clause-fits
returns-clause-fits g c d f = lent_fits g.S.RowSeat.view g.S.RowSeat.with_pay g.met.S.RowSeat.pay_view g.S.RowSeat.fits g.met.S.RowSeat.pay_fits c.args.tree.now c.args.row c.next.new.device d f

pub returns-clause-reads : goal.returns-clause-reads
returns-clause-reads g c m given lines at =
    let view = g.S.RowSeat.view in
    let t = c.args.tree.now in
    let d = c.next.new.device in
    let held : IsAmong (c.args.row, c.device_mut.result.now) (seen view t).seat.opened = subst (λ x. IsAmong (c.args.row, x) (seen view t).seat.opened) (sym c.device_mut.ensures.value) c.pay_mut.ensures.value in
    record {
      before = c.device_mut.result.now;
      after = d;
      held = held;
      reads = c.next.ensures.device;
      comes = c.next.ensures.comes m given lines (at c.device_mut.result.now held);
      tree = lent_seen view g.S.RowSeat.with_pay g.met.S.RowSeat.pay_view t c.args.row d;
    }

pub returns-clause-main : goal.returns-clause-main
returns-clause-main g c width n q h =
    let view = g.S.RowSeat.view in
    let t = c.args.tree.now in
    let d = c.next.new.device in
    paid_main (seen view t) (seen view (lent_tree g.S.RowSeat.with_pay t c.args.row d)) c.args.row d (lent_seen view g.S.RowSeat.with_pay g.met.S.RowSeat.pay_view t c.args.row d) (FinishesDevice g.V.Device.told) c.requires.row width n q h

pub returns-clause-rows : goal.returns-clause-rows
returns-clause-rows g c =
    let view = g.S.RowSeat.view in
    let t = c.args.tree.now in
    let d = c.next.new.device in
    paid_rows (seen view t) (seen view (lent_tree g.S.RowSeat.with_pay t c.args.row d)) c.args.row d (lent_seen view g.S.RowSeat.with_pay g.met.S.RowSeat.pay_view t c.args.row d)

pub returns-clause-guests : goal.returns-clause-guests
returns-clause-guests g c =
    let view = g.S.RowSeat.view in
    let t = c.args.tree.now in
    let d = c.next.new.device in
    paid_guests (seen view t) (seen view (lent_tree g.S.RowSeat.with_pay t c.args.row d)) c.args.row d (lent_seen view g.S.RowSeat.with_pay g.met.S.RowSeat.pay_view t c.args.row d) (FinishesDevice g.V.Device.told) c.requires.row

pub returns-clause-scopes : goal.returns-clause-scopes
returns-clause-scopes g c =
    let view = g.S.RowSeat.view in
    let t = c.args.tree.now in
    let d = c.next.new.device in
    paid_scopes (seen view t) (seen view (lent_tree g.S.RowSeat.with_pay t c.args.row d)) c.args.row d (lent_seen view g.S.RowSeat.with_pay g.met.S.RowSeat.pay_view t c.args.row d)

pub returns-clause-room : goal.returns-clause-room
returns-clause-room g c =
    let view = g.S.RowSeat.view in
    let t = c.args.tree.now in
    let d = c.next.new.device in
    paid_room (seen view t) (seen view (lent_tree g.S.RowSeat.with_pay t c.args.row d)) c.args.row d (lent_seen view g.S.RowSeat.with_pay g.met.S.RowSeat.pay_view t c.args.row d)

pub returns-clause-events : goal.returns-clause-events
returns-clause-events g c =
    let view = g.S.RowSeat.view in
    let t = c.args.tree.now in
    let d = c.next.new.device in
    paid_events (seen view t) (seen view (lent_tree g.S.RowSeat.with_pay t c.args.row d)) c.args.row d (lent_seen view g.S.RowSeat.with_pay g.met.S.RowSeat.pay_view t c.args.row d)

pub returns-clause-gives : goal.returns-clause-gives
returns-clause-gives g c =
    let view = g.S.RowSeat.view in
    let t = c.args.tree.now in
    let d = c.next.new.device in
    paid_gives (seen view t) (seen view (lent_tree g.S.RowSeat.with_pay t c.args.row d)) c.args.row d (lent_seen view g.S.RowSeat.with_pay g.met.S.RowSeat.pay_view t c.args.row d)
