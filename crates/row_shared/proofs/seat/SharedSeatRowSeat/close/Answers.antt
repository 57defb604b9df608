use Rattle.std.proofs.Common.{◌<◌, sym, refl, subst, arith}
use Rattle.row_shared.specs.Told.{Closed}
use Rattle.row_shared.proofs.Calls.{closes_fits, closes_view, in_hand}
use Rattle.row_shared.proofs.seat.SharedSeatRowSeat.close.Goals as goal

pub close-requires-clause-inside : goal.close-requires-clause-inside
close-requires-clause-inside g c = let h = c.requires.fits in subst (λ a. c.args.row < a.shared.table_id.slots) (sym c.deref.ensures) (h.inside.opened c.args.row (in_hand c.args.desk.now h c.args.row c.requires.row.0))

pub close-requires-clause-row : goal.close-requires-clause-row
close-requires-clause-row g c = in_hand c.args.desk.now c.requires.fits c.args.row c.requires.row.0

pub returns-clause-view : goal.returns-clause-view
returns-clause-view g c = let out = c.take_out-pay.ensures in
    closes_view c.args.desk.now c.requires.fits c.deref.result.now.shared.table_id.slots c.args.row c.take_out-pay.result c.close.result c.close.new.pass.me c.take_out-pay.new.hands.items out.pay out.rest c.close.ensures.told

pub returns-clause-fits : goal.returns-clause-fits
returns-clause-fits g c = let out = c.take_out-pay.ensures in let less = out.less in
    closes_fits c.args.desk.now c.requires.fits _ c.args.row c.take_out-pay.result c.close.result c.close.ensures.table refl refl out.rest (omega arith) out.room
    (subst (λ a. Closed a.shared.table_id.slots c.args.row c.take_out-pay.result c.close.result c.args.self.now.pass.me.0.token c.close.new.pass.me) c.deref.ensures c.close.ensures.told)
