use Rattle.std.proofs.Common.{sym, subst}
use Rattle.row_shared.specs.Orders.{HasAllOf}
use Rattle.row_shared.proofs.seat.SharedSeatRowSeat.finish.Goals as goal

pub returns : goal.returns
returns g c = let h = c.requires.fits in let t = c.end.ensures.told in let log = t.1.0 in let l = t.1.1 in
    let all : HasAllOf c.args.self.pass.me.0.token.events log = record { stamped = l.stamped; whole = l.whole; once = t.1.2 } in
    let is = c.in_order.ensures log (subst (λ xs. HasAllOf xs log) (sym h.noted) all) in
    rw is (record { stamped = l.stamped; whole = l.whole; legal = l.legal; ended = l.ended; canceled = l.canceled; names = l.names; payloads = l.payloads })
