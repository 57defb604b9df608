use Rattle.std.proofs.Common.{◌≡◌, slice_set, refl, ap}
use Rattle.row_seat.specs.declared.token.Token.{Token}
use Rattle.row_seat.specs.Rule.{view_of}
use Rattle.row_seat.specs.Steps.{joined, taken_in}
use Rattle.row_seat.proofs.Apart.{seats_apart}
use Rattle.row_seat.proofs.Sitting.{join_others, join_sits, join_table}
use Rattle.row_seat.proofs.plain.PlainSeatRowSeat.join.Goals as goal

pub returns : goal.returns
returns g c = let s = c.args.self.now in let o = c.args.other in let d = c.args.desk.now in let h = c.requires.fits in let can = c.requires.can in
    let views : c.put.result ≡ slice_set (slice_set d.views s.id (joined s.token o.token)) o.id (taken_in o.token) = rw (c.put.ensures, c.put-views.ensures, c.step.ensures, c.know-taken_in.ensures) refl in
    let t = join_table h.0 h.1 can in record {
      view = ap (λ (t : Token g.row.P.Denot). view_of t s.hands.items) c.step.ensures;
      apart = seats_apart h.0.table.rule h.0.seated can.0 h.1.seated can.1.0 can.1.1 can.1.2 s.hands.items o.hands.items;
      fits = join_sits h.0 h.1 can views t refl c.step.result c.step.ensures;
      others = join_others h.0 h.1 can views t refl;
    }
