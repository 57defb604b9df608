use Rattle.std.proofs.Common.{◌≡◌, ◌-◌, ◌≤◌, ◌++◌, ◌∷◌, [], slice_set, refl, ap, arith}
use Rattle.row_seat.specs.declared.token.Token.{Token}
use Rattle.row_seat.specs.Rule.{view_of}
use Rattle.row_seat.specs.Steps.{split_main, split_off}
use Rattle.row_seat.proofs.Sitting.{split_new, split_others, split_sits, split_table}
use Rattle.row_seat.proofs.plain.PlainSeatRowSeat.split.Goals.{then-rows, else-rows}
use Rattle.row_seat.proofs.plain.PlainSeatRowSeat.split.Goals as goal

pub returns : goal.returns
returns g c = let s = c.args.self.now in let d = c.args.desk.now in let h = c.requires.fits in let can = c.requires.can in let j = c.args.stream in let from = c.args.rows.from in let to = c.args.rows.to in let n = c.args.events in let v = s.token in
    let views : c.add.result ≡ slice_set d.views s.id (split_main v j from to n) ++ split_off v j from to n ∷ [] = rw (c.add.ensures, c.put-views.ensures, c.step.ensures, c.step-token.ensures) refl in
    let hands = c.in_ok-hands.ensures in
    let count : to - from ≤ c.if-rows.count = elim c.if-rows.branch [ then-rows w ↦ let a = w.if-rows in let b = w.count-is in grind arith | else-rows w ↦ let a = w.if-rows in let b = w.count-is in grind arith ] in
    let t = split_table h can in record {
      ok = (
        ap (λ (t : Token g.row.P.Denot). view_of t s.hands.items) c.step.ensures,
        rw (c.step-token.ensures, hands.items) refl,
        split_new h can views t refl _ c.know-id.ensures c.step-token.ensures refl hands.items hands.len (let k = hands.capacity in omega arith),
      );
      err = tt;
      fits = split_sits h can views t refl c.step.result c.step.ensures;
      others = split_others h can views t refl;
    }
