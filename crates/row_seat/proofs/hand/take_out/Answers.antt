use Rattle.std.proofs.Common.{◌≡◌, slice_index_or, remove, arith, ap, ◌∙◌, subst}
use Rattle.row_seat.specs.Hands.{spot}
use Rattle.row_seat.proofs.Hands.{spot_among, spot_removed}
use Rattle.row_seat.proofs.hand.take_out.Goals as goal

pub returns : goal.returns
returns g c = let xs = c.args.hands.now.items in let row = c.args.row in let x = c.remove.result in
    let at : c.find-place.result ≡ spot row xs = c.find-place.ensures.place ∙ ap (spot row) c.deref.ensures.value in record {
      pay = (spot_among row xs x c.requires (subst (λ i. x ≡ slice_index_or xs i x) at c.remove.ensures.value)).1;
      rest = c.remove.ensures.items ∙ ap (remove xs) at ∙ spot_removed row xs c.requires;
      less = omega arith;
      room = c.remove.ensures.capacity;
    }
