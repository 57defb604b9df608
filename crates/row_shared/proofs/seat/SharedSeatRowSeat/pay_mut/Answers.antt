use Rattle.std.proofs.Common.{◌≡◌, ℕ, refl, ap, subst, ◌∙◌, slice_index_or}
use Rattle.std.specs.Vec.{with_item}
use Rattle.row_seat.specs.Hands.{spot}
use Rattle.row_seat.proofs.Hands.{spot_among}
use Rattle.row_shared.specs.declared.seat.SharedSeat.{SharedSeat}
use Rattle.row_shared.proofs.seat.SharedSeatRowSeat.pay_mut.Goals as goal

pub returns : goal.returns
returns g c =
    let s = c.args.self.now in let xs = s.hands.items in let i = c.find-i.result in let row = c.args.row in let y = c.index_mut-hand.result.now in
    let at : i ≡ spot row xs = c.find-i.ensures.place ∙ ap (spot row) c.deref.ensures.value in
    let x = spot_among row xs y c.requires.row (subst (λ k. y ≡ slice_index_or xs k y) at c.index_mut-hand.ensures.value) in
    let S : Type 0 = SharedSeat g.row.P.Denot in (
      (
        refl,
        λ w.
            ap (λ (n : ℕ). let z : S = record s { hands = with_item s.hands i (n, w) } in z) x.0 ∙
            ap (λ (k : ℕ). let z : S = record s { hands = with_item s.hands k (row, w) } in z) at,
      ),
      record { back = tt; value = x.1 },
    )
