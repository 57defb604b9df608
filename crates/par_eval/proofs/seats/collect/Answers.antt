use Rattle.std.proofs.Common.{◌≡◌, ℕ, ◌<◌, get_or, length, slice_set, refl, sym, ap, ◌∙◌, subst}
use Rattle.chunk_core.specs.Totals.{IsAt}
use Rattle.par_eval.specs.Dealers.{IsSettled, LaneSeen, collects}
use Rattle.par_eval.specs.Lanes.{LaneHubs}
use Rattle.par_eval.proofs.Places.{at_below}
use Rattle.par_eval.proofs.SeatLists.{at_read}
use Rattle.par_eval.proofs.seats.collect.Goals as goal

pub bounds-seats-number : goal.bounds-seats-number
bounds-seats-number g c = subst (λ n. n < length c.args.seats.now) (sym c.number-number.ensures)
    (subst (λ n. c.args.hand.number < n) (sym c.requires.at.count) (at_below c.args.lanes.now c.args.hand.number c.requires.hand.lane c.requires.hand.place))

pub collect-requires-clause-at : goal.collect-requires-clause-at
collect-requires-clause-at g c =
    let r = c.index-seats-number.result in let n = c.number-number.result in
    let less : n < length c.args.seats.now = subst (λ k. k < length c.args.seats.now) (sym c.number-number.ensures) (subst (λ k. c.args.hand.number < k) (sym c.requires.at.count) (at_below c.args.lanes.now c.args.hand.number c.requires.hand.lane c.requires.hand.place)) in
    c.requires.at.places n (get_or c.args.seats.now n r) c.lane-lane.result.now (at_read c.args.seats.now n r less c.index-seats-number.is) c.lane-lane.ensures

pub collect-requires-clause-open : goal.collect-requires-clause-open
collect-requires-clause-open g c =
    let r = c.index-seats-number.result in let n = c.number-number.result in
    let less : n < length c.args.seats.now = subst (λ k. k < length c.args.seats.now) (sym c.number-number.ensures) (subst (λ k. c.args.hand.number < k) (sym c.requires.at.count) (at_below c.args.lanes.now c.args.hand.number c.requires.hand.lane c.requires.hand.place)) in
    c.requires.open (get_or c.args.seats.now n r) (subst (λ k. IsAt c.args.seats.now k (get_or c.args.seats.now n r)) c.number-number.ensures (at_read c.args.seats.now n r less c.index-seats-number.is))

pub returns : goal.returns
returns g c =
    let r = c.index-seats-number.result in let n = c.number-number.result in
    let less : n < length c.args.seats.now = subst (λ k. k < length c.args.seats.now) (sym c.number-number.ensures) (subst (λ k. c.args.hand.number < k) (sym c.requires.at.count) (at_below c.args.lanes.now c.args.hand.number c.requires.hand.lane c.requires.hand.place)) in
    let s = get_or c.args.seats.now n r in (
      s,
      subst (λ k. IsAt c.args.seats.now k s) c.number-number.ensures (at_read c.args.seats.now n r less c.index-seats-number.is),
      ap (λ (x : LaneSeen). slice_set c.args.seats.now n x) c.collect.ensures.becomes ∙ ap (λ k. slice_set c.args.seats.now k (collects s c.args.hand)) c.number-number.ensures,
      subst (λ (x : LaneSeen). IsSettled x c.args.hand) c.collect.ensures.becomes c.collect.ensures.settled,
    )
