use Rattle.std.proofs.Common.{get_or, refl}
use Rattle.chunk_core.proofs.Totals.{put_here}
use Rattle.par_eval.proofs.SeatLists.{at_read, if_none, if_some, lane_there}
use Rattle.par_eval.proofs.seats.take.Goals as goal

pub lane-lane-requires : goal.lane-lane-requires
lane-lane-requires g c = lane_there c.args.lanes.now c.args.seats.now c.args.number c.requires.at c.requires.within

pub take-requires-clause-at : goal.take-requires-clause-at
take-requires-clause-at g c =
    let r = c.index-seats-number.result in
    (c.requires.at.places c.args.number (get_or c.args.seats.now c.args.number r) c.lane-lane.result.now (at_read c.args.seats.now c.args.number r c.requires.within c.index-seats-number.is) c.lane-lane.ensures).1

pub take-requires-clause-may : goal.take-requires-clause-may
take-requires-clause-may g c =
    let r = c.index-seats-number.result in
    c.requires.may (get_or c.args.seats.now c.args.number r) (at_read c.args.seats.now c.args.number r c.requires.within c.index-seats-number.is)

pub returns-clause-some : goal.returns-clause-some
returns-clause-some g c =
    let r = c.index-seats-number.result in
    if_some c.take.result (λ w t. (get_or c.args.seats.now c.args.number r, c.take.new.self, at_read c.args.seats.now c.args.number r c.requires.within c.index-seats-number.is, t, refl)) c.take.ensures.some

pub returns-clause-none : goal.returns-clause-none
returns-clause-none g c =
    let r = c.index-seats-number.result in
    if_none c.take.result (λ t. (get_or c.args.seats.now c.args.number r, c.take.new.self, at_read c.args.seats.now c.args.number r c.requires.within c.index-seats-number.is, t, refl)) c.take.ensures.none

pub returns-clause-empty : goal.returns-clause-empty
returns-clause-empty g c =
    let r = c.index-seats-number.result in
    if_none c.take.result (λ t. (c.take.new.self, put_here c.args.seats.now c.args.number (get_or c.args.seats.now c.args.number r) c.take.new.self (at_read c.args.seats.now c.args.number r c.requires.within c.index-seats-number.is), t)) c.take.ensures.empty
