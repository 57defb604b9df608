use Rattle.std.proofs.Common.{get_or, slice_set, ap}
use Rattle.par_eval.specs.Dealers.{LaneSeen}
use Rattle.par_eval.proofs.SeatLists.{at_read, lane_there, on_err, on_ok}
use Rattle.par_eval.proofs.seats.post.Goals as goal

pub lane-lane-requires : goal.lane-lane-requires
lane-lane-requires g c = lane_there c.args.lanes.now c.args.seats.now c.args.number c.requires.at c.requires.within

pub post-requires-clause-at : goal.post-requires-clause-at
post-requires-clause-at g c =
    let r = c.index-seats-number.result in
    (c.requires.at.places c.args.number (get_or c.args.seats.now c.args.number r) c.lane-lane.result.now (at_read c.args.seats.now c.args.number r c.requires.within c.index-seats-number.is) c.lane-lane.ensures).0

pub post-requires-clause-open : goal.post-requires-clause-open
post-requires-clause-open g c =
    let r = c.index-seats-number.result in
    c.requires.open (get_or c.args.seats.now c.args.number r) (at_read c.args.seats.now c.args.number r c.requires.within c.index-seats-number.is)

pub post-requires-clause-may : goal.post-requires-clause-may
post-requires-clause-may g c =
    let r = c.index-seats-number.result in
    c.requires.may (get_or c.args.seats.now c.args.number r) (at_read c.args.seats.now c.args.number r c.requires.within c.index-seats-number.is)

pub returns-clause-sent : goal.returns-clause-sent
returns-clause-sent g c =
    let r = c.index-seats-number.result in
    on_ok c.post.result (λ is. (get_or c.args.seats.now c.args.number r, at_read c.args.seats.now c.args.number r c.requires.within c.index-seats-number.is, ap (λ (x : LaneSeen). slice_set c.args.seats.now c.args.number x) is)) c.post.ensures.sent

pub returns-clause-full : goal.returns-clause-full
returns-clause-full g c =
    let r = c.index-seats-number.result in
    on_err c.post.result (λ full. (get_or c.args.seats.now c.args.number r, at_read c.args.seats.now c.args.number r c.requires.within c.index-seats-number.is, full)) c.post.ensures.full
