-- The branch that has its turn stays the one of its place.
use Rattle.std.proofs.Common.{◌<◌, length, ◌∙◌, arith}
use Rattle.std.proofs.lemmas.List.{length-set}
use Rattle.tee_pump.proofs.Places.{at_read}
use Rattle.tee_pump.proofs.Ready.{hired_ready, hired_turned}
use Rattle.tee_pump.proofs.serving.turn_all.Goals as goal

pub turn-requires : goal.turn-requires
turn-requires g c =
    let hired = c.args.hired.now in
    let ok = hired.ok.0 in
    let len = c.len-i-end.ensures in
    let test = c.loop-i-test.true in
    let same = c.loop-i.invariant.same in
    let l : c.loop-i.i < length c.loop-i.hired.items = omega (arith, ok, len, test, same) in
    let r = c.requires.hired in
    record { at = hired_ready g.F.Feed.stands g.F.Feed.comes (record { topic = c.args.site.now.topic.now; hub = c.args.site.now.hub.now; board = c.args.site.now.board.now }) r.0 c.loop-i.hired.items c.loop-i.i c.index_mut.result.now (c.loop-i.invariant.hired r.0 r.1) (at_read c.loop-i.hired.items c.loop-i.i c.index_mut.result.now l c.index_mut.ensures.value) }

pub loop-i-preserved : goal.loop-i-preserved
loop-i-preserved g c =
    let hired = c.args.hired.now in
    let ok = hired.ok.0 in
    let len = c.len-i-end.ensures in
    let test = c.loop-i-test.true in
    let same = c.loop-i.invariant.same in
    let l : c.loop-i.i < length c.loop-i.hired.items = omega (arith, ok, len, test, same) in
    let kept = length-set c.loop-i.hired.items c.loop-i.i c.turn.new.self in
    record {
      hired = λ ms a. hired_turned g.F.Feed.stands g.F.Feed.comes (record { topic = c.args.site.now.topic.now; hub = c.args.site.now.hub.now; board = c.args.site.now.board.now }) ms c.loop-i.hired.items c.loop-i.i c.index_mut.result.now c.turn.new.self (c.loop-i.invariant.hired ms a)
          (at_read c.loop-i.hired.items c.loop-i.i c.index_mut.result.now l c.index_mut.ensures.value) c.turn.ensures.hired kept;
      same = kept ∙ same;
    }
