-- Each end is there, and is told.
use Rattle.std.proofs.Common.{◌<◌, length, ap, ◌∙◌, arith}
use Rattle.tee_prints.proofs.Beginning.{at_index}
use Rattle.tee_pump.proofs.Places.{one_longer}
use Rattle.tee_pump.proofs.Telling.{not_untold, told_more}
use Rattle.tee_pump.proofs.ending.tell_all.Goals as goal

pub unreachable-requires : goal.unreachable-requires
unreachable-requires c =
    let told = c.args.told.now in
    let ok = told.ok.0 in
    let len = c.len-i-end.ensures in
    let test = c.loop-i-test.true in
    let l : c.loop-i.i < length told.items = omega (arith, ok, len, test) in
    not_untold told.items c.loop-i.i c.index.result.now (at_index told.items c.loop-i.i c.index.result.now l c.index.ensures) (c.requires.told c.loop-i.i l) c.in-None.is

pub loop-i-preserved : goal.loop-i-preserved
loop-i-preserved c =
    let told = c.args.told.now in
    let ok = told.ok.0 in
    let len = c.len-i-end.ensures in
    let test = c.loop-i-test.true in
    let inv = c.loop-i.invariant in
    let room = inv.room in
    let count = inv.count in
    let cap = c.push_reserved.ensures.capacity in
    let more = ap length c.push_reserved.ensures.items ∙ one_longer c.loop-i.ends.items c.in-Some.how in
    let l : c.loop-i.i < length told.items = omega (arith, ok, len, test) in
    record {
      count = omega (arith, more, count);
      room = omega (arith, room, cap);
      each = told_more told.items c.loop-i.ends.items c.push_reserved.new.self.items c.loop-i.i c.index.result.now c.in-Some.how count inv.each (at_index told.items c.loop-i.i c.index.result.now l c.index.ensures) c.in-Some.is c.push_reserved.ensures.items;
    }
