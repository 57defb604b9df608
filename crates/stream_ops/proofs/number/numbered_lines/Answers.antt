use Rattle.std.proofs.Common.{arith}
use Rattle.stream_ops.proofs.Numbers.{number_more}
use Rattle.stream_ops.proofs.number.numbered_lines.Goals as goal

pub loop-i-preserved : goal.loop-i-preserved
loop-i-preserved c k first =
    number_more k c.loop-i.i c.saturating_add-number.result c.args.lines.now c.index-lines-i.result c.in_ok-numbered.field-0 c.loop-i.given.items c.push.new.self.items
    c.loop-i-test.true c.index-lines-i.is c.in_ok-numbered.ensures (omega arith) c.in_ok-push.ensures.items (c.loop-i.invariant k first)
