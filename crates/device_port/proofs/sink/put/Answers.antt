use Rattle.device_port.proofs.Puts.{one_more}
use Rattle.device_port.proofs.sink.put.Goals as goal

pub loop-at-preserved : goal.loop-at-preserved
loop-at-preserved g c =
    let e = c.in_ok-at.ensures in
    let i = c.loop-at.invariant in
    let m = one_more (g.K.Sink.told c.args.out.now) (g.K.Sink.told c.loop-at.out) (g.K.Sink.told c.write.new.self) c.args.bytes.now c.loop-at.at c.in_ok-at.field-0 i.within e.count.1 i.told e.ok in
    record { within = m.0; told = m.1 }
