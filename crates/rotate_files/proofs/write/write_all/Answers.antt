use Rattle.rotate_files.proofs.Written.{one_more}
use Rattle.rotate_files.proofs.write.write_all.Goals as goal

pub loop-at-preserved : goal.loop-at-preserved
loop-at-preserved g c =
    let e = c.in_ok-at.ensures in
    let i = c.loop-at.invariant in
    let m = one_more (g.V.Device.told c.args.device.now) (g.V.Device.told c.loop-at.device) (g.V.Device.told c.write.new.self) c.args.bytes.now c.loop-at.at c.in_ok-at.field-0 i.within e.count.1 i.told e.ok in
    record { within = m.0; told = m.1 }
