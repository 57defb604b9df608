-- The pump of a crew that has begun.
use Rattle.std.proofs.Common.{refl}
use Rattle.tee_pump.specs.declared.pump.Pump.{Pump}
use Rattle.tee_pump.proofs.Crewing.{pump_begins}
use Rattle.tee_pump.proofs.pump.Pump.begin.Goals as goal

pub returns : goal.returns
returns g c = λ ms start room h.
    let crew = c.args.crew in
    let p : Pump g.row.F.Denot = record { publisher = crew.publisher; printer = crew.printer; seat = crew.seat; hired = c.begin_all-hired.result; ends = crew.ends } in
    pump_begins g.F.Feed.stands g.F.Feed.comes (record { topic = c.args.site.now.topic.now; hub = c.args.site.now.hub.now; board = c.args.site.now.board.now }) ms start crew p room h refl refl refl refl (c.begin_all-hired.ensures ms h.branches)
