-- Of the groups that were dealt all results were taken, and the crew was joined.
use Rattle.pull_stepper.specs.Steppers.{stepping}
use Rattle.pull_turns.specs.Piping.{standing}
use Rattle.eval_run.proofs.Pumped.{pumped_all}
use Rattle.eval_run.proofs.pump.pump.Goals as goal

pub deal_all-stop-requires-clause-some : goal.deal_all-stop-requires-clause-some
deal_all-stop-requires-clause-some g c = c.requires.some

pub deal_all-stop-requires-clause-size : goal.deal_all-stop-requires-clause-size
deal_all-stop-requires-clause-size g c = c.requires.size

pub deal_all-stop-requires-clause-crew : goal.deal_all-stop-requires-clause-crew
deal_all-stop-requires-clause-crew g c = c.requires.crew

pub deal_all-stop-requires-clause-fits : goal.deal_all-stop-requires-clause-fits
deal_all-stop-requires-clause-fits g c = c.requires.fits

pub deal_all-stop-requires-clause-reading : goal.deal_all-stop-requires-clause-reading
deal_all-stop-requires-clause-reading g c = c.requires.reading

pub deal_all-stop-requires-clause-sink : goal.deal_all-stop-requires-clause-sink
deal_all-stop-requires-clause-sink g c = c.requires.sink

pub take_rest-stop-requires : goal.take_rest-stop-requires
take_rest-stop-requires g c = let d = c.deal_all-stop.ensures.deals in record { pumping = (g.K.Sink.told c.args.out.now, d.ds, d.ws, d.pumping, c.requires.sink) }

pub finish-requires : goal.finish-requires
finish-requires g c =
    let d = c.deal_all-stop.ensures.deals in
    let r = c.take_rest-stop.ensures.rest (g.K.Sink.told c.args.out.now) d.ds d.ws d.pumping in
    record { crew = (d.ds, r.0, r.1.crew, r.2) }

pub returns-clause-pumped : goal.returns-clause-pumped
returns-clause-pumped g c =
    let d = c.deal_all-stop.ensures.deals in
    let at = c.args.place.now in
    let first = g.K.Sink.told c.args.out.now in
    let r = c.take_rest-stop.ensures.rest first d.ds d.ws d.pumping in
    pumped_all (standing g.F.Feed.stands g.F.Feed.comes) g.V.Device.told c.args.size (stepping g.S.RowSeat.view g.F.PipeState.values c.args.reader.now.stepper) (stepping g.S.RowSeat.view g.F.PipeState.values c.deal_all-stop.new.reader.stepper) g.W.Work.result_of at.work.now at.lanes.now
    c.deal_all-stop.new.crew c.take_rest-stop.new.crew first (g.K.Sink.told c.deal_all-stop.new.out) (g.K.Sink.told c.take_rest-stop.new.out) c.deal_all-stop.result c.take_rest-stop.result d c.take_rest-stop.ensures.kept r (c.finish.ensures d.ds r.0 r.1.crew r.2)
