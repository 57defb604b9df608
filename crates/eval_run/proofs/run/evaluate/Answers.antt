-- The reader reads the stream as it was begun, which is taken apart as its reading ended.
use Rattle.std.proofs.Common.{[], subst, sym}
use Rattle.eval_reader.specs.Reading.{IsGrouping, seen_reader}
use Rattle.pull_stepper.specs.Steppers.{stepping}
use Rattle.pull_turns.specs.Piping.{standing}
use Rattle.res_ledger.specs.declared.event.StreamNo.TheVariants.{Inner}
use Rattle.eval_run.specs.Pumping.{HasPumped}
use Rattle.eval_run.proofs.LinesFile.{ends_reading, evaluated_so, lines_kind, past_of}
use Rattle.eval_run.proofs.run.evaluate.Goals as goal

pub pump_lending-stepper-requires-clause-reading : goal.pump_lending-stepper-requires-clause-reading
pump_lending-stepper-requires-clause-reading g c κs within =
    let P = standing g.F.Feed.stands g.F.Feed.comes in
    let told = g.V.Device.told in
    let view = g.S.RowSeat.view in
    let values = g.F.PipeState.values in
    let b = c.requires.begun in
    subst (λ x. IsGrouping P told c.args.size (stepping view values x) (seen_reader view values c.new-reader.result) []) (sym c.new-reader.ensures.stepper)
    (c.new-reader.ensures.grouping c.requires.can (lines_kind P told (Inner 0) b.0 b.1 b.2 (stepping view values c.args.stepper) b.4 b.3) c.args.size)

pub end-requires-clause-over : goal.end-requires-clause-over
end-requires-clause-over g c =
    let P = standing g.F.Feed.stands g.F.Feed.comes in
    let told = g.V.Device.told in
    let view = g.S.RowSeat.view in
    let values = g.F.PipeState.values in
    let a = stepping view values c.new-reader.result.stepper in
    let b = stepping view values c.pump_lending-stepper.result.stepper in
    let p = c.pump_lending-stepper.ensures.pumped in
    (ends_reading P told c.args.size a b p.gs c.pump_lending-stepper.result.stop p.read).at.over

pub end-requires-clause-begun : goal.end-requires-clause-begun
end-requires-clause-begun g c =
    let P = standing g.F.Feed.stands g.F.Feed.comes in
    let told = g.V.Device.told in
    let view = g.S.RowSeat.view in
    let values = g.F.PipeState.values in
    let a = stepping view values c.args.stepper in
    let b = stepping view values c.pump_lending-stepper.result.stepper in
    let s = c.pump_lending-stepper.result.stop in
    let q = c.requires.begun in
    let p = subst (λ x. HasPumped P told (g.W.Work.result_of c.args.work.now) c.args.size (stepping view values x) b (g.K.Sink.told c.args.out.now) (g.K.Sink.told c.pump_lending-stepper.new.out) s) c.new-reader.ensures.stepper c.pump_lending-stepper.ensures.pumped in
    (Inner 0, q.0, q.1, q.2, a, q.3, past_of P told c.args.size a b p.gs s (ends_reading P told c.args.size a b p.gs s p.read))

pub returns : goal.returns
returns g c n devices chunk begun =
    let P = standing g.F.Feed.stands g.F.Feed.comes in
    let told = g.V.Device.told in
    let view = g.S.RowSeat.view in
    let values = g.F.PipeState.values in
    let f = g.W.Work.result_of c.args.work.now in
    let a = stepping view values c.args.stepper in
    let b = stepping view values c.pump_lending-stepper.result.stepper in
    let s = c.pump_lending-stepper.result.stop in
    let so = g.K.Sink.told c.args.out.now in
    let sn = g.K.Sink.told c.pump_lending-stepper.new.out in
    let p = subst (λ x. HasPumped P told f c.args.size (stepping view values x) b so sn s) c.new-reader.ensures.stepper c.pump_lending-stepper.ensures.pumped in
    evaluated_so P told c.args.size a b f so sn s n devices c.end.result p c.end.ensures.how (λ given h since ended at. c.end.ensures.ran (Inner 0) n devices chunk a given h begun since ended at)
