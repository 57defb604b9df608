-- The pump was begun, all was read for it, and it was finished.
use Rattle.pull_stepper.specs.Steppers.{stepping}
use Rattle.pull_turns.specs.Piping.{standing}
use Rattle.tee_pump.specs.Branches.{SharedSeen}
use Rattle.tee_run.proofs.Reading.{has_teed, read_ended, read_pumping, teeing_start}
use Rattle.tee_run.proofs.scoped.run_lent.Goals as goal

pub begin-pump-requires-clause-crew : goal.begin-pump-requires-clause-crew
begin-pump-requires-clause-crew g c κs within = let q = c.requires.begun in (q.1, q.4)

pub read_all-memory-requires-clause-teeing : goal.read_all-memory-requires-clause-teeing
read_all-memory-requires-clause-teeing g c =
    let q = c.requires.begun in
    let P = standing g.F.Feed.stands g.F.Feed.comes in
    let told = g.V.Device.told in
    let start = g.K.Sink.told c.args.lent.out.now in
    let first = stepping g.S.RowSeat.view g.F.PipeState.values c.args.lent.stepper in
    let s : SharedSeen = record { topic = c.args.site.now.topic.now; hub = c.args.site.now.hub.now; board = c.args.site.now.board.now } in
    (q.0, q.1, start, teeing_start P told g.C.Feed.stands g.C.Feed.comes s q.1 start q.0 first c.begin-pump.result q.2 q.3 (c.begin-pump.ensures q.1 start c.requires.sink q.4))

pub end_of-how-requires : goal.end_of-how-requires
end_of-how-requires g c =
    let q = c.requires.begun in
    let P = standing g.F.Feed.stands g.F.Feed.comes in
    let told = g.V.Device.told in
    let start = g.K.Sink.told c.args.lent.out.now in
    let first = stepping g.S.RowSeat.view g.F.PipeState.values c.args.lent.stepper in
    let s : SharedSeen = record { topic = c.args.site.now.topic.now; hub = c.args.site.now.hub.now; board = c.args.site.now.board.now } in
    let new = c.read_all-memory.new in
    let read = c.read_all-memory.ensures.read q.0 q.1 start (teeing_start P told g.C.Feed.stands g.C.Feed.comes s q.1 start q.0 first c.begin-pump.result q.2 q.3 (c.begin-pump.ensures q.1 start c.requires.sink q.4)) in
    record { ended = read_ended P told g.C.Feed.stands g.C.Feed.comes s q.1 start q.0 (stepping g.S.RowSeat.view g.F.PipeState.values new.stepper) (g.K.Sink.told new.out) new.pump c.read_all-memory.result read }

pub finish-end-requires : goal.finish-end-requires
finish-end-requires g c =
    let q = c.requires.begun in
    let P = standing g.F.Feed.stands g.F.Feed.comes in
    let told = g.V.Device.told in
    let start = g.K.Sink.told c.args.lent.out.now in
    let first = stepping g.S.RowSeat.view g.F.PipeState.values c.args.lent.stepper in
    let s : SharedSeen = record { topic = c.args.site.now.topic.now; hub = c.args.site.now.hub.now; board = c.args.site.now.board.now } in
    let new = c.read_all-memory.new in
    let read = c.read_all-memory.ensures.read q.0 q.1 start (teeing_start P told g.C.Feed.stands g.C.Feed.comes s q.1 start q.0 first c.begin-pump.result q.2 q.3 (c.begin-pump.ensures q.1 start c.requires.sink q.4)) in
    let p = read_pumping P told g.C.Feed.stands g.C.Feed.comes s q.1 start q.0 (stepping g.S.RowSeat.view g.F.PipeState.values new.stepper) (g.K.Sink.told new.out) new.pump c.read_all-memory.result read in
    record { pumping = (q.1, start, p.0, p.1) }

pub returns-clause-teed : goal.returns-clause-teed
returns-clause-teed g c = λ a ms stepped runs crew.
    let P = standing g.F.Feed.stands g.F.Feed.comes in
    let told = g.V.Device.told in
    let start = g.K.Sink.told c.args.lent.out.now in
    let first = stepping g.S.RowSeat.view g.F.PipeState.values c.args.lent.stepper in
    let s : SharedSeen = record { topic = c.args.site.now.topic.now; hub = c.args.site.now.hub.now; board = c.args.site.now.board.now } in
    let new = c.read_all-memory.new in
    let end = c.finish-end in
    let read = c.read_all-memory.ensures.read a ms start (teeing_start P told g.C.Feed.stands g.C.Feed.comes s ms start a first c.begin-pump.result stepped runs (c.begin-pump.ensures ms start c.requires.sink crew)) in
    has_teed P told g.C.Feed.stands g.C.Feed.comes s ms start a (stepping g.S.RowSeat.view g.F.PipeState.values new.stepper) (g.K.Sink.told new.out) new.pump c.read_all-memory.result read
    c.end_of-how.result c.end_of-how.ensures end.result (g.K.Sink.told end.new.out) (λ taken p. end.ensures.finished ms start taken p) end.ensures.stopped
