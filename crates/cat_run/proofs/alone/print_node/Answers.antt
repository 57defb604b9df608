-- The stream was printed to its end, or couldn't be begun.
use Rattle.std.proofs.Common.{refl}
use Rattle.pull_turns.specs.Piping.{standing}
use Rattle.pull_stepper.specs.Sites.{told_at}
use Rattle.pull_stepper.specs.Steppers.{stepping}
use Rattle.res_ledger.specs.declared.event.StreamNo.TheVariants.{Inner}
use Rattle.lone_stream.specs.Steps.{IsPast}
use Rattle.cat_run.proofs.Begun.{begun_prints, unbegun_prints}
use Rattle.cat_run.proofs.alone.print_node.Goals as goal

pub begin-requires-clause-room : goal.begin-requires-clause-room
begin-requires-clause-room g c = (Inner 0, c.requires.room)

pub end-requires-clause-begun : goal.end-requires-clause-begun
end-requires-clause-begun g c =
    let p = c.print_all-stopped.ensures in
    (Inner 0, c.args.node, c.args.devices, c.args.chunk, stepping g.S.RowSeat.view g.F.PipeState.values c.in-Ok.stepper, c.in-Ok.ensures.begun (Inner 0) c.requires.room, record { since = p.since; goes = p.goes; spends = p.spends })

pub returns-in-Ok : goal.returns-in-Ok
returns-in-Ok g c =
    let told = g.V.Device.told in
    let values = g.F.PipeState.values in
    let view = g.S.RowSeat.view in
    let a = stepping view values c.in-Ok.stepper in
    let b = stepping view values c.print_all-stopped.new.stepper in
    let p = c.print_all-stopped.ensures in
    let begun = c.in-Ok.ensures.begun (Inner 0) c.requires.room in
    let past : IsPast told a b = record { since = p.since; goes = p.goes; spends = p.spends } in
    record {
      home = told_at told b.site;
      comes = c.end.ensures.home (Inner 0) c.args.node c.args.devices c.args.chunk a begun past;
      prints = begun_prints told c.args.node c.args.devices c.args.chunk (g.K.Sink.told c.args.out.now) (g.K.Sink.told c.print_all-stopped.new.out) (standing g.F.Feed.stands g.F.Feed.comes) a b c.end.result.how c.print_all-stopped.result begun p.prints c.end.ensures.how;
    }

pub returns-in-Err : goal.returns-in-Err
returns-in-Err g c =
    let u = c.in-Err.ensures.unbegun (Inner 0) c.requires.room in
    unbegun_prints g.V.Device.told c.args.node c.args.devices c.args.chunk (g.K.Sink.told c.args.out.now) (g.K.Sink.told c.args.out.now) c.in-Err.ran u.0 u.1 refl
