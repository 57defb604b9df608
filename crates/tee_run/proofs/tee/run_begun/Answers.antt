-- All was read for the branches, and the reader was taken apart.
use Rattle.std.proofs.Common.{refl, arith}
use Rattle.pull_turns.specs.Piping.{standing}
use Rattle.pull_stepper.specs.Steppers.{stepping}
use Rattle.res_ledger.specs.declared.event.StreamNo.TheVariants.{Outer}
use Rattle.tee_run.specs.Chains.{meanings_of}
use Rattle.tee_run.proofs.Begun.{ended, many, past, starts, tees}
use Rattle.tee_run.proofs.tee.run_begun.Goals as goal

pub run_branches-stepper-requires-clause-begun : goal.run_branches-stepper-requires-clause-begun
run_branches-stepper-requires-clause-begun g c κs within =
    let q = c.requires.begun in
    let a = stepping g.S.RowSeat.view g.F.PipeState.values c.args.stepper in
    (a, meanings_of c.args.branches.now, starts g.V.Device.told (standing g.F.Feed.stands g.F.Feed.comes) q.0 q.1 q.2 q.3 a q.4 c.requires.can, c.requires.can.how, c.requires.crew)

pub end-ledger-requires-clause-over : goal.end-ledger-requires-clause-over
end-ledger-requires-clause-over g c =
    let q = c.requires.begun in
    let P = standing g.F.Feed.stands g.F.Feed.comes in
    let told = g.V.Device.told in
    let a = stepping g.S.RowSeat.view g.F.PipeState.values c.args.stepper in
    let teed = c.run_branches-stepper.ensures.teed a (meanings_of c.args.branches.now) (starts told P q.0 q.1 q.2 q.3 a q.4 c.requires.can) c.requires.can.how c.requires.crew in
    (ended told P q.0 q.1 q.2 q.3 a q.4 c.requires.can c.args.branches.now _ _ _ _ _ teed).over

pub end-ledger-requires-clause-begun : goal.end-ledger-requires-clause-begun
end-ledger-requires-clause-begun g c =
    let q = c.requires.begun in
    let P = standing g.F.Feed.stands g.F.Feed.comes in
    let told = g.V.Device.told in
    let a = stepping g.S.RowSeat.view g.F.PipeState.values c.args.stepper in
    let teed = c.run_branches-stepper.ensures.teed a (meanings_of c.args.branches.now) (starts told P q.0 q.1 q.2 q.3 a q.4 c.requires.can) c.requires.can.how c.requires.crew in
    (Outer, q.0, q.1, q.2, a, q.4, past told P q.0 q.1 q.2 q.3 a q.4 c.requires.can c.args.branches.now _ _ _ _ _ teed)

pub ends_of-requires-clause-few : goal.ends_of-requires-clause-few
ends_of-requires-clause-few g c =
    let q = c.requires.begun in
    let P = standing g.F.Feed.stands g.F.Feed.comes in
    let told = g.V.Device.told in
    let a = stepping g.S.RowSeat.view g.F.PipeState.values c.args.stepper in
    let teed = c.run_branches-stepper.ensures.teed a (meanings_of c.args.branches.now) (starts told P q.0 q.1 q.2 q.3 a q.4 c.requires.can) c.requires.can.how c.requires.crew in
    let count = many told P q.0 q.1 q.2 q.3 a q.4 c.requires.can c.args.branches.now _ _ _ _ _ teed in
    omega (arith, count, c.requires.few)

pub ends_of-requires-clause-room : goal.ends_of-requires-clause-room
ends_of-requires-clause-room g c =
    let q = c.requires.begun in
    let P = standing g.F.Feed.stands g.F.Feed.comes in
    let told = g.V.Device.told in
    let a = stepping g.S.RowSeat.view g.F.PipeState.values c.args.stepper in
    let teed = c.run_branches-stepper.ensures.teed a (meanings_of c.args.branches.now) (starts told P q.0 q.1 q.2 q.3 a q.4 c.requires.can) c.requires.can.how c.requires.crew in
    let count = many told P q.0 q.1 q.2 q.3 a q.4 c.requires.can c.args.branches.now _ _ _ _ _ teed in
    omega (arith, count, c.requires.room)

pub returns : goal.returns
returns g c = λ n devices chunk node begun.
    let P = standing g.F.Feed.stands g.F.Feed.comes in
    let told = g.V.Device.told in
    let view = g.S.RowSeat.view in
    let values = g.F.PipeState.values in
    let a = stepping view values c.args.stepper in
    let b = stepping view values c.run_branches-stepper.result.stepper in
    let t = c.run_branches-stepper.result in
    let r = c.end-ledger.result in
    let can = c.requires.can in
    let teed = c.run_branches-stepper.ensures.teed a (meanings_of c.args.branches.now) (starts told P n devices chunk node a begun can) can.how c.requires.crew in
    let over = ended told P n devices chunk node a begun can c.args.branches.now b _ _ t.how t.end teed in
    let lone = c.end-ledger.ensures.ran Outer n devices chunk a teed.given teed.end begun teed.stepped.since teed.ended over in
    tees told P n devices chunk node a begun can c.args.branches.now b _ _ t.how t.end teed r
    (record { ends = c.ends_of.result; ledger = r.ledger; sink_failed = t.end.broken; memory = c.has_wanted-memory.result }) c.end-ledger.ensures.how lone refl c.ends_of.ensures refl c.has_wanted-memory.ensures
