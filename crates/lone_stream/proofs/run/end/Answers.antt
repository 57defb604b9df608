-- The node was run to its end over the tree that is taken apart.
use Rattle.std.proofs.Common.{◌≡◌, Some, sym, ap, ◌∙◌, subst}
use Rattle.run_rules.specs.Outputs.{IsReported}
use Rattle.pull_turns.specs.Piping.{standing}
use Rattle.pull_stepper.specs.Sites.{told_at}
use Rattle.pull_stepper.specs.Steppers.{stepping}
use Rattle.scope_tree.specs.Trees.{seen}
use Rattle.scope_tree.proofs.Owed.{nothing_owed}
use Rattle.lone_stream.specs.Steps.{IsPast}
use Rattle.lone_stream.proofs.Begun.{run_of, same_how}
use Rattle.lone_stream.proofs.NodeRuns.{begun_ran}
use Rattle.lone_stream.proofs.run.end.Goals as goal

pub take_apart-requires-clause-fits : goal.take_apart-requires-clause-fits
take_apart-requires-clause-fits g c = c.end.ensures.fits c.args.desk.now c.requires.works

pub take_apart-requires-clause-leaves : goal.take_apart-requires-clause-leaves
take_apart-requires-clause-leaves g c =
    let view = g.S.RowSeat.view in
    let told = g.V.Device.told in
    let b = stepping view g.F.PipeState.values c.args.stepper in
    let q = c.requires.begun in
    let tree = c.end.result.tree in
    let sound = (c.end.ensures.fits c.args.desk.now c.requires.works).sound in
    let r = begun_ran (standing g.F.Feed.stands g.F.Feed.comes) told q.0 q.1 q.2 q.3 q.4 b (seen view tree) c.end.result.how c.end.result.unopened q.5 q.6 c.end.ensures.ends sound.used (nothing_owed (view tree.seat) tree.branches.items tree.acquisitions.items sound.kept c.end.ensures.ends.root) in
    (q.0, q.1, q.2, told_at told b.site, r.0, r.1, r.2)

pub returns-clause-home : goal.returns-clause-home
returns-clause-home g c = λ who n devices chunk a begun past.
    let view = g.S.RowSeat.view in
    let told = g.V.Device.told in
    let b = stepping view g.F.PipeState.values c.args.stepper in
    let tree = c.end.result.tree in
    let sound = (c.end.ensures.fits c.args.desk.now c.requires.works).sound in
    let r = begun_ran (standing g.F.Feed.stands g.F.Feed.comes) told who n devices chunk a b (seen view tree) c.end.result.how c.end.result.unopened begun past c.end.ensures.ends sound.used (nothing_owed (view tree.seat) tree.branches.items tree.acquisitions.items sound.kept c.end.ensures.ends.root) in
    c.take_apart.ensures.comes who n devices (told_at told b.site) r.0 r.1 r.2

pub returns-clause-how : goal.returns-clause-how
returns-clause-how g c = c.end.ensures.ends.how ∙ ap (λ h. Some h) (sym c.take_apart.ensures.how)

pub returns-clause-ran : goal.returns-clause-ran
returns-clause-ran g c = λ who n devices chunk a given h begun since how_is ended.
    let view = g.S.RowSeat.view in
    let told = g.V.Device.told in
    let P = standing g.F.Feed.stands g.F.Feed.comes in
    let b = stepping view g.F.PipeState.values c.args.stepper in
    let tree = c.end.result.tree in
    let sound = (c.end.ensures.fits c.args.desk.now c.requires.works).sound in
    let past : IsPast told a b = record { since = since; goes = ended.goes; spends = ended.spends } in
    let r = begun_ran P told who n devices chunk a b (seen view tree) c.end.result.how c.end.result.unopened begun past c.end.ensures.ends sound.used (nothing_owed (view tree.seat) tree.branches.items tree.acquisitions.items sound.kept c.end.ensures.ends.root) in
    let same : h ≡ c.take_apart.result.how = same_how h c.take_apart.result.how (sym how_is ∙ (c.end.ensures.ends.how ∙ ap (λ k. Some k) (sym c.take_apart.ensures.how))) in
    record {
      home = told_at told b.site;
      end = ended.end;
      run = run_of P told who n devices chunk a begun (told_at told b.site) given ended.end ended.run;
      reported = subst (λ k. IsReported ended.end k) same ended.reported;
      comes = c.take_apart.ensures.comes who n devices (told_at told b.site) r.0 r.1 r.2;
    }
