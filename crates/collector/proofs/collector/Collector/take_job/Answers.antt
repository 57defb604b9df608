-- The jobs go behind the others until that of the stream is the first.
use Rattle.std.proofs.Common.{◌+◌, ◌∙◌, ap, arith, refl, sym, subst}
use Rattle.collector.specs.declared.collector.Collector.{Collector}
use Rattle.collector.proofs.Passing.{Passed, passed_all, passed_each, passed_found, passed_length, passed_more, passed_none}
use Rattle.collector.proofs.collector.Collector.take_job.Goals as goal

pub loop-passed-init : goal.loop-passed-init
loop-passed-init g c = record { passed = passed_none (λ j. j.sender.stream) c.args.stream c.args.self.now.jobs.items; room = refl; same = refl }

pub next_job-requires-clause-some : goal.next_job-requires-clause-some
next_job-requires-clause-some g c =
    let n = passed_length (λ j. j.sender.stream) c.args.stream c.loop-passed._passed c.args.self.now.jobs.items c.loop-passed.self.jobs.items c.loop-passed.invariant.passed in
    let t = c.loop-passed-test.true in
    let l = c.len-passed-end.ensures in
    let size = c.args.self.now.jobs.ok.0 in
    omega (arith, n, t, l, size)

pub next_job-requires-clause-jobs : goal.next_job-requires-clause-jobs
next_job-requires-clause-jobs g c = passed_each (λ j. j.sender.stream) c.args.stream c.loop-passed._passed c.args.self.now.jobs.items c.loop-passed.self.jobs.items _ c.loop-passed.invariant.passed c.requires.jobs

pub next_job-requires-clause-room : goal.next_job-requires-clause-room
next_job-requires-clause-room g c =
    let n = passed_length (λ j. j.sender.stream) c.args.stream c.loop-passed._passed c.args.self.now.jobs.items c.loop-passed.self.jobs.items c.loop-passed.invariant.passed in
    let r = c.loop-passed.invariant.room in
    let q = c.requires.room in
    omega (arith, n, r, q)

pub loop-passed-preserved : goal.loop-passed-preserved
loop-passed-preserved g c =
    let i = c.loop-passed.invariant in
    let b = c.in-None.ensures.none in
    let t = c.loop-passed-test.true in
    let l = c.len-passed-end.ensures in
    let size = c.args.self.now.jobs.ok.0 in
    let n = c.loop-passed._passed in
    let first = c.args.self.now.jobs.items in
    record {
      passed = subst (λ xs. Passed (λ j. j.sender.stream) c.args.stream (n + 1) first xs) (sym b.new_is) (passed_more (λ j. j.sender.stream) c.args.stream n first b.job b.rest (omega (arith, t, l, size)) b.other (subst (λ xs. Passed (λ j. j.sender.stream) c.args.stream n first xs) b.old_is i.passed));
      room = c.in-None.ensures.room ∙ i.room;
      same = c.in-None.ensures.same ∙ ap (λ (z : Collector _ _ _ _ _). record z { jobs = c.next_job.new.self.jobs }) i.same;
    }

pub returns-in-Some-clause-some : goal.returns-in-Some-clause-some
returns-in-Some-clause-some g c =
    let e = c.in-Some.ensures.some in
    let n = c.loop-passed._passed in
    let first = c.args.self.now.jobs.items in
    let r = passed_found (λ j. j.sender.stream) c.args.stream n first c.in-Some.job c.next_job.new.self.jobs.items e.0 (subst (λ xs. Passed (λ j. j.sender.stream) c.args.stream n first xs) e.1 c.loop-passed.invariant.passed) in
    record { number = e.0; before = r.0; behind = r.1; old_is = r.2; new_is = r.3 }

pub returns-in-Some-clause-room : goal.returns-in-Some-clause-room
returns-in-Some-clause-room g c = c.in-Some.ensures.room ∙ c.loop-passed.invariant.room

pub returns-in-Some-clause-same : goal.returns-in-Some-clause-same
returns-in-Some-clause-same g c = c.in-Some.ensures.same ∙ ap (λ (z : Collector _ _ _ _ _). record z { jobs = c.next_job.new.self.jobs }) c.loop-passed.invariant.same

pub returns-clause-none : goal.returns-clause-none
returns-clause-none g c =
    let t = c.loop-passed-test.false in
    let e = c.loop-passed.auto._passed-end in
    let l = c.len-passed-end.ensures in
    let size = c.args.self.now.jobs.ok.0 in
    passed_all (λ j. j.sender.stream) c.args.stream c.loop-passed._passed c.args.self.now.jobs.items c.loop-passed.self.jobs.items (omega (arith, t, e, l, size)) c.loop-passed.invariant.passed

pub returns-clause-room : goal.returns-clause-room
returns-clause-room g c = c.loop-passed.invariant.room

pub returns-clause-same : goal.returns-clause-same
returns-clause-same g c = c.loop-passed.invariant.same
