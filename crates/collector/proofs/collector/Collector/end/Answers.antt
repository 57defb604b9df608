-- The job of the stream is taken out, and dealt with.
use Rattle.std.proofs.Common.{arith, sym, subst}
use Rattle.stream_jobs.specs.Messages.{end_message}
use Rattle.pull_turns.specs.Piping.{standing}
use Rattle.collector.specs.Collecting.{IsCollecting, between, having_job, having_received}
use Rattle.collector.specs.Members.{members}
use Rattle.collector.specs.Receiving.{HasGot}
use Rattle.collector.proofs.Turning.{are_jobs, job_out, none_came}
use Rattle.collector.proofs.collector.Collector.end.Goals as goal

pub take_job-requires-clause-jobs : goal.take_job-requires-clause-jobs
take_job-requires-clause-jobs g c = are_jobs c.requires.collecting.4.2

pub take_job-requires-clause-room : goal.take_job-requires-clause-room
take_job-requires-clause-room g c =
    let i = c.requires.collecting.4.2 in
    let few = i.room.few in
    let most = i.room.jobs_room in
    omega (arith, few, most)

pub end_job-requires-clause-number : goal.end_job-requires-clause-number
end_job-requires-clause-number g c = c.in-Some.ensures.some.number

pub end_job-requires-clause-collecting : goal.end_job-requires-clause-collecting
end_job-requires-clause-collecting g c =
    let q = c.requires.collecting in
    let u = q.4 in
    let e = c.in-Some.ensures in (
      q.0,
      q.1,
      q.2,
      subst (λ z. HasGot q.2 (end_message c.args.stream c.args.how) z.receiver) (sym e.same) q.3,
      (
        u.0,
        u.1,
        subst (λ z. IsCollecting (members g.S.RowSeat.view g.V.Device.told g.S.RowSeat.fits g.F.PipeState.values (standing g.F.Feed.stands g.F.Feed.comes)) c.args.plan.now u.0 u.1 (having_job c.in-Some.job (having_received q.2 (between 1 q.0 q.1 c.args.desk.now z)))) (sym e.same)
            (job_out c.args.stream c.take_job.new.self.jobs c.in-Some.job e.some e.room u.2),
      ),
    )

pub returns : goal.returns
returns g c = record {
  collecting = λ depot sink had h d0 s0 i.
      let e = c.in-Some.ensures in
      c.end_job.ensures.collecting depot sink had (subst (λ z. HasGot had (end_message c.args.stream c.args.how) z.receiver) (sym e.same) h) d0 s0
      (subst (λ z. IsCollecting (members g.S.RowSeat.view g.V.Device.told g.S.RowSeat.fits g.F.PipeState.values (standing g.F.Feed.stands g.F.Feed.comes)) c.args.plan.now d0 s0 (having_job c.in-Some.job (having_received had (between 1 depot sink c.args.desk.now z)))) (sym e.same)
      (job_out c.args.stream c.take_job.new.self.jobs c.in-Some.job e.some e.room i));
}

pub unreachable-requires : goal.unreachable-requires
unreachable-requires g c =
    let q = c.requires.collecting in
    none_came (end_message c.args.stream c.args.how) c.args.self.now.receiver q.3 q.4.2 c.in-None.ensures.none
