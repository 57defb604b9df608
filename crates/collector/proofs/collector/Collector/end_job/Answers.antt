-- What is left of the stream is taken in.
use Rattle.std.proofs.Common.{◌∙◌, ap, arith, length, map, sym, subst}
use Rattle.join_report.specs.Calls.{EndsStream}
use Rattle.join_report.specs.Reports.{HasStream}
use Rattle.join_report.specs.Stopping.{IsSeated}
use Rattle.join_tree.specs.Progress.{joining}
use Rattle.pipeline_desc.specs.Meant.{stream_limit}
use Rattle.pull_turns.specs.Piping.{standing}
use Rattle.scope_tree.specs.Calls.{Seen}
use Rattle.scope_tree.specs.Trees.{seen}
use Rattle.collector.specs.Collecting.{IsCollecting, between}
use Rattle.collector.specs.Members.{members}
use Rattle.collector.specs.Receiving.{StopsThose}
use Rattle.collector.specs.Streams.{guest_of}
use Rattle.collector.proofs.EndDealt.{TakesIn, ended_collecting, guest_out, has_stream, hub_is, job_fits, job_place, left_room, os, out_first, some_job, tree_fits}
use Rattle.collector.proofs.collector.Collector.end_job.Goals as goal

pub finish-left-requires-clause-job : goal.finish-left-requires-clause-job
finish-left-requires-clause-job g c = let q = c.requires.collecting in some_job c.args.job q.4.2 c.args.stream c.args.how c.args.self.now.receiver q.3 c.requires.number

pub finish-left-requires-clause-fits : goal.finish-left-requires-clause-fits
finish-left-requires-clause-fits g c = let q = c.requires.collecting in job_fits c.args.job q.4.2 c.args.stream c.args.how c.args.self.now.receiver q.3 c.requires.number

pub finish-left-requires-clause-at : goal.finish-left-requires-clause-at
finish-left-requires-clause-at g c = let q = c.requires.collecting in job_place c.args.job q.4.2 c.args.stream c.args.how c.args.self.now.receiver q.3 c.requires.number

pub take_back-requires-clause-fits : goal.take_back-requires-clause-fits
take_back-requires-clause-fits g c =
    let q = c.requires.collecting in
    (tree_fits c.args.job q.4.2 c.args.stream c.args.how c.args.self.now.receiver q.3 c.requires.number c.finish-left.new.desk c.finish-left.ensures.others, c.finish-left.ensures.fits)

pub take_back-requires-clause-main : goal.take_back-requires-clause-main
take_back-requires-clause-main g c =
    let q = c.requires.collecting in
    let i = q.4.2 in
    let j = some_job c.args.job i c.args.stream c.args.how c.args.self.now.receiver q.3 c.requires.number in
    (c.args.plan.now.max_open, stream_limit c.args.plan.now, i.progress, j.0, i.tree.main, guest_out c.args.job i c.args.stream c.args.how c.args.self.now.receiver q.3 c.requires.number, c.finish-left.ensures.ends j.0 j.1)

pub take_back-requires-clause-seated : goal.take_back-requires-clause-seated
take_back-requires-clause-seated g c = c.requires.collecting.4.2.telling.seated

pub take_back-requires-clause-board : goal.take_back-requires-clause-board
take_back-requires-clause-board g c =
    let q = c.requires.collecting in
    let at = job_place c.args.job q.4.2 c.args.stream c.args.how c.args.self.now.receiver q.3 c.requires.number in
    c.finish-left.ensures.seats.1 ∙ at.board_is

pub take_back-requires-clause-hub : goal.take_back-requires-clause-hub
take_back-requires-clause-hub g c =
    let q = c.requires.collecting in
    let at = job_place c.args.job q.4.2 c.args.stream c.args.how c.args.self.now.receiver q.3 c.requires.number in
    (hub_is c.args.job q.4.2 c.args.stream c.args.how c.args.self.now.receiver q.3 c.requires.number, c.finish-left.ensures.seats.0 ∙ at.hub_is)

pub take_back-requires-clause-room : goal.take_back-requires-clause-room
take_back-requires-clause-room g c = let q = c.requires.collecting in left_room c.args.job q.4.2 c.args.stream c.args.how c.args.self.now.receiver q.3 c.requires.number

pub end-requires : goal.end-requires
end-requires g c =
    let q = c.requires.collecting in
    record { stream = subst (λ x. HasStream x c.args.stream) (sym (ap (λ z. z.report) c.take_back.ensures.same)) (has_stream c.args.job q.4.2 c.args.stream c.args.how c.args.self.now.receiver q.3 c.requires.number) }

pub stop_those_until-requires-clause-at : goal.stop_those_until-requires-clause-at
stop_those_until-requires-clause-at g c = let small = c.mark-at.ensures.small in omega (arith, small)

pub stop_those_until-requires-clause-contexts : goal.stop_those_until-requires-clause-contexts
stop_those_until-requires-clause-contexts g c =
    let same = ap (λ z. z.stops.board.contexts) c.take_back.ensures.same in
    let n = c.requires.collecting.4.2.telling.contexts in
    omega (arith, same, n)

pub returns : goal.returns
returns g c = record {
  collecting = λ depot sink had h d0 s0 i.
      let p = c.args.plan.now in
      let k = c.args.stream in
      let view = g.S.RowSeat.view in
      let told = g.V.Device.told in
      let j = some_job c.args.job i k c.args.how c.args.self.now.receiver h c.requires.number in
      let ends = c.finish-left.ensures.ends j.0 j.1 in
      let back = c.take_back.ensures in
      let guest = guest_out c.args.job i k c.args.how c.args.self.now.receiver h c.requires.number in
      let out = out_first c.args.job i k c.args.how c.args.self.now.receiver h c.requires.number in
      let open_ones = map guest_of (os c.args.job i k c.args.how c.args.self.now.receiver h c.requires.number) in
      let main = back.main p.max_open (stream_limit p) i.progress j.0 ends i.tree.main guest in
      let taken : TakesIn told p (joining i.progress ends.left.leaves.last) i.progress.splits open_ones (seen view c.args.self.now.tree) (view c.finish-left.result.seat) c.mark-at.result.0 (seen view c.take_back.new.self.tree) = record {
        main = main;
        out = back.out i.progress.splits j.0 open_ones ends out;
        is = back.seen;
        owes = back.owed;
        gives = back.gives;
        scopes = back.scopes;
        room = back.room;
        fresh = c.mark-at.ensures.front;
      } in
      subst (λ z. IsCollecting (members view told g.S.RowSeat.fits g.F.PipeState.values (standing g.F.Feed.stands g.F.Feed.comes)) p d0 s0 (between 1 depot sink c.mark-at.new.desk (record z { tree = c.mark-at.new.self; report = c.end.new.self; stops = c.stop_those_until.new.stops }))) (sym back.same)
      (ended_collecting c.args.job i k c.args.how c.args.self.now.receiver h c.requires.number c.finish-left.new.desk c.finish-left.ensures.others c.finish-left.result ends c.mark-at.new.desk c.mark-at.new.self
      (λ o f b y. c.mark-at.ensures.others o (λ z. f (z ∙ main.by)) (back.others o f b y)) c.mark-at.result.0
      (subst (λ (x : Seen _). TakesIn told p (joining i.progress ends.left.leaves.last) i.progress.splits open_ones (seen view c.args.self.now.tree) (view c.finish-left.result.seat) c.mark-at.result.0 x) (sym c.mark-at.ensures.seen) taken)
      c.mark-at.ensures.fits back.whole.0 back.whole.1 c.take_back.new.self.left back.kept back.capacity c.end.new.self (subst (λ x. EndsStream k c.args.how x c.end.new.self) (ap (λ z. z.report) back.same) c.end.ensures)
      (subst (λ x. IsSeated x) (ap (λ z. z.stops) back.same) back.seated) c.stop_those_until.new.stops (subst (λ x. StopsThose p k (length p.streams) c.mark-at.result.0 x c.stop_those_until.new.stops) (ap (λ z. z.stops) back.same) c.stop_those_until.ensures.stops) c.stop_those_until.ensures.seated);
}
