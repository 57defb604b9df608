-- The seat that is split off has room for the stream, whose job is made over it.
use Rattle.std.proofs.Common.{◌≡◌, ◌+◌, ◌∙◌, [], Some, ◌++◌, ◌∷◌, ap, arith, inr, length, map, subst, sym}
use Rattle.std.specs.VecDeque.{deque_capacity}
use Rattle.chunk_core.specs.Lists.{IsAmong}
use Rattle.chunk_core.specs.declared.code.Span.{Span}
use Rattle.dealt_streams.specs.Parts.{MakesUnmade}
use Rattle.dealt_streams.specs.Works.{plan_bounds}
use Rattle.join_report.proofs.Learning.{unknown_is}
use Rattle.join_tree.specs.Guests.{AreOut}
use Rattle.join_tree.specs.Mains.{IsMain}
use Rattle.join_tree.specs.Progress.{splitting}
use Rattle.join_tree.specs.Steps.{guest_of as tree_guest}
use Rattle.pipeline_desc.specs.Meant.{stream_limit}
use Rattle.pipeline_desc.specs.Nodes.{events_of}
use Rattle.pipeline_desc.specs.Places.{rows_of}
use Rattle.pull_stepper.specs.Held.{FinishesDevice}
use Rattle.pipeline_desc.proofs.NodeLaws.{limit_le}
use Rattle.pull_turns.specs.Piping.{standing}
use Rattle.res_ledger.specs.declared.event.StreamNo.TheVariants.{Inner, Outer}
use Rattle.row_seat.specs.Views.{IsWithin, split_off}
use Rattle.scope_tree.specs.Trees.{seen}
use Rattle.scope_tree.specs.Visible.{lessee, rows_covered}
use Rattle.scope_tree.specs.declared.tree.Tree.{Tree}
use Rattle.stream_jobs.specs.declared.job.Job.{Job}
use Rattle.stream_workers.proofs.Returning.{job_back, job_on}
use Rattle.tree_families.specs.Families.{split_of}
use Rattle.tree_laws.specs.Visits.{IsNewGuest}
use Rattle.collector.specs.Collecting.{IsCollecting, between}
use Rattle.collector.specs.Members.{members}
use Rattle.collector.specs.Starting.{with_seats_out}
use Rattle.collector.specs.Streams.{guest_of}
use Rattle.collector.specs.Trees.{waiting_of}
use Rattle.collector.specs.declared.collector.Collector.{Collector}
use Rattle.collector.proofs.Beginning.{has_room}
use Rattle.collector.proofs.Begun.{begin_step}
use Rattle.collector.proofs.Queued.{may_send}
use Rattle.collector.proofs.Steps.{below, counted, few_out, its_lease, split_at, still_step}
use Rattle.collector.proofs.Streams.{is_fresh}
use Rattle.collector.proofs.Telling.{outer_done}
use Rattle.collector.proofs.Turned.{house_step}
use Rattle.collector.proofs.Tree.{ready_so, split_free, split_room, split_rows}
use Rattle.collector.proofs.collector.Collector.begin.Goals as goal

pub rows-requires : goal.rows-requires
rows-requires g c =
    let r = c.requires.collecting in
    below (between 2 r.1 r.3 c.args.desk.now c.args.self.now) r.5.2

pub events-requires : goal.events-requires
events-requires g c =
    let r = c.requires.collecting in
    below (between 2 r.1 r.3 c.args.desk.now c.args.self.now) r.5.2

pub split_off-requires-clause-main : goal.split_off-requires-clause-main
split_off-requires-clause-main g c =
    let a = c.args.self.now in
    let r = c.requires.collecting in
    let k = r.5.2 in
    let T = rows_covered c.args.lease in
    let us = map waiting_of a.waiting.items in
    (c.args.plan.now.max_open, stream_limit c.args.plan.now, k.progress, T, us, k.tree.main, k.tree.waits_are ∙ ap (λ i. (i, T) ∷ us) (its_lease (between 2 r.1 r.3 c.args.desk.now a) k))

pub split_off-requires-clause-rows : goal.split_off-requires-clause-rows
split_off-requires-clause-rows g c r w =
    let p = c.args.plan.now in
    let k = c.requires.collecting.5.2 in
    split_rows g.V.Device.told p k.tree r (subst (λ (s : Span). IsWithin s.from s.to r) (c.rows.ensures ∙ ap (rows_of p) k.next) w)

pub split_off-requires-clause-splits : goal.split_off-requires-clause-splits
split_off-requires-clause-splits g c = split_room g.V.Device.told c.args.plan.now c.requires.collecting.5.2.tree

pub split_off-requires-clause-some : goal.split_off-requires-clause-some
split_off-requires-clause-some g c =
    let k = c.requires.collecting.5.2 in
    (split_free g.V.Device.told c.args.plan.now k.tree c.events.result (subst (λ i. events_of c.args.plan.now i ≡ Some c.events.result) k.next c.events.ensures)).0

pub split_off-requires-clause-free : goal.split_off-requires-clause-free
split_off-requires-clause-free g c =
    let k = c.requires.collecting.5.2 in
    (split_free g.V.Device.told c.args.plan.now k.tree c.events.result (subst (λ i. events_of c.args.plan.now i ≡ Some c.events.result) k.next c.events.ensures)).1

pub job_of-job-requires-clause-seated : goal.job_of-job-requires-clause-seated
job_of-job-requires-clause-seated g c κs within = c.requires.collecting.5.2.telling.seated

pub job_of-job-requires-clause-hub : goal.job_of-job-requires-clause-hub
job_of-job-requires-clause-hub g c κs within = c.requires.collecting.5.2.streams.hub_is

pub job_of-job-requires-clause-fresh : goal.job_of-job-requires-clause-fresh
job_of-job-requires-clause-fresh g c κs within =
    let M = members g.S.RowSeat.view g.V.Device.told g.S.RowSeat.fits g.F.PipeState.values (standing g.F.Feed.stands g.F.Feed.comes) in
    let a = c.args.self.now in
    let r = c.requires.collecting in
    let k = r.5.2 in
    let n = counted (between 2 r.1 r.3 c.args.desk.now a) k in
    subst (λ i. ¬ (IsAmong i a.receiver.made)) (sym k.next) (is_fresh M a.hub a.stops.board c.args.desk.now (seen g.S.RowSeat.view a.tree) a.jobs.items a.left.items a.receiver k.parts k.progress k.tale k.streams (sym k.next ∙ n))

pub job_of-job-requires-clause-context : goal.job_of-job-requires-clause-context
job_of-job-requires-clause-context g c =
    let r = c.requires.collecting in
    let k = r.5.2 in
    let b = below (between 2 r.1 r.3 c.args.desk.now c.args.self.now) k in
    let n = k.telling.contexts in
    omega (arith, b, n)

pub job_of-job-requires-clause-number : goal.job_of-job-requires-clause-number
job_of-job-requires-clause-number g c =
    let r = c.requires.collecting in
    let k = r.5.2 in
    let b = below (between 2 r.1 r.3 c.args.desk.now c.args.self.now) k in
    let few = limit_le c.args.plan.now k.sound in
    omega (arith, few, b)

pub job_of-job-requires-clause-lease : goal.job_of-job-requires-clause-lease
job_of-job-requires-clause-lease g c κs within =
    let r = c.requires.collecting in
    its_lease (between 2 r.1 r.3 c.args.desk.now c.args.self.now) r.5.2

pub job_of-job-requires-clause-guest : goal.job_of-job-requires-clause-guest
job_of-job-requires-clause-guest g c κs within =
    let a = c.args.self.now in
    let p = c.args.plan.now in
    let r = c.requires.collecting in
    let k = r.5.2 in
    let T = rows_covered c.args.lease in
    let us = map waiting_of a.waiting.items in
    let n = its_lease (between 2 r.1 r.3 c.args.desk.now a) k in
    let guest = c.in-Ok.ensures.guest p.max_open (stream_limit p) k.progress T us k.tree.main (k.tree.waits_are ∙ ap (λ i. (i, T) ∷ us) n) in
    subst (λ i. IsNewGuest (g.S.RowSeat.view c.in-Ok.seat) a.next i T) (sym guest.floor) guest

pub job_of-job-requires-clause-supplied : goal.job_of-job-requires-clause-supplied
job_of-job-requires-clause-supplied g c κs within = c.requires.collecting.4.supplied

pub job_of-job-requires-clause-room : goal.job_of-job-requires-clause-room
job_of-job-requires-clause-room g c κs within =
    let view = g.S.RowSeat.view in
    let a = c.args.self.now in
    let r = c.requires.collecting in
    let k = r.5.2 in
    has_room g.V.Device.told c.args.plan.now a.next c.args.made.parts r.4 (view a.tree.seat) (view c.in-Ok.seat) c.events.result (rows_covered c.args.lease) k.tree.rows.0 c.events.ensures (c.in-Ok.ensures.seat.0 ∙ ap (λ (s : Span). split_off (view a.tree.seat) a.next s.from s.to c.events.result) c.rows.ensures)

pub begin-open-requires-clause-fits : goal.begin-open-requires-clause-fits
begin-open-requires-clause-fits g c κs within =
    let view = g.S.RowSeat.view in
    let told = g.V.Device.told in
    let fits = g.S.RowSeat.fits in
    let values = g.F.PipeState.values in
    let P = standing g.F.Feed.stands g.F.Feed.comes in
    let a = c.args.self.now in
    let k = c.requires.collecting.5.2 in
    let e = c.in-Ok.ensures in
    let m = c.job_of-job.ensures.makes in
    let j = c.job_of-job.result in
    let stays = (g.met.S.SharesDesk g.world.𝓛 g.world.𝓜 g.world.𝓡 ((λ s x. x), (λ x. x), (λ x. x), λ x. x)).stays in
    job_on view values told P fits j c.args.desk.now c.args.own.desk c.requires.own
    (job_back view values told P fits stays _ j m.job a.tree.seat Outer c.args.desk.now c.split_off.new.desk k.fits_desk.seat e.others
    (job_back view values told P fits stays _ j m.job c.split_off.new.tree.seat (Inner a.next) c.split_off.new.desk c.job_of-job.new.desk e.fits.seat c.job_of-job.ensures.others m.fits_desk))

pub begin-open-requires-clause-may : goal.begin-open-requires-clause-may
begin-open-requires-clause-may g c κs within sent m number full got queued few whole filled = may_send m full got queued filled

pub miss-requires-clause-collecting : goal.miss-requires-clause-collecting
miss-requires-clause-collecting g c κs within =
    let r = c.requires.collecting in
    let e = c.in-Err.ensures in
    (r.0, r.1, r.3, (r.5.0, r.5.1, still_step r.5.2 c.split_off.new.tree c.split_off.new.desk e.err e.fits e.others))

pub returns-in-Err : goal.returns-in-Err
returns-in-Err g c = record {
  collecting = λ path before now sink made d0 s0 k.
      let e = c.in-Err.ensures in
      c.miss.ensures.collecting path before now sink made.stream made.stream_is (subst (λ ds. MakesUnmade g.V.Device.told made.stream before now ds) (sym c.into_devices.ensures) (inr made.makes)) d0 s0
      (still_step k c.split_off.new.tree c.split_off.new.desk e.err e.fits e.others);
}

pub returns-in-Ok : goal.returns-in-Ok
returns-in-Ok g c = record {
  collecting = λ path before now sink made d0 s0 was.
      let housed = house_step was c.requires.few in
      let k = housed.0 in
      let view = g.S.RowSeat.view in
      let told = g.V.Device.told in
      let values = g.F.PipeState.values in
      let M = members view told g.S.RowSeat.fits values (standing g.F.Feed.stands g.F.Feed.comes) in
      let a = c.args.self.now in
      let p = c.args.plan.now in
      let m = between 2 before sink c.args.desk.now a in
      let T = rows_covered c.args.lease in
      let us = map waiting_of a.waiting.items in
      let e = c.in-Ok.ensures in
      let is = sym (its_lease m k) in
      let waits = k.tree.waits_are ∙ ap (λ i. (i, T) ∷ us) (sym is) in
      let guest = e.guest p.max_open (stream_limit p) k.progress T us k.tree.main waits in
      let tree : Tree _ _ _ = c.split_off.new.tree in
      let job = c.job_of-job.ensures in
      let j = c.job_of-job.result in
      let jobs = c.push_back_reserved.new.self in
      let ready = ready_so told p k.tree (length a.jobs.items) (few_out k) c.requires.few c.requires.ahead (λ h is. outer_done (plan_bounds p) k.tale k.telling.is_tale (unknown_is k.tale a.stops 0 k.telling.known c.requires.may.0) h (k.telling.outer_is ∙ is)) in
      let main = subst (λ i. IsMain (FinishesDevice told) p.max_open (stream_limit p) (seen view tree) (splitting k.progress (view a.tree.seat) i us)) is (e.main p.max_open (stream_limit p) k.progress T us k.tree.main waits ready) in
      let split = e.seen ∙ (ap (λ i. split_at (seen view a.tree) i c.rows.result.from c.rows.result.to c.events.result) is
      ∙ ap (λ (r : Span). split_at (seen view a.tree) (lessee c.args.lease) r.from r.to c.events.result) (c.rows.ensures ∙ ap (rows_of p) k.next)) in
      let out = subst (λ i. AreOut (seen view tree) (k.progress.splits ++ split_of (view a.tree.seat) i ∷ []) (map guest_of k.streams.origins ++ tree_guest (view a.tree.seat) i T ∷ [])) is (e.out p.max_open (stream_limit p) k.progress T us (map guest_of k.streams.origins) k.tree.main waits k.streams.out) in
      let few = k.tree.few in
      let same = job.same in
      let pushed = c.push_back_reserved.ensures.items ∙ (ap (λ (o : Job _ _ _ _ _ _). c.job_of-job.new.self.jobs.items ++ o ∷ []) c.begin-open.ensures ∙ ap (λ (x : Collector _ _ _ _ _). x.jobs.items ++ j ∷ []) same) in
      let begun = begin_step m k tree jobs c.split_off.new.desk c.job_of-job.new.desk c.requires.may c.requires.few housed.1 now c.args.made.parts made (values c.args.made.tables) c.requires.tables (view c.in-Ok.seat) c.chunk.result c.chunk.ensures.value j guest.floor job.makes
      c.events.result c.events.ensures main split e.owed e.gives e.scopes e.room out e.fits e.others job.others pushed (c.push_back_reserved.ensures.capacity ∙ ap (λ (x : Collector _ _ _ _ _). deque_capacity x.jobs) same) 1 (omega (arith, few)) (λ y i. c.requires.ahead y) in
      subst (λ (x : Collector _ _ _ _ _). IsCollecting M p d0 s0 (between 1 now sink c.job_of-job.new.desk (record x { jobs = jobs; next = x.next + 1 }))) (sym same)
      (subst (λ xs. IsCollecting M p d0 s0 (record (between 1 now sink c.job_of-job.new.desk (record (with_seats_out (record a { tree = tree })) { jobs = jobs; next = a.next + 1 })) { jobs = xs })) (sym pushed) begun);
}

pub push_back_reserved-requires : goal.push_back_reserved-requires
push_back_reserved-requires g c =
    let a = c.args.self.now in
    let k = c.requires.collecting.5.2 in
    let size = a.jobs.ok.0 in
    let few = c.requires.few in
    let room = k.room.jobs_room in
    let len = ap (λ (x : Collector _ _ _ _ _). x.jobs.len) c.job_of-job.ensures.same in
    let cap = ap (λ (x : Collector _ _ _ _ _). deque_capacity x.jobs) c.job_of-job.ensures.same in
    omega (arith, size, few, room, len, cap)
