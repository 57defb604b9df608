-- The first job has a turn, and goes behind the others.
use Rattle.std.proofs.Common.{[], ap, append-nil, arith, length, sym, ◌∙◌}
use Rattle.collector.specs.Collecting.{between}
use Rattle.collector.proofs.Turning.{first_of, turn_taken, turned_at, with_jobs}
use Rattle.collector.proofs.collector.Collector.give_turn.Goals as goal

pub turn-job-requires-clause-job : goal.turn-job-requires-clause-job
turn-job-requires-clause-job g c =
    let q = c.requires.collecting in
    let h = first_of (between 1 q.1 q.2 c.args.desk.now c.args.self.now) c.in-Some.job c.pop_front.new.self.items (with_jobs c.in-Some.ensures.items q.3.2) in
    (h.0, h.3.job)

pub turn-job-requires-clause-fits : goal.turn-job-requires-clause-fits
turn-job-requires-clause-fits g c =
    let q = c.requires.collecting in
    let h = first_of (between 1 q.1 q.2 c.args.desk.now c.args.self.now) c.in-Some.job c.pop_front.new.self.items (with_jobs c.in-Some.ensures.items q.3.2) in
    h.3.fits_desk

pub turn-job-requires-clause-at : goal.turn-job-requires-clause-at
turn-job-requires-clause-at g c =
    let q = c.requires.collecting in
    let h = first_of (between 1 q.1 q.2 c.args.desk.now c.args.self.now) c.in-Some.job c.pop_front.new.self.items (with_jobs c.in-Some.ensures.items q.3.2) in
    h.3.place

pub push_back_reserved-requires : goal.push_back_reserved-requires
push_back_reserved-requires g c =
    let q = c.requires.collecting in
    let size = c.pop_front.new.self.ok.0 in
    let room = c.pop_front.ensures.capacity in
    let all = ap length c.in-Some.ensures.items in
    let few = q.3.2.room.few in
    let most = q.3.2.room.jobs_room in
    omega (arith, size, room, all, few, most)

pub returns-in-Some : goal.returns-in-Some
returns-in-Some g c = record {
  collecting = λ p depot sink d0 s0 i.
      let e = c.turn-job.ensures in
      with_jobs (sym c.push_back_reserved.ensures.items)
      (turn_taken (between 1 depot sink c.args.desk.now c.args.self.now) c.in-Some.job c.turn-job.result c.pop_front.new.self.items c.turn-job.new.desk (with_jobs c.in-Some.ensures.items i) e.others e.job e.same e.fits c.push_back_reserved.new.self (c.push_back_reserved.ensures.capacity ∙ c.pop_front.ensures.capacity));
}

pub returns-in-None : goal.returns-in-None
returns-in-None g c = record {
  collecting = λ p depot sink d0 s0 i.
      let js = c.pop_front.new.self.items in
      with_jobs (append-nil js) (turned_at (between 1 depot sink c.args.desk.now c.args.self.now) [] js c.pop_front.new.self c.pop_front.ensures.capacity (with_jobs c.in-None.ensures.items i));
}
