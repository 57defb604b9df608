-- What the begin of a stream keeps.
use Rattle.std.proofs.Common.{◌≡◌, ◌≢◌, ℕ, suc, ◌+◌, ◌<◌, ◌≤◌, Bool, List, [], ◌∷◌, ◌++◌, map, take, length, Option, Some, None, refl, sym, ◌∙◌, ap, subst, arith, eqb-true}
use Rattle.std.specs.Global.{Global}
use Rattle.std.specs.VecDeque.{deque_capacity}
use Rattle.std.specs.declared.collections.vec_deque.VecDeque.{VecDeque}
use Rattle.chunk_core.specs.Lists.{IsAmong}
use Rattle.chunk_core.specs.Tables.{Values}
use Rattle.chunk_core.specs.declared.code.How.{How}
use Rattle.chunk_core.specs.declared.code.How.TheVariants as how
use Rattle.csv_pipes.specs.Dictionaries.{values_of}
use Rattle.device_port.specs.Depot.{DepotTold}
use Rattle.device_port.specs.Sink.{SinkTold}
use Rattle.join_report.specs.Stopping.{with_seat_out}
use Rattle.join_report.proofs.Learning.{unknown_is}
use Rattle.join_tale.specs.Keeping.{HasRoom}
use Rattle.join_tale.specs.Steps as Tales
use Rattle.join_tale.specs.Steps.{fated}
use Rattle.join_tale.specs.Tales as tales
use Rattle.join_tale.specs.Tales.{IsKnown}
use Rattle.join_tale.proofs.Places.{at_below}
use Rattle.join_tree.specs.Given.{GivesMore}
use Rattle.join_tree.specs.Guests.{AreOut, Guest}
use Rattle.join_tree.specs.Mains.{IsMain}
use Rattle.join_tree.specs.Progress.{splitting}
use Rattle.join_tree.specs.Steps.{guest_of as tree_guest}
use Rattle.outer_tables.specs.Outcomes.{AreOf}
use Rattle.outer_tables.specs.declared.not_read.NotRead.{NotRead}
use Rattle.outer_tables.specs.declared.not_read.NotRead.TheVariants as why
use Rattle.pipeline_desc.specs.Meant.{PlanMeant, stream_limit}
use Rattle.pipeline_desc.specs.Nodes.{IsNodeOf, events_of}
use Rattle.pipeline_desc.specs.Places.{rows_of, rows_within}
use Rattle.plan_work.specs.Plans.{visible}
use Rattle.pull_stepper.specs.Held.{FinishesDevice}
use Rattle.res_ledger.specs.declared.event.StreamNo.TheVariants.{Inner, Outer}
use Rattle.row_seat.specs.declared.view.View.{View}
use Rattle.row_seat.specs.Views.{OthersFit, next_stamp}
use Rattle.run_rules.specs.Facts.{at}
use Rattle.scope_tree.specs.Calls.{KeepsScopes, Seen, TakesRoom}
use Rattle.scope_tree.specs.Trees.{Fits, seen}
use Rattle.scope_tree.specs.Trace.{owed}
use Rattle.scope_tree.specs.Visible.{lessee, rows_covered}
use Rattle.scope_tree.specs.declared.tree.Tree.{Tree}
use Rattle.stream_jobs.specs.declared.job.Job.{Job}
use Rattle.stream_jobs.specs.Running.{Origin}
use Rattle.stream_jobs.proofs.Others.{others_leave}
use Rattle.stream_parts.specs.Parts.{MakesParts}
use Rattle.stream_parts.specs.declared.parts.StreamParts.{StreamParts}
use Rattle.res_ledger.proofs.Mapped.{map_among}
use Rattle.tree_families.specs.Families.{split_of}
use Rattle.dealt_streams.specs.Moves.{contents_of, lines_of, tried_of}
use Rattle.dealt_streams.specs.Moves.Move.{Dealt}
use Rattle.dealt_streams.specs.Parts.{Deals, IsMadeOf, Part, fate_of}
use Rattle.dealt_streams.specs.Parts.Part.{Begun}
use Rattle.dealt_streams.specs.Standing.{ArePartsTried, IsStoppedBy, plan_parts}
use Rattle.dealt_streams.specs.Works.{plan_bounds}
use Rattle.collector.specs.declared.collector.Collector.{Collector}
use Rattle.collector.specs.declared.waiting.Waiting.{Waiting}
use Rattle.collector.specs.Collecting.{IsCollecting, KeepsTale, Moment}
use Rattle.collector.specs.Members.{Members}
use Rattle.collector.specs.Starting.{MakesJob, MayBegin, origin_of}
use Rattle.collector.specs.Streams.{IsJobOf, KeepsStreams, guest_of}
use Rattle.collector.specs.Trees.{KeepsTree, waiting_of}
use Rattle.collector.proofs.Lists.{at_last, map_snoc, snoc_length}
use Rattle.collector.proofs.Placed.{fails_on, placed_same}
use Rattle.collector.proofs.Standing.{stands_dealt, stands_on}
use Rattle.collector.proofs.Steps.{below, counted, dealt_amid, fits_other, given_line, its_spec, lines_on, more_parts, moved_on, seated_out, split_at, split_keeps}
use Rattle.collector.proofs.Streams.{all_came, streams_begun}
use Rattle.collector.proofs.Telling.{outer_done, tale_begins}
use Rattle.collector.proofs.Turned.{out_open}
use Rattle.collector.proofs.Turns.{turns_split}
use Rattle.collector.proofs.Tree.{amid_kept, next_is, next_leased, split_empty, split_so}
use Rattle.collector.proofs.Visible.{moved_whole, values_first, visible_read}

module _ {S V F D T : Type 0} {M : Members S V F D T} {p : PlanMeant} {d0 : DepotTold} {s0 : SinkTold} (m : Moment S V F D T) {y : Waiting} {ws : List Waiting} (k : IsCollecting M p d0 s0 (record m { waiting = y ∷ ws })) where
  abbrev c : Collector S V F D T
  c = m.collector

  abbrev a : Seen V
  a = seen M.view c.tree

  abbrev l : ℕ
  l = lessee y.lease

  abbrev T' : List ℕ
  T' = rows_covered y.lease

  numbered : c.next ≡ length k.tale.fates
  numbered = counted m k

  number : length k.parts ≡ length k.tale.fates
  number = sym k.next ∙ numbered

  lower : c.next < stream_limit p
  lower = below m k

  -- where nothing is known of the whole run all tables were read that were tried
  its_tables : ¬ (IsKnown k.tale 0) → k.stands.lack ≡ None
  its_tables free = by_lack k.stands.lack refl
    where
      not_stopped : (w : NotRead) (memory : Bool) (h : How) → h ≡ how.Done → IsStoppedBy w memory h → ⊥
      not_stopped (why.Fault f) memory h done stopped = let z : how.Done ≡ how.Fault f = sym done ∙ stopped in cc
      not_stopped why.Memory memory h done stopped = let z : how.Done ≡ how.Memory = sym done ∙ stopped.0 in cc

      by_lack : (o : Option NotRead) → k.stands.lack ≡ o → o ≡ None
      by_lack None e = refl
      by_lack (Some w) e =
          let u = (k.stands.unread w e).1 in
          let done = outer_done (plan_bounds p) k.tale k.telling.is_tale free u.0 (k.telling.outer_is ∙ u.1) in
          absurd (not_stopped w k.tale.memory u.0 done u.2)

  -- its seat was split off, and its job made
  module _ (B : Tree S V D) (q : VecDeque (Job S V F V D T) Global) (e g : D) (before' : MayBegin c) (few_open : length m.jobs < p.max_open) (has : HasRoom (plan_bounds p) k.tale) (now : DepotTold) (parts : StreamParts V) (made : MakesParts M.told p c.next y.path m.depot now parts) (t : Values) (tables : t ≡ values_of (take (visible p c.next) c.outer_stream.outer.tables)) (v : View V) (chunk : ℕ) (size : chunk ≡ p.chunk) (j : Job S V F V D T)
      (seat : v.floor ≡ next_stamp a.seat.events) (job : MakesJob M (record c { tree = B }) v T' parts.node parts.devices t chunk g j) where
    abbrev w : Origin V F
    w = origin_of c T' parts.node job.site parts.devices t chunk

    abbrev x : Part V F
    x = Begun parts.node parts.devices w

    abbrev b : Seen V
    b = seen M.view B

    stream_is : l ≡ length k.parts
    stream_is = next_is M.told p k.tree

    free : ¬ (IsKnown k.tale 0)
    free = unknown_is k.tale c.stops 0 k.telling.known before'.0

    have_read : (length (tried_of k.moves) ≡ k.begun) × AreOf c.outer_stream.outer.tables (contents_of k.moves)
    have_read = k.stands.read (its_tables free)

    all_read : visible p (length k.parts) ≤ length (contents_of k.moves)
    all_read = visible_read p k.sound (tried_of k.moves) (subst (λ o. ArePartsTried p.tables (plan_parts p) (tried_of k.moves) o) (its_tables free) k.stands.tried) (moved_whole M.told p [] d0 k.moves m.depot k.moved) c.outer_stream.outer.leased
        (λ i low high. k.stands.ahead i (let n = have_read.0 in omega (arith, low, n)) high) (length k.parts) (next_leased M.told p k.tree)

    made_of : IsMadeOf M.told p (contents_of k.moves) (lines_of k.moves) (length k.parts) parts.node parts.devices w
    made_of = record {
      node = subst (λ i. IsNodeOf p i parts.node) k.next made.node;
      places = made.places ∙ ap (λ i. rows_within (rows_of p i)) k.next;
      stream = k.next;
      leased = k.tree.rows.0;
      site = job.site;
      is_of = job.is_of;
      scopes = job.scopes;
      read = all_read;
      tables = tables ∙ (ap (λ i. values_of (take (visible p i) c.outer_stream.outer.tables)) k.next ∙ values_first (visible p (length k.parts)) c.outer_stream.outer.tables (contents_of k.moves) have_read.1);
      chunk = size;
    }

    deals : Deals M.told p (contents_of k.moves) (lines_of k.moves) (length k.parts) m.depot now x
    deals = (made.stream, its_spec m k made.stream made.stream_is, given_line m k, made_of, made.makes)

    other_name : (o : Origin V F) → IsAmong o k.streams.origins → c.next ≢ o.stream
    other_name o i eq =
        let h = ((k.streams.opens o.stream).0 (map_among (λ (z : Origin V F). z.stream) o k.streams.origins i)).0 in
        let u = at_below k.tale.fates o.stream tales.Fate.Begun h in
        let n = numbered in
        absurd (omega (arith, u, n, eq))

    job_of : IsJobOf M c.hub c.stops.board g (k.parts ++ x ∷ []) j w
    job_of = record {
      node = parts.node;
      devices = parts.devices;
      begun = subst (λ i. at (k.parts ++ x ∷ []) i ≡ Some x) (sym k.next) (at_last k.parts x);
      job = job.job;
      fits_desk = job.fits_desk;
      place = job.place;
    }

    guest_is : guest_of w ≡ tree_guest a.seat l T'
    guest_is = ap (λ n. let z : Guest = record { stream = n; floor = job.site.seat.floor; rows = T' } in z) (k.next ∙ sym stream_is) ∙ ap (λ n. let z : Guest = record { stream = l; floor = n; rows = T' } in z) (ap (λ (z : View V). z.floor) job.seat ∙ seat)

    may : Tales.MayBegin (plan_bounds p) k.tale
    may = record {
      run = free;
      own = let n = numbered in let own' : 1 + c.next ≡ suc (length k.tale.fates) = omega (arith, n) in subst (λ i. ¬ (IsKnown k.tale i)) own' (unknown_is k.tale c.stops (1 + c.next) k.telling.known before'.1);
      alone = λ turn i h. all_came M c.hub c.stops.board m.desk a m.jobs c.left.items m.receiver k.parts k.progress k.tale k.streams (let z = eqb-true p.max_open 1 turn in omega (arith, z, few_open)) i h;
      room = has;
    }

    -- those whose seats are out are told to be open in its turn
    told_open : (i : ℕ) → IsAmong i a.seat.out → IsAmong i (k.tale.room l)
    told_open i o = let n = number in let same : l ≡ length k.tale.fates = stream_is ∙ n in subst (λ x. IsAmong i (k.tale.room x)) (sym same) (has.1 i (out_open k i o))

    pub begin_step : (n : ℕ) → events_of p c.next ≡ Some n → IsMain (FinishesDevice M.told) p.max_open (stream_limit p) b (splitting k.progress a.seat l (map waiting_of ws)) → b ≡ split_at a l (rows_of p (length k.parts)).from (rows_of p (length k.parts)).to n → owed b.seat ≡ owed a.seat
        → GivesMore [] a b → KeepsScopes a b → TakesRoom 0 0 a b → AreOut b (k.progress.splits ++ split_of a.seat l ∷ []) (map guest_of k.streams.origins ++ tree_guest a.seat l T' ∷ []) → Fits M.view M.fits B e → OthersFit M.view M.fits Outer m.desk e → OthersFit M.view M.fits (Inner c.next) e g
        → q.items ≡ m.jobs ++ j ∷ [] → deque_capacity q ≡ deque_capacity c.jobs → (again : ℕ) → length ws ≤ again → (c.outer ≡ None → 0 < again → 1 ≤ length ws)
        → IsCollecting M p d0 s0 (record m {
          waits = again;
          waiting = ws;
          jobs = m.jobs ++ j ∷ [];
          receiver = record m.receiver { made = m.receiver.made ++ c.next ∷ [] };
          depot = now;
          desk = g;
          collector = record c { tree = B; stops = with_seat_out c.stops; receiver = record c.receiver { made = c.receiver.made ++ c.next ∷ [] }; next = c.next + 1; jobs = q };
        })
    begin_step n events main split owes gives scopes room out fit others inner pushed capacity again few some =
        let more = snoc_length k.parts x in
        let next = k.next in
        let jobs = snoc_length m.jobs j in
        let rest = splitting k.progress a.seat l (map waiting_of ws) in
        let keeps = split_keeps a b l (rows_of p (length k.parts)).from (rows_of p (length k.parts)).to n split in
        record {
          sound = k.sound;
          few_faults = k.few_faults;
          fits_desk = fits_other M.view M.fits B e g (Inner c.next) inner (λ h. let z : Outer ≡ Inner c.next = sym main.by ∙ h in cc) fit;
          its_parts = k.its_parts;
          moves = k.moves ++ Dealt x ∷ [];
          parts = k.parts ++ x ∷ [];
          parts_are = more_parts m k x;
          progress = rest;
          tale = fated k.tale tales.Fate.Begun;
          moved = moved_on m k x now deals;
          tree = subst (λ i. KeepsTree p M.told again b c.outer c.outer_stream ws i rest) (sym more) (split_so M.told p k.tree b n (subst (λ i. events_of p i ≡ Some n) k.next events) main split owes gives scopes room again few some);
          lines = lines_on m k x;
          next = omega (arith, more, next);
          amid = λ i. dealt_amid m k x b (amid_kept (k.amid i) b gives scopes room (ap (λ (y : Seen V). y.seat.opened) split) (split_empty M.told p k.tree b n split));
          begun = k.begun;
          begun_is = k.begun_is;
          stands = stands_dealt M.told p k.moves (stands_on M.told p k.stands b k.tale.memory (λ z. z) keeps gives) x;
          streams = subst (λ i. KeepsStreams M c.hub c.stops.board g b (m.jobs ++ j ∷ []) c.left.items (record m.receiver { made = m.receiver.made ++ i ∷ [] }) (k.parts ++ x ∷ []) rest (fated k.tale tales.Fate.Begun)) (sym k.next)
              (streams_begun M c.hub c.stops.board m.desk a m.jobs c.left.items m.receiver k.parts k.progress k.tale k.streams g b w x j (split_of a.seat l) k.next number k.telling.report_is.ours stream_is
              (λ o i z f h. (others_leave M.view M.values M.told M.stands M.fits).inner o c.next (other_name o i) z e g f ((others_leave M.view M.values M.told M.stands M.fits).outer o z m.desk e f h others) inner) job_of
              (subst (λ z. AreOut b (k.progress.splits ++ split_of a.seat l ∷ []) (map guest_of k.streams.origins ++ z ∷ [])) (sym guest_is) out)
              keeps.given (map waiting_of ws) (suc k.progress.next));
          turns = turns_split k.progress k.tale k.turns (fated k.tale tales.Fate.Begun) refl refl a.seat l (map waiting_of ws) told_open;
          places = placed_same (plan_bounds p) a b k.progress rest k.tale (fated k.tale tales.Fate.Begun) keeps.noted (λ y z. z) (fails_on k.tale (fated k.tale tales.Fate.Begun) (λ f z. z) (λ o h z. z)) k.places refl refl;
          telling = subst (λ n. KeepsTale p c.outer c.report (with_seat_out c.stops) n s0 m.sink (map fate_of (k.parts ++ x ∷ [])) (fated k.tale tales.Fate.Begun)) (let o : length m.jobs + 1 ≡ length (m.jobs ++ j ∷ []) = omega (arith, jobs) in o)
              (subst (λ fs. KeepsTale p c.outer c.report (with_seat_out c.stops) (length m.jobs + 1) s0 m.sink fs (fated k.tale tales.Fate.Begun)) (sym (map_snoc fate_of k.parts x))
              (tale_begins p c.outer c.report c.stops (length m.jobs) s0 m.sink (map fate_of k.parts) k.tale k.telling (seated_out c.stops k.telling.seated) may));
          room = record {
            waiting = k.room.waiting;
            jobs_room = capacity ∙ k.room.jobs_room;
            queue = k.room.queue;
            few = omega (arith, jobs, few_open);
            left = let f = k.room.left in let low = lower in omega (arith, f, more, jobs, low, next);
          };
        }
