-- How a collector stands before its first stream.
use Rattle.std.proofs.Common.{◌≡◌, ◌≢◌, ◌⊎◌, ℕ, ◌-◌, ◌^◌, ◌<◌, Bool, false, List, [], ◌∷◌, ◌++◌, append-nil, length, Option, Some, None, refl, sym, ◌∙◌, ap, subst, ⊎_elim, arith}
use Rattle.chunk_core.specs.Lists.{IsAmong}
use Rattle.chunk_core.specs.Outcomes.{exit_of}
use Rattle.chunk_core.specs.declared.code.Exit.{Exit}
use Rattle.chunk_core.specs.declared.code.How.{How}
use Rattle.chunk_core.specs.declared.code.How.TheVariants as how
use Rattle.chunk_core.proofs.Distinct.{distinct_nil}
use Rattle.chunk_core.proofs.Members.{among_nil}
use Rattle.channel_bounded.specs.Ends.{HubSeen, ReceiverSeen}
use Rattle.device_port.specs.Depot.{DepotTold}
use Rattle.device_port.specs.Sink.{SinkTold}
use Rattle.interrupt_ctx.specs.Ends.{BoardSeen}
use Rattle.interrupt_ctx.specs.declared.view.Interruption.{Interruption}
use Rattle.interrupt_ctx.specs.Views.{interruption}
use Rattle.interrupt_ctx.specs.declared.why.Stop.{Stop}
use Rattle.interrupt_ctx.specs.declared.why.Why.TheVariants as why
use Rattle.join_report.specs.Calls.{EndsOuter}
use Rattle.join_report.specs.Stopping.{Interrupts, IsSeated, Learns}
use Rattle.join_report.specs.declared.report.Report.{Report}
use Rattle.join_report.specs.declared.stops.Stops.{Stops}
use Rattle.join_tale.specs.Steps.{first_tale, heeded}
use Rattle.join_tale.specs.Tales as tales
use Rattle.join_tale.specs.Tales.{Fate}
use Rattle.join_tree.specs.Progress.{none_done}
use Rattle.join_tree.proofs.Outs.{guests_stay}
use Rattle.pipeline_desc.specs.Meant.{PlanMeant}
use Rattle.pull_stepper.specs.Held.{FinishesDevice}
use Rattle.res_ledger.specs.declared.event.StreamNo.{StreamNo}
use Rattle.res_ledger.specs.declared.event.StreamNo.TheVariants.{Outer}
use Rattle.res_ledger.specs.declared.event.What.{What}
use Rattle.run_rules.specs.Facts.{at}
use Rattle.scope_tree.specs.Calls.{Seen}
use Rattle.scope_tree.specs.Trees.{Fits, seen}
use Rattle.scope_tree.specs.declared.tree.Tree.{Tree}
use Rattle.stream_jobs.specs.declared.job.Job.{Job}
use Rattle.outer_source.specs.Standing.{IsAmidAll}
use Rattle.outer_source.specs.declared.source.OuterSource.{OuterSource}
use Rattle.dealt_streams.specs.declared.leftover.Leftover.{Leftover}
use Rattle.dealt_streams.specs.Places.{KeepsPlaces}
use Rattle.dealt_streams.specs.Standing.{StandsBy, plan_parts}
use Rattle.dealt_streams.specs.Works.{plan_bounds}
use Rattle.dealt_streams.proofs.Placing.{placed_heeded, placed_more, placed_none}
use Rattle.collector.specs.declared.collector.Collector.{Collector}
use Rattle.collector.specs.declared.waiting.Waiting.{Waiting}
use Rattle.collector.specs.Collecting.{IsCollecting, KeepsTale, between}
use Rattle.collector.specs.Members.{Members}
use Rattle.collector.proofs.Placed.{AreCalm, calm_marks, outer_behind, placed_calm}
use Rattle.collector.proofs.Turns.{turns_none, turns_same}
use Rattle.collector.specs.Starting.{ClosesOuter, ClosesOuterBehind, IsFresh, room_of, unpulled}
use Rattle.collector.specs.Streams.{KeepsStreams}
use Rattle.collector.specs.Trees.{KeepsTree}
use Rattle.collector.proofs.Fresh.{first_amid, first_given, first_out, untouched_outer, untouched_tree}
use Rattle.collector.proofs.FreshTale.{halted, tale_halted, tale_starts}
use Rattle.collector.proofs.OuterSteps.{more_may}
use Rattle.collector.proofs.Streams.{moved, retold, streams_heeded}
use Rattle.collector.proofs.Tree.{closed, gives_same}

-- no stream was dealt with
no_fate : (k : ℕ) (f : Fate) → at [] k ≡ Some f → ⊥
no_fate k f e = cc

module _ {S V F D T : Type 0} (M : Members S V F D T) (p : PlanMeant) where
  -- no stream is open, and none is left
  pub streams_none : (hub : HubSeen) (board : BoardSeen) (d : D) (b : Seen V) (tables : List What) (root : Option Exit) (outer : Option How) (set found : List Interruption) (ceased memory : Bool) → b.seat.out ≡ []
      → KeepsStreams M hub board d b [] [] (record { hub = hub.id; got = []; made = []; closed = [] }) [] (moved (none_done V) [] 0 0 tables root) (retold first_tale outer set found ceased memory)
  streams_none hub board d b tables root outer set found ceased memory out = record {
    origins = [];
    jobs_are = tt;
    out = (guests_stay V).none b [] out;
    opens = λ k. (λ m. absurd (among_nil m), λ o. absurd (no_fate k tales.Fate.Begun o.0));
    begun = λ k. (λ i. absurd (no_fate k tales.Fate.Begun i), λ m. absurd (among_nil m.1));
    gone = [];
    kept = tt;
    apart = distinct_nil;
    numbers = λ k. (λ m. absurd (among_nil m), λ o. absurd (⊎_elim (λ h. ⊎_elim (λ m. among_nil m) (λ m. among_nil m) h.1) (λ i. no_fate k tales.Fate.Unmade i) o));
    home = λ y m. absurd (among_nil m);
    given = λ y m. absurd (among_nil m);
    hub_is = refl;
    got = refl;
    made = λ k. (λ m. absurd (among_nil m), λ i. absurd (no_fate k tales.Fate.Begun i));
    closed = λ k sent m. absurd (among_nil m);
  }

  module _ (d0 : DepotTold) (s0 : SinkTold) (d : D) (c : Collector S V F D T) (fr : IsFresh M p d c) (calm : s0.faults < 2 ^ 64 - 1) where
    abbrev a : Seen V
    a = seen M.view c.tree

    first_tree : (waits : ℕ) → waits ≡ 0 → KeepsTree p M.told waits a None unpulled [] 0 (none_done V)
    first_tree waits nothing = untouched_tree M.told p fr.sound a fr.seat fr.rows fr.used fr.scopes fr.main waits nothing

    -- it stands so before its first stream
    stands : (waits : ℕ) (e : D) (tree : Tree S V D) (stops : Stops) (report : Report) (outer : Option How) (root : Option Exit) (set found : List Interruption) (os : List (StreamNo × Stop)) (ceased memory : Bool) → Fits M.view M.fits tree e → KeepsTree p M.told waits (seen M.view tree) outer unpulled [] 0 (moved (none_done V) [] 0 0 [] root)
        → (outer ≡ None → IsAmidAll M.told p (plan_parts p) [] [] unpulled (seen M.view tree)) → StandsBy p M.told [] [] [] 0 0 [] outer memory (seen M.view tree) → (seen M.view tree).seat.out ≡ [] → KeepsTale p outer report stops 0 s0 s0 [] (heeded (retold first_tale outer set found ceased memory) os)
        → KeepsPlaces (plan_bounds p) (seen M.view tree) (moved (none_done V) [] 0 0 [] root) (heeded (retold first_tale outer set found ceased memory) os)
        → IsCollecting M p d0 s0 (between waits d0 s0 e (record c { tree = tree; stops = stops; report = report; outer = outer; outer_stream = unpulled }))
    stands waits e tree stops report outer root set found os ceased memory fit kt amid so out telling places =
        let z : Collector S V F D T = record c { tree = tree; stops = stops; report = report; outer = outer; outer_stream = unpulled } in
        let q = moved (none_done V) [] 0 0 [] root in
        let old = retold first_tale outer set found ceased memory in
        let tale = heeded old os in
        let With = λ (ws : List Waiting) (js : List (Job S V F V D T)). IsCollecting M p d0 s0 (record (between waits d0 s0 e z) { waiting = ws; jobs = js }) in
        let k : With [] [] = record {
          sound = fr.sound;
          few_faults = calm;
          fits_desk = fit;
          its_parts = fr.room.parts;
          moves = [];
          parts = [];
          parts_are = refl;
          progress = q;
          tale = tale;
          moved = refl;
          tree = kt;
          lines = tt;
          next = fr.next;
          amid = amid;
          begun = 0;
          begun_is = λ y. refl;
          stands = so;
          streams = subst (λ (r : ReceiverSeen). KeepsStreams M c.hub stops.board e (seen M.view tree) [] c.left.items r [] q tale) (sym fr.room.receiver)
              (subst (λ (xs : List (Leftover V)). KeepsStreams M c.hub stops.board e (seen M.view tree) [] xs (record { hub = c.hub.id; got = []; made = []; closed = [] }) [] q tale) (sym fr.room.left)
              (streams_heeded M c.hub stops.board e (seen M.view tree) [] [] (record { hub = c.hub.id; got = []; made = []; closed = [] }) [] q old (streams_none c.hub stops.board e (seen M.view tree) [] root outer set found ceased memory out) os));
          turns = turns_same q old tale refl refl (turns_none root outer set found ceased memory);
          places = places;
          telling = telling;
          room = record { waiting = fr.room.waiting_room; jobs_room = fr.room.jobs_room; queue = fr.room.queue; few = omega arith; left = let n = ap (λ (xs : List (Leftover V)). length xs) fr.room.left in let m = fr.room.left_room in omega (arith, n, m) };
        } in
        subst (λ (ws : List Waiting). With ws c.jobs.items) (sym fr.room.waiting) (subst (λ (js : List (Job S V F V D T)). With [] js) (sym fr.room.jobs) k)

    -- it may be pulled
    pub fresh_stands : p.take ≢ Some 0 → IsCollecting M p d0 s0 (between (length c.waiting.items) d0 s0 d c)
    fresh_stands some =
        let n = ap (λ (ws : List Waiting). length ws) fr.room.waiting in
        let h = stands (length c.waiting.items) d c.tree c.stops c.report None None [] [] [] false false fr.fits_desk (first_tree (length c.waiting.items) n) (λ z. first_amid M.told p fr.sound a fr.seat fr.rows fr.used fr.scopes fr.main) (untouched_outer M.told p None false a (first_given p a.seat fr.seat) refl tt (λ w. absurd (some w))) (first_out p a.seat fr.seat)
        (tale_starts p (room_of c) fr.room s0 some) (placed_none (plan_bounds p) a (none_done V) first_tale) in
        subst (λ (x : Option How). IsCollecting M p d0 s0 (between (length c.waiting.items) d0 s0 d (record c { outer = x }))) (sym fr.outer) (subst (λ (x : OuterSource). IsCollecting M p d0 s0 (between (length c.waiting.items) d0 s0 d (record c { outer = None; outer_stream = x }))) (sym fr.given) h)

    -- no frame is wanted
    pub unwanted_stands : (none : p.take ≡ Some 0) (again : Stops) (m : Interrupts c.stops again 0 (record { why = why.Take; at = 0 })) (seated : IsSeated again) (e : D) (z : Collector S V F D T) (last : Stops) (cs : List Interruption) (w : Stop) (l : Learns again last [] cs) (sits : IsSeated last) → (r : IsAmong (interruption 0 w) cs ⊎ IsAmong (interruption 0 w) cs)
        → (ends : EndsOuter how.Halted c.report z.report) → ClosesOuter (FinishesDevice M.told) how.Halted a (seen M.view z.tree) → ClosesOuterBehind w.at (seen M.view z.tree) → Fits M.view M.fits z.tree e → z ≡ record c { tree = z.tree; stops = last; report = z.report; outer = Some how.Halted } → IsCollecting M p d0 s0 (between 1 d0 s0 e z)
    unwanted_stands none again m seated e z last cs w l sits r ends close behind fit same =
        let b = seen M.view z.tree in
        let tale = halted p (room_of c) fr.room s0 none again m seated last cs w l sits r z.report ends in
        let y : Collector S V F D T = record c { tree = z.tree; stops = last; report = z.report; outer = Some how.Halted; outer_stream = unpulled } in
        let is : z ≡ y = same ∙ ap (λ (x : OuterSource). let w : Collector S V F D T = record c { tree = z.tree; stops = last; report = z.report; outer = Some how.Halted; outer_stream = x } in w) fr.given in
        let shut = closed M.told p (first_tree 0 refl) how.Halted b refl close in
        let q = moved (none_done V) [] 0 0 [] (Some (exit_of how.Halted)) in
        let calm : AreCalm (([] ++ m.0) ++ []) = subst (λ vs. AreCalm vs) (sym (append-nil m.0)) (calm_marks m.0 m.1 m.2 (λ i. cc) (λ i. cc)) in
        let places = placed_more (plan_bounds p) b q tale [] ((Outer, w) ∷ []) (([] ++ m.0) ++ []) [] (placed_calm (plan_bounds p) b q tale (([] ++ m.0) ++ []) calm)
        (placed_heeded (plan_bounds p) b q tale Outer w (outer_behind b q how.Halted w.at (shut.main.told.root (exit_of how.Halted) refl) behind)) in
        let h = stands 0 e z.tree last z.report (Some how.Halted) (Some (exit_of how.Halted)) tale.set tale.seen ((Outer, w) ∷ []) tale.ceased tale.memory fit shut (λ z. cc)
        (untouched_outer M.told p (Some how.Halted) tale.memory b (gives_same a b close.gives ∙ first_given p a.seat fr.seat) refl tt (λ w. refl)) (close.guests.out ∙ first_out p a.seat fr.seat)
        (tale_halted p (room_of c) fr.room s0 none again m seated last cs w l sits r z.report ends) places in
        subst (λ (x : Collector S V F D T). IsCollecting M p d0 s0 (between 1 d0 s0 e x)) (sym is) (more_may {m = between 0 d0 s0 e y} h 1 (omega arith) (λ n. cc))
