-- What each small call of a collector keeps.
use Rattle.std.proofs.Common.{◌≡◌, ◌≢◌, ◌⊎◌, ℕ, suc, ◌+◌, ◌-◌, ◌<◌, ◌≤◌, Bool, true, false, ◌||◌, List, [], ◌∷◌, ◌++◌, append-nil, map, length, Some, None, inl, inr, refl, sym, ◌∙◌, ap, subst, ⊎_elim, arith, eqb-true, vec_capacity}
use Rattle.std.specs.Global.{Global}
use Rattle.std.specs.VecDeque.{deque_capacity}
use Rattle.std.specs.declared.collections.vec_deque.VecDeque.{VecDeque}
use Rattle.std.specs.declared.vec.Vec.{Vec}
use Rattle.chunk_core.specs.Lists.{IsAmong}
use Rattle.chunk_core.specs.Outcomes.{exit_of}
use Rattle.chunk_core.specs.declared.code.How.TheVariants as how
use Rattle.channel_bounded.specs.Ends.{ReceiverSeen}
use Rattle.device_port.specs.Depot.{DepotTold}
use Rattle.device_port.specs.Sink.{SinkTold}
use Rattle.interrupt_ctx.specs.Views.{interruption}
use Rattle.interrupt_ctx.specs.declared.view.Interruption.{Interruption}
use Rattle.interrupt_ctx.specs.declared.why.Stop.{Stop}
use Rattle.interrupt_ctx.specs.declared.why.Why.TheVariants as why
use Rattle.join_report.specs.Calls.{EndsOuter, MissesStream}
use Rattle.join_report.specs.Stopping.{IsSeated, Learns, view_of, with_seat_out}
use Rattle.join_report.specs.declared.report.Report.{Report}
use Rattle.join_report.specs.declared.stops.Stops.{Stops}
use Rattle.join_tale.specs.Keeping.{IsOuterStopped, IsOwnCode}
use Rattle.join_tale.specs.Steps.{Marks, TellsOuter, fated, heeded, learned, outer_ended, unmade}
use Rattle.join_tale.specs.Tales as tales
use Rattle.join_tale.specs.Tales.{IsFoundSet, IsSet, Tale}
use Rattle.join_tree.specs.Given.{GivesMore, given}
use Rattle.join_tree.specs.Progress.{closing_root, skipping, standing}
use Rattle.join_tree.specs.Steps.{KeepsRows}
use Rattle.join_tree.proofs.Outs.{guests_stay}
use Rattle.pipeline_desc.specs.Meant.{PlanMeant, stream_limit}
use Rattle.pipeline_desc.specs.declared.stream.StreamSpec.{StreamSpec}
use Rattle.pull_stepper.specs.Held.{FinishesDevice}
use Rattle.res_ledger.specs.declared.event.StreamNo.{StreamNo}
use Rattle.res_ledger.specs.declared.event.StreamNo.TheVariants.{Outer}
use Rattle.row_seat.specs.declared.view.View.{View}
use Rattle.row_seat.specs.Views.{OthersFit, split_main}
use Rattle.scope_tree.specs.Calls.{Seen}
use Rattle.scope_tree.specs.Trees.{Fits, seen}
use Rattle.scope_tree.specs.Visible.{lessee, rows_covered}
use Rattle.scope_tree.specs.declared.tree.Tree.{Tree}
use Rattle.stream_jobs.specs.declared.job.Job.{Job}
use Rattle.stream_parts.specs.Named.{IsNamed, named_stream}
use Rattle.outer_source.specs.Standing.{IsAmidAll}
use Rattle.outer_stream.specs.Steps.{KeepsOthers}
use Rattle.outer_stream.proofs.Keeping.{others_kept, others_same, rows_same}
use Rattle.dealt_streams.specs.declared.leftover.Leftover.{Leftover}
use Rattle.dealt_streams.specs.Moves.{AreMoved, contents_of, dealt_of, lines_of, opened_of}
use Rattle.dealt_streams.specs.Moves.Move.{Dealt}
use Rattle.dealt_streams.specs.Parts.{Deals, MakesUnmade, Part, fate_of, line_at, spec_of}
use Rattle.dealt_streams.specs.Parts.Part.{Skipped, Unmade}
use Rattle.dealt_streams.specs.Standing.{StandsOuter, plan_parts}
use Rattle.dealt_streams.specs.Places.{KeepsPlaces}
use Rattle.dealt_streams.specs.Turns.{KeepsTurns}
use Rattle.dealt_streams.specs.Works.{plan_bounds}
use Rattle.collector.specs.declared.collector.Collector.{Collector}
use Rattle.collector.specs.declared.waiting.Waiting.{Waiting}
use Rattle.collector.specs.Collecting.{IsCollecting, KeepsTale, Moment}
use Rattle.collector.specs.Members.{Members}
use Rattle.collector.specs.Starting.{ClosesOuter, ClosesOuterBehind, MaySkip, PassesOver}
use Rattle.collector.specs.Streams.{KeepsStreams, guest_of}
use Rattle.collector.specs.Trees.{HaveLines, KeepsTree, waiting_of}
use Rattle.collector.proofs.Lists.{map_length, map_snoc, snoc_length}
use Rattle.collector.proofs.Moving.{dealt_snoc, lines_dealt, moved_snoc, opened_dealt}
use Rattle.collector.proofs.Naming.{line_there}
use Rattle.collector.proofs.Standing.{stands_dealt, stands_halted, stands_on}
use Rattle.dealt_streams.proofs.Placing.{placed_plain}
use Rattle.collector.proofs.Placed.{fails_on, fails_then, outer_behind, placed_obeys, placed_same, placed_set}
use Rattle.collector.proofs.Streams.{jobs_number, moved, streams_heeded, streams_missed, streams_retold, streams_skipped, streams_stay}
use Rattle.collector.proofs.Telling.{found_so, tale_closes, tale_heeds, tale_learns, tale_misses, tale_skips}
use Rattle.collector.proofs.Turns.{turns_halted}
use Rattle.collector.proofs.Tree.{amid_kept, closed, next_below, next_is, next_leased, passed, tree_widened}

pub gives_none : {V : Type 0} (b : Seen V) → GivesMore [] b b
gives_none b = sym (append-nil (given b.seat))

pub split_keeps : {V : Type 0} (b c : Seen V) (j from to n : ℕ) → c ≡ record b { seat = split_main b.seat j from to n } → KeepsRows b.seat c.seat
split_keeps b c j from to n e = subst (λ (x : Seen _). KeepsRows b.seat x.seat) (sym e) (record { noted = λ y m. m; left = λ y m. m; opened = λ y m. inl m; given = λ y m. m })

-- the main tree with the seat of a stream split off
abbrev pub split_at : {V : Type 0} → Seen V → ℕ → ℕ → ℕ → ℕ → Seen V
split_at b j from to n = record b { seat = split_main b.seat j from to n }

-- a call of another stream's seat leaves the fit of a tree
pub fits_other : {S P D : Type 0} (view : S → View P) (fits : S → D → Type 0) (t : Tree S P D) (d e : D) (k : StreamNo) → OthersFit view fits k d e → (seen view t).seat.by ≢ k → Fits view fits t d → Fits view fits t e
fits_other view fits t d e k o ne f = record { seat = o t.seat ne f.seat; sound = f.sound }

pub seated_out : (s : Stops) → IsSeated s → IsSeated (with_seat_out s)
seated_out s i = record { fits = i.fits; first = i.first; settled = λ z. absurd (omega (arith, z)) }

module _ {S V F D T : Type 0} {M : Members S V F D T} {p : PlanMeant} {d0 : DepotTold} {s0 : SinkTold} {m : Moment S V F D T} (k : IsCollecting M p d0 s0 m) where
  abbrev c : Collector S V F D T
  c = m.collector

  abbrev b : Seen V
  b = seen M.view c.tree

  -- so many streams may wait
  pub widened : (again : ℕ) → length m.waiting ≤ again → (c.outer ≡ None → 0 < again → 1 ≤ length m.waiting) → IsCollecting M p d0 s0 (record m { waits = again })
  widened again few some = record {
    sound = k.sound;
    few_faults = k.few_faults;
    fits_desk = k.fits_desk;
    its_parts = k.its_parts;
    moves = k.moves;
    parts = k.parts;
    parts_are = k.parts_are;
    progress = k.progress;
    tale = k.tale;
    moved = k.moved;
    tree = tree_widened M.told p k.tree again few some;
    lines = k.lines;
    next = k.next;
    amid = k.amid;
    begun = k.begun;
    begun_is = k.begun_is;
    stands = k.stands;
    streams = k.streams;
    turns = k.turns;
    places = k.places;
    telling = k.telling;
    room = k.room;
  }

  -- those that wait are these, in a queue with as much room
  pub requeued : (ws : List Waiting) (q : VecDeque Waiting Global) → m.waiting ≡ ws → deque_capacity q ≡ deque_capacity c.waiting → IsCollecting M p d0 s0 (record m { waiting = ws; collector = record c { waiting = q } })
  requeued ws q is capacity = record {
    sound = k.sound;
    few_faults = k.few_faults;
    fits_desk = k.fits_desk;
    its_parts = k.its_parts;
    moves = k.moves;
    parts = k.parts;
    parts_are = k.parts_are;
    progress = k.progress;
    tale = k.tale;
    moved = k.moved;
    tree = subst (λ xs. KeepsTree p M.told m.waits b c.outer c.outer_stream xs (length k.parts) k.progress) is k.tree;
    lines = subst (λ xs. HaveLines p (lines_of k.moves) xs) is k.lines;
    next = k.next;
    amid = k.amid;
    begun = k.begun;
    begun_is = k.begun_is;
    stands = k.stands;
    streams = k.streams;
    turns = k.turns;
    places = k.places;
    telling = k.telling;
    room = record { waiting = capacity ∙ k.room.waiting; jobs_room = k.room.jobs_room; queue = k.room.queue; few = k.room.few; left = k.room.left };
  }

  -- the main tree and the outer stream are as they were, and so are the streams that were dealt with
  pub retold : (js : List (Job S V F V D T)) (r : ReceiverSeen) (sink : SinkTold) (e : D) (jobs : VecDeque (Job S V F V D T) Global) (report : Report) (stops : Stops) (v : Tale) → (k.tale.memory ≡ true → v.memory ≡ true) → Fits M.view M.fits c.tree e
      → KeepsStreams M c.hub stops.board e b js c.left.items r k.parts k.progress v → KeepsTale p c.outer report stops (length js) s0 sink (map fate_of k.parts) v → KeepsTurns k.progress v → KeepsPlaces (plan_bounds p) b k.progress v → length js ≡ length m.jobs → deque_capacity jobs ≡ deque_capacity c.jobs
      → IsCollecting M p d0 s0 (record m { jobs = js; receiver = r; sink = sink; desk = e; collector = record c { jobs = jobs; report = report; stops = stops } })
  retold js r sink e jobs report stops v more fit streams telling turns places count capacity = record {
    sound = k.sound;
    few_faults = k.few_faults;
    fits_desk = fit;
    its_parts = k.its_parts;
    moves = k.moves;
    parts = k.parts;
    parts_are = k.parts_are;
    progress = k.progress;
    tale = v;
    moved = k.moved;
    tree = k.tree;
    lines = k.lines;
    next = k.next;
    amid = k.amid;
    begun = k.begun;
    begun_is = k.begun_is;
    stands = stands_on M.told p k.stands b v.memory more (rows_same b) (gives_none b);
    streams = streams;
    turns = turns;
    places = places;
    telling = telling;
    room = record {
      waiting = k.room.waiting;
      jobs_room = capacity ∙ k.room.jobs_room;
      queue = k.room.queue;
      few = let f = k.room.few in omega (arith, f, count);
      left = let f = k.room.left in omega (arith, f, count);
    };
  }

  -- contexts were found set
  pub learns_step : (again : Stops) (cs : List Interruption) → Learns c.stops again [] cs → IsSeated again → IsCollecting M p d0 s0 (record m { collector = record c { stops = again } })
  learns_step again cs l seated = retold m.jobs m.receiver m.sink m.desk c.jobs c.report again (learned k.tale [] cs) (λ z. z) k.fits_desk
      (streams_stay M c.hub c.stops.board m.desk b m.jobs c.left.items m.receiver k.parts k.progress k.tale k.streams again.board m.desk b l.board (λ x ne f. f) (others_same 0 b) (rows_same b)
      k.tale.outer (k.tale.set ++ []) (k.tale.seen ++ cs) k.tale.ceased k.tale.memory k.progress.waits k.progress.next k.progress.leased k.progress.tables k.progress.root)
      (tale_learns p c.outer c.report c.stops (length m.jobs) s0 m.sink (map fate_of k.parts) k.tale k.telling again cs l seated) (record { pulled = k.turns.pulled; ahead = k.turns.ahead; room = k.turns.room })
      (placed_same (plan_bounds p) b b k.progress k.progress k.tale (learned k.tale [] cs) (λ x i. i) (λ y i. i) (fails_on k.tale (learned k.tale [] cs) (λ f x. x) (λ j h i. i)) k.places refl (append-nil k.tale.set)) refl refl

  -- nothing was done to the main tree, in the outer stream's name
  pub still_step : (tree : Tree S V D) (e : D) → seen M.view tree ≡ b → Fits M.view M.fits tree e → OthersFit M.view M.fits Outer m.desk e → IsCollecting M p d0 s0 (record m { desk = e; collector = record c { tree = tree } })
  still_step tree e same fit others = record {
    sound = k.sound;
    few_faults = k.few_faults;
    fits_desk = fit;
    its_parts = k.its_parts;
    moves = k.moves;
    parts = k.parts;
    parts_are = k.parts_are;
    progress = k.progress;
    tale = k.tale;
    moved = k.moved;
    tree = subst (λ (x : Seen V). KeepsTree p M.told m.waits x c.outer c.outer_stream m.waiting (length k.parts) k.progress) (sym same) k.tree;
    lines = k.lines;
    next = k.next;
    amid = λ e. subst (λ (x : Seen V). IsAmidAll M.told p (plan_parts p) (opened_of k.moves) (lines_of k.moves) c.outer_stream x) (sym same) (k.amid e);
    begun = k.begun;
    begun_is = k.begun_is;
    stands = subst (λ (x : Seen V). StandsOuter p M.told k.moves k.begun c.outer_stream.outer.leased c.outer_stream.outer.tables c.outer k.tale.memory x) (sym same) k.stands;
    streams = streams_stay M c.hub c.stops.board m.desk b m.jobs c.left.items m.receiver k.parts k.progress k.tale k.streams c.stops.board e (seen M.view tree) refl others (subst (λ (x : Seen V). KeepsOthers 0 b x) (sym same) (others_same 0 b))
        (subst (λ (x : Seen V). KeepsRows b.seat x.seat) (sym same) (rows_same b))
        k.tale.outer k.tale.set k.tale.seen k.tale.ceased k.tale.memory k.progress.waits k.progress.next k.progress.leased k.progress.tables k.progress.root;
    turns = k.turns;
    places = subst (λ (x : Seen V). KeepsPlaces (plan_bounds p) x k.progress k.tale) (sym same) k.places;
    telling = k.telling;
    room = record { waiting = k.room.waiting; jobs_room = k.room.jobs_room; queue = k.room.queue; few = k.room.few; left = k.room.left };
  }

  -- no more seats are out than jobs are open
  pub few_out : length b.seat.out ≤ length m.jobs
  few_out =
      let f = (guests_stay V).few b k.progress.splits (map guest_of k.streams.origins) k.tree.main.apart k.streams.out in
      let n = map_length guest_of k.streams.origins in
      let j = jobs_number M c.hub c.stops.board m.desk b m.jobs c.left.items m.receiver k.parts k.progress k.tale k.streams in
      omega (arith, f, n, j)

  -- where the open jobs and the leases that wait are as many as may be open at most, so are the seats that are out and these
  pub may_lease : length m.jobs + length m.waiting ≤ p.max_open → length b.seat.out + length k.progress.waits ≤ p.max_open
  may_lease few =
      let o = few_out in
      let w = ap (λ (xs : List (ℕ × List ℕ)). length xs) k.tree.waits_are in
      let n = map_length waiting_of m.waiting in
      omega (arith, few, o, w, n)

  -- the outer stream found a code, and closed its root behind what this names
  pub halt_step : (tree : Tree S V D) (report : Report) (e : D) (x : Stop) → c.outer ≡ None → ClosesOuter (FinishesDevice M.told) how.Halted b (seen M.view tree) → ClosesOuterBehind x.at (seen M.view tree) → Fits M.view M.fits tree e → OthersFit M.view M.fits Outer m.desk e → EndsOuter how.Halted c.report report
      → TellsOuter (plan_bounds p) (learned (outer_ended (heeded k.tale ((Outer, x) ∷ [])) how.Halted) [] []) how.Halted [] → Learns c.stops c.stops [] [] → IsCollecting M p d0 s0 (record m { desk = e; collector = record c { tree = tree; report = report; outer = Some how.Halted } })
  halt_step tree report e x none close behind fit others ends tells l =
      let t : Tale = heeded k.tale ((Outer, x) ∷ []) in
      let u : Tale = learned (outer_ended t how.Halted) [] [] in
      let shut = closed M.told p k.tree how.Halted (seen M.view tree) none close in
      record {
        sound = k.sound;
        few_faults = k.few_faults;
        fits_desk = fit;
        its_parts = k.its_parts;
        moves = k.moves;
        parts = k.parts;
        parts_are = k.parts_are;
        progress = closing_root k.progress (exit_of how.Halted);
        tale = u;
        moved = k.moved;
        tree = shut;
        lines = k.lines;
        next = k.next;
        amid = λ e. cc;
        begun = k.begun;
        begun_is = λ z. cc;
        stands = stands_on M.told p (stands_halted M.told p (subst (λ o. StandsOuter p M.told k.moves k.begun c.outer_stream.outer.leased c.outer_stream.outer.tables o k.tale.memory b) none k.stands)) (seen M.view tree) (k.tale.memory || false) (λ z. or_more k.tale.memory z) close.rows close.gives;
        streams = streams_retold M c.hub c.stops.board e (seen M.view tree) m.jobs c.left.items m.receiver k.parts (moved k.progress k.progress.waits k.progress.next k.progress.leased k.progress.tables (Some (exit_of how.Halted))) u
            (streams_stay M c.hub c.stops.board m.desk b m.jobs c.left.items m.receiver k.parts k.progress t (streams_heeded M c.hub c.stops.board m.desk b m.jobs c.left.items m.receiver k.parts k.progress k.tale k.streams ((Outer, x) ∷ [])) c.stops.board e (seen M.view tree) refl others (others_kept 0 b (seen M.view tree) close.guests) close.rows
            (Some how.Halted) (k.tale.set ++ []) (k.tale.seen ++ []) (k.tale.ceased || false) (k.tale.memory || false) k.progress.waits k.progress.next k.progress.leased k.progress.tables (Some (exit_of how.Halted)))
            k.progress.out k.progress.ahead (standing k.progress) k.tale.pulled k.tale.room;
        turns = turns_halted k.progress k.tale u refl refl k.turns;
        places = placed_obeys (plan_bounds p) b (seen M.view tree) k.progress (closing_root k.progress (exit_of how.Halted)) k.tale u close.rows.noted (λ y i. i) (fails_then k.tale u (k.telling.outer_is ∙ none) (λ j h i. i)) k.places Outer x refl (append-nil k.tale.set)
            (outer_behind (seen M.view tree) (closing_root k.progress (exit_of how.Halted)) how.Halted x.at (shut.main.told.root (exit_of how.Halted) refl) behind);
        telling = tale_closes p c.outer c.report c.stops (length m.jobs) s0 m.sink (map fate_of k.parts) t (tale_heeds p c.outer c.report c.stops (length m.jobs) s0 m.sink (map fate_of k.parts) k.tale k.telling ((Outer, x) ∷ [])) how.Halted c.stops report [] [] none l k.telling.seated ends tells;
        room = record { waiting = k.room.waiting; jobs_room = k.room.jobs_room; queue = k.room.queue; few = k.room.few; left = k.room.left };
      }
    where
      or_more : (x : Bool) → x ≡ true → (x || false) ≡ true
      or_more true z = refl
      or_more false z = absurd cc

-- Of a collector of which a stream waits.
module _ {S V F D T : Type 0} {M : Members S V F D T} {p : PlanMeant} {d0 : DepotTold} {s0 : SinkTold} (m : Moment S V F D T) {w : Waiting} {ws : List Waiting} (k : IsCollecting M p d0 s0 (record m { waiting = w ∷ ws })) where
  abbrev z : Collector S V F D T
  z = m.collector

  abbrev a : Seen V
  a = seen M.view z.tree

  count : length k.parts ≡ length k.tale.fates
  count = sym (ap (λ (fs : List tales.Fate). length fs) k.telling.fates_are ∙ map_length fate_of k.parts)

  pub counted : z.next ≡ length k.tale.fates
  counted = k.next ∙ count

  pub below : z.next < stream_limit p
  below = let l = next_below M.told p k.tree in let n = k.next in omega (arith, l, n)

  -- it is the next stream's, and has its line if it is one of the list
  pub its_lease : lessee w.lease ≡ z.next
  its_lease = next_is M.told p k.tree ∙ sym k.next

  pub given_line : length k.parts < length p.streams + length (lines_of k.moves)
  given_line = let l = next_leased M.told p k.tree in let n = k.stands.lines_are in omega (arith, l, n)

  pub line_is : w.path ≡ line_at p (lines_of k.moves) (length k.parts)
  line_is = k.lines.0 ∙ ap (λ i. line_at p (lines_of k.moves) i) (next_is M.told p k.tree)

  pub is_named : IsNamed p z.next w.path
  is_named behind = let g = given_line in let n = k.next in line_there p (lines_of k.moves) (length k.parts) w.path line_is (omega (arith, behind, n)) g

  pub its_spec : (s : StreamSpec) → named_stream p z.next w.path ≡ Some s → spec_of p (lines_of k.moves) (length k.parts) ≡ Some s
  its_spec s is = sym (ap (λ i. named_stream p i w.path) k.next ∙ ap (λ l. named_stream p (length k.parts) l) line_is) ∙ is

  found : (context : ℕ) (x : Stop) → IsAmong (interruption context x) (view_of z.stops).seen → IsFoundSet k.tale context
  found = found_so p z.outer z.report z.stops (length m.jobs) s0 m.sink (map fate_of k.parts) k.tale k.telling

  -- a code that is the stream's own had been set by then, where there is room for one job alone
  own_code : (x : Stop) → IsAmong (interruption (1 + z.next) x) (view_of z.stops).seen → (deque_capacity z.jobs ≡ 1 → IsAmong (interruption (1 + z.next) x) (view_of z.stops).set) → IsOwnCode (plan_bounds p) k.tale (length k.tale.fates)
  own_code x i set =
      let own : 1 + z.next ≡ suc (length k.tale.fates) = let n = counted in omega (arith, n) in (
        subst (λ n. IsFoundSet k.tale n) own (found (1 + z.next) x i),
        λ turn. subst (λ n. IsSet k.tale n) own (x, subst (λ xs. IsAmong (interruption (1 + z.next) x) xs) (sym k.telling.known.set) (set (k.room.jobs_room ∙ eqb-true p.max_open 1 turn))),
      )

  cause_so : MaySkip z → IsFoundSet k.tale 0 ⊎ IsOwnCode (plan_bounds p) k.tale (length k.tale.fates) ⊎ IsOuterStopped k.tale
  cause_so i = ⊎_elim (λ f. inl (found 0 f.0 f.1)) (λ y. inr (⊎_elim (λ f. inl (own_code f.0 f.1 f.2)) (λ h. inr (h.0, k.telling.outer_is ∙ h.1, h.2)) y)) i

  -- a stream more was dealt with, by which the depot came to stand so
  module _ (x : Part V F) where
    pub more_parts : dealt_of (k.moves ++ Dealt x ∷ []) ≡ k.parts ++ x ∷ []
    more_parts = dealt_snoc k.moves (Dealt x) ∙ ap (λ l. l ++ x ∷ []) k.parts_are

    pub moved_on : (now : DepotTold) → Deals M.told p (contents_of k.moves) (lines_of k.moves) (length k.parts) m.depot now x → AreMoved M.told p [] d0 (k.moves ++ Dealt x ∷ []) now
    moved_on now deals = moved_snoc M.told p d0 m.depot now k.moves (Dealt x) k.moved (subst (λ l. Deals M.told p (contents_of k.moves) (lines_of k.moves) (length l) m.depot now x) (sym k.parts_are) deals)

    pub lines_on : HaveLines p (lines_of (k.moves ++ Dealt x ∷ [])) ws
    lines_on = subst (λ l. HaveLines p l ws) (sym (lines_dealt k.moves x)) k.lines.1

    pub dealt_amid : (b : Seen V) → IsAmidAll M.told p (plan_parts p) (opened_of k.moves) (lines_of k.moves) z.outer_stream b → IsAmidAll M.told p (plan_parts p) (opened_of (k.moves ++ Dealt x ∷ [])) (lines_of (k.moves ++ Dealt x ∷ [])) z.outer_stream b
    dealt_amid b h = subst (λ o. IsAmidAll M.told p (plan_parts p) o (lines_of (k.moves ++ Dealt x ∷ [])) z.outer_stream b) (sym (opened_dealt k.moves x)) (subst (λ l. IsAmidAll M.told p (plan_parts p) (opened_of k.moves) l z.outer_stream b) (sym (lines_dealt k.moves x)) h)

    pub fates_on : map fate_of k.parts ++ fate_of x ∷ [] ≡ map fate_of (k.parts ++ x ∷ [])
    fates_on = sym (map_snoc fate_of k.parts x)

  -- its stream was skipped
  pub skip_step : (tree : Tree S V D) (e : D) → PassesOver (FinishesDevice M.told) (lessee w.lease) (rows_covered w.lease) a (seen M.view tree) → Fits M.view M.fits tree e → OthersFit M.view M.fits Outer m.desk e → MaySkip z → (again : ℕ) → length ws ≤ again → (z.outer ≡ None → 0 < again → 1 ≤ length ws)
      → IsCollecting M p d0 s0 (record m { waits = again; waiting = ws; desk = e; collector = record z { tree = tree; next = z.next + 1 } })
  skip_step tree e pass fit others may again few some =
      let x : Part V F = Skipped in
      let more = snoc_length k.parts x in
      let n = k.next in
      record {
        sound = k.sound;
        few_faults = k.few_faults;
        fits_desk = fit;
        its_parts = k.its_parts;
        moves = k.moves ++ Dealt x ∷ [];
        parts = k.parts ++ x ∷ [];
        parts_are = more_parts x;
        progress = skipping k.progress (map waiting_of ws);
        tale = fated k.tale tales.Fate.Skipped;
        moved = moved_on x m.depot (given_line, refl);
        tree = subst (λ i. KeepsTree p M.told again (seen M.view tree) z.outer z.outer_stream ws i (skipping k.progress (map waiting_of ws))) (sym more) (passed M.told p k.tree (seen M.view tree) again pass few some);
        lines = lines_on x;
        next = omega (arith, more, n);
        amid = λ i. dealt_amid x (seen M.view tree) (amid_kept (k.amid i) (seen M.view tree) pass.gives pass.scopes pass.room pass.opened (λ r l m. pass.guests.empty r m));
        begun = k.begun;
        begun_is = k.begun_is;
        stands = stands_dealt M.told p k.moves (stands_on M.told p k.stands (seen M.view tree) k.tale.memory (λ i. i) pass.rows pass.gives) x;
        streams = streams_skipped M z.hub z.stops.board m.desk a m.jobs z.left.items m.receiver k.parts k.progress k.tale k.streams z.stops.board e (seen M.view tree) refl others (others_kept 0 a (seen M.view tree) pass.guests) pass.rows x tales.Fate.Skipped (λ i. cc) (λ i. cc)
            k.tale.outer k.tale.set k.tale.seen k.tale.ceased k.tale.memory (map waiting_of ws) (suc k.progress.next) k.progress.leased k.progress.tables k.progress.root;
        turns = record { pulled = k.turns.pulled; ahead = k.turns.ahead; room = k.turns.room };
        places = placed_same (plan_bounds p) a (seen M.view tree) k.progress (skipping k.progress (map waiting_of ws)) k.tale (fated k.tale tales.Fate.Skipped) pass.rows.noted (λ y i. i) (fails_on k.tale (fated k.tale tales.Fate.Skipped) (λ f i. i) (λ j h i. i)) k.places refl refl;
        telling = subst (λ fs. KeepsTale p z.outer z.report z.stops (length m.jobs) s0 m.sink fs (fated k.tale tales.Fate.Skipped)) (fates_on x) (tale_skips p z.outer z.report z.stops (length m.jobs) s0 m.sink (map fate_of k.parts) k.tale k.telling (cause_so may));
        room = record { waiting = k.room.waiting; jobs_room = k.room.jobs_room; queue = k.room.queue; few = k.room.few; left = let f = k.room.left in omega (arith, f, more) };
      }

  -- there was no memory to make its stream, and what was made for it is kept
  pub miss_step : (tree : Tree S V D) (stops : Stops) (report : Report) (left : Vec (Leftover V) Global) (e : D) {stop : Stop} (vs cs : List Interruption) (now : DepotTold) (ds : List V) (y : Leftover V) (s : StreamSpec) → PassesOver (FinishesDevice M.told) (lessee w.lease) (rows_covered w.lease) a (seen M.view tree)
      → Fits M.view M.fits tree e → OthersFit M.view M.fits Outer m.desk e → stop.why ≡ why.Memory → Marks 0 stop vs cs → Learns z.stops stops vs cs → IsSeated stops → MissesStream z.next z.report report → named_stream p z.next w.path ≡ Some s → MakesUnmade M.told s m.depot now ds → y.shelf ≡ [] → y.unopened ≡ ds
      → left.items ≡ z.left.items ++ y ∷ [] → vec_capacity left ≡ vec_capacity z.left → (again : ℕ) → length ws ≤ again → (z.outer ≡ None → 0 < again → 1 ≤ length ws)
      → IsCollecting M p d0 s0 (record m { waits = again; waiting = ws; depot = now; desk = e; collector = record z { tree = tree; stops = stops; report = report; next = z.next + 1; left = left } })
  miss_step tree stops report left e vs cs now ds y s pass fit others cause mark l seated misses is makes shelf unopened pushed capacity again few some =
      let x : Part V F = Unmade ds in
      let more = snoc_length k.parts x in
      let n = k.next in
      record {
        sound = k.sound;
        few_faults = k.few_faults;
        fits_desk = fit;
        its_parts = k.its_parts;
        moves = k.moves ++ Dealt x ∷ [];
        parts = k.parts ++ x ∷ [];
        parts_are = more_parts x;
        progress = skipping k.progress (map waiting_of ws);
        tale = learned (unmade k.tale) vs cs;
        moved = moved_on x now (s, its_spec s is, given_line, makes);
        tree = subst (λ i. KeepsTree p M.told again (seen M.view tree) z.outer z.outer_stream ws i (skipping k.progress (map waiting_of ws))) (sym more) (passed M.told p k.tree (seen M.view tree) again pass few some);
        lines = lines_on x;
        next = omega (arith, more, n);
        amid = λ i. dealt_amid x (seen M.view tree) (amid_kept (k.amid i) (seen M.view tree) pass.gives pass.scopes pass.room pass.opened (λ r l m. pass.guests.empty r m));
        begun = k.begun;
        begun_is = k.begun_is;
        stands = stands_dealt M.told p k.moves (stands_on M.told p k.stands (seen M.view tree) true (λ i. refl) pass.rows pass.gives) x;
        streams = subst (λ xs. KeepsStreams M z.hub stops.board e (seen M.view tree) m.jobs xs m.receiver (k.parts ++ x ∷ []) (skipping k.progress (map waiting_of ws)) (learned (unmade k.tale) vs cs)) (sym pushed)
            (streams_missed M z.hub z.stops.board m.desk a m.jobs z.left.items m.receiver k.parts k.progress k.tale k.streams stops.board e (seen M.view tree) l.board others (others_kept 0 a (seen M.view tree) pass.guests) pass.rows x tales.Fate.Unmade (λ q. cc) refl ds y refl shelf unopened count k.telling.report_is.ours
            k.tale.outer (k.tale.set ++ vs) (k.tale.seen ++ cs) true true (map waiting_of ws) (suc k.progress.next) k.progress.leased k.progress.tables k.progress.root);
        turns = record { pulled = k.turns.pulled; ahead = k.turns.ahead; room = k.turns.room };
        places = placed_set (plan_bounds p) a (seen M.view tree) k.progress (skipping k.progress (map waiting_of ws)) k.tale (learned (unmade k.tale) vs cs) pass.rows.noted (λ y i. i) (fails_on k.tale (learned (unmade k.tale) vs cs) (λ f i. i) (λ j h i. i)) k.places vs refl refl
            (placed_plain (plan_bounds p) (seen M.view tree) (skipping k.progress (map waiting_of ws)) (learned (unmade k.tale) vs cs) vs cs mark (λ i. let q : why.Memory ≡ why.Fault = sym cause ∙ i in cc) (λ i. let q : why.Memory ≡ why.Until = sym cause ∙ i in cc));
        telling = subst (λ fs. KeepsTale p z.outer report stops (length m.jobs) s0 m.sink fs (learned (unmade k.tale) vs cs)) (fates_on x) (tale_misses p z.outer z.report z.stops (length m.jobs) s0 m.sink (map fate_of k.parts) k.tale k.telling z.next stops report vs cs (sym counted) cause mark l seated misses);
        room = record {
          waiting = k.room.waiting;
          jobs_room = k.room.jobs_room;
          queue = k.room.queue;
          few = k.room.few;
          left = let f = k.room.left in let g = ap (λ (xs : List (Leftover V)). length xs) pushed ∙ snoc_length z.left.items y in let l = below in omega (arith, f, g, more, capacity, l, n);
        };
      }
