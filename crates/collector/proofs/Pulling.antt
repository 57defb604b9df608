-- What a pull of the outer stream keeps.
use Rattle.std.proofs.Common.{◌≡◌, ℕ, suc, ◌+◌, ◌≤◌, ◌||◌, List, [], ◌∷◌, ◌++◌, map, length, Some, None, refl, sym, ◌∙◌, subst, arith}
use Rattle.std.specs.Global.{Global}
use Rattle.std.specs.VecDeque.{deque_capacity}
use Rattle.std.specs.declared.collections.vec_deque.VecDeque.{VecDeque}
use Rattle.chunk_core.specs.Lists.{IsAmong}
use Rattle.chunk_core.specs.Outcomes.{exit_of}
use Rattle.chunk_core.specs.declared.code.How.{How}
use Rattle.chunk_core.specs.declared.code.How.TheVariants as how
use Rattle.device_port.specs.Depot.{DepotTold}
use Rattle.device_port.specs.Sink.{SinkTold}
use Rattle.interrupt_ctx.specs.declared.view.Interruption.{Interruption}
use Rattle.join_report.specs.Calls.{EndsOuter}
use Rattle.join_report.specs.Stopping.{IsSeated, Learns}
use Rattle.join_report.specs.declared.report.Report.{Report}
use Rattle.join_report.specs.declared.stops.Stops.{Stops}
use Rattle.join_tale.specs.Steps.{TellsOuter, learned, outer_ended}
use Rattle.join_tree.specs.Given.{given}
use Rattle.join_tree.specs.Mains.{IsMain}
use Rattle.join_tree.specs.Progress.{Progress, closing_root, standing}
use Rattle.list_rows.specs.Reading.{KeepsRowsBut}
use Rattle.outer_source.specs.Standing.{IsAmidAll, IsSourceAt}
use Rattle.outer_source.specs.declared.next.Next.{Next}
use Rattle.outer_source.specs.declared.next.Next.TheVariants as next
use Rattle.outer_source.specs.declared.source.OuterSource.{OuterSource}
use Rattle.outer_stream.specs.Steps.{KeepsOthers}
use Rattle.pipeline_desc.specs.Meant.{PlanMeant, stream_limit}
use Rattle.pipeline_desc.specs.Places.{outer_rows}
use Rattle.pull_stepper.specs.Held.{FinishesDevice}
use Rattle.res_ledger.specs.Ledger.{Notes}
use Rattle.res_ledger.specs.declared.event.Event.{Event}
use Rattle.res_ledger.specs.declared.event.StreamNo.TheVariants.{Outer}
use Rattle.res_ledger.specs.declared.event.What.{What}
use Rattle.res_ledger.specs.declared.event.What.TheVariants.{Close}
use Rattle.row_seat.specs.Views.{OthersFit}
use Rattle.run_rules.specs.Facts.{is_memory}
use Rattle.scope_tree.specs.Calls.{Seen}
use Rattle.scope_tree.specs.Trees.{Fits, seen}
use Rattle.scope_tree.specs.declared.tree.Tree.{Tree}
use Rattle.dealt_streams.specs.Moves.{AreMoved, Move, dealt_of, lines_of, opened_of}
use Rattle.dealt_streams.specs.Parts.{fate_of}
use Rattle.dealt_streams.specs.Places.{ArePlaced}
use Rattle.dealt_streams.specs.Standing.{StandsOuter, plan_parts}
use Rattle.dealt_streams.specs.Works.{plan_bounds}
use Rattle.collector.specs.declared.collector.Collector.{Collector}
use Rattle.collector.specs.declared.waiting.Waiting.{Waiting}
use Rattle.collector.specs.Collecting.{IsCollecting, Moment}
use Rattle.collector.specs.Members.{Members}
use Rattle.collector.specs.Starting.{ClosesOuter}
use Rattle.collector.specs.Trees.{HaveLines, KeepsTree}
use Rattle.outer_stream.proofs.Keeping.{others_kept, others_then}
use Rattle.collector.proofs.Placed.{fails_then, placed_same, placed_set}
use Rattle.collector.proofs.Standing.{stands_on}
use Rattle.collector.proofs.Steps.{may_lease}
use Rattle.collector.proofs.Streams.{moved, streams_handed, streams_retold}
use Rattle.collector.proofs.Telling.{tale_closes}
use Rattle.collector.proofs.Tree.{root_open, source_at}
use Rattle.collector.proofs.Turns.{IsReady, turns_closed, turns_leased}

-- A pull of a collector's outer stream, whose root is open.
module _ {S V F D T : Type 0} {M : Members S V F D T} {p : PlanMeant} {d0 : DepotTold} {s0 : SinkTold} {m : Moment S V F D T} (k : IsCollecting M p d0 s0 m) where
  abbrev c : Collector S V F D T
  c = m.collector

  abbrev a : Seen V
  a = seen M.view c.tree

  -- it may be pulled
  pub pull_at : (none : c.outer ≡ None) → length m.jobs + length m.waiting ≤ p.max_open → IsSourceAt M.told p (plan_parts p) p.max_open (opened_of k.moves) (lines_of k.moves) k.progress c.outer_stream a
  pull_at none few = source_at M.told p k.tree k.sound (k.amid none) none (may_lease k few)

  -- The outer stream was pulled, and leased for the stream that waits last: so it stands, and so the depot and the main tree do.
  pub record HasLeased (y : OuterSource) (new : DepotTold) (b : Seen V) (w : Waiting) : Type 0 where
    pub moves : List (Move V F)
    pub moved : AreMoved M.told p [] d0 moves new
    pub dealt : dealt_of moves ≡ k.parts
    pub tables : List What
    pub waits : List (ℕ × List ℕ)
    pub tree : KeepsTree p M.told (1 + length m.waiting) b c.outer y (m.waiting ++ w ∷ []) (length k.parts) (record k.progress { waits = waits; leased = suc k.progress.leased; tables = tables; ahead = (k.progress.leased, standing k.progress) ∷ k.progress.ahead })
    pub lines : HaveLines p (lines_of moves) (m.waiting ++ w ∷ [])
    pub amid : IsAmidAll M.told p (plan_parts p) (opened_of moves) (lines_of moves) y b
    pub stands : StandsOuter p M.told moves y.outer.part y.outer.leased y.outer.tables None k.tale.memory b

  -- It was pulled, and is over so, and its root is open.
  pub record HasOver (y : OuterSource) (new : DepotTold) (b : Seen V) (h : How) : Type 0 where
    pub moves : List (Move V F)
    pub moved : AreMoved M.told p [] d0 moves new
    pub dealt : dealt_of moves ≡ k.parts
    pub lines : HaveLines p (lines_of moves) m.waiting
    pub tables : List What
    pub begun : ℕ
    pub main : IsMain (FinishesDevice M.told) p.max_open (stream_limit p) b (record k.progress { tables = tables })
    pub tree : (d : Seen V) → ClosesOuter (FinishesDevice M.told) h b d → KeepsTree p M.told m.waits d (Some h) y m.waiting (length k.parts) (closing_root (record k.progress { tables = tables }) (exit_of h))
    pub stands : StandsOuter p M.told moves begun y.outer.leased y.outer.tables (Some h) (k.tale.memory || is_memory h) b
    pub unhalted : h ≡ how.Halted → ⊥

  -- what came of it
  abbrev pub Drawn : OuterSource → DepotTold → Seen V → Next → Type 0
  Drawn y new b (next.Leased l) = HasLeased y new b (record { lease = l; path = None })
  Drawn y new b (next.Listed l path) = HasLeased y new b (record { lease = l; path = Some path })
  Drawn y new b (next.Over h) = HasOver y new b h

  module _ (ready : IsReady k.progress k.tale) (none : c.outer ≡ None) {y : OuterSource} {new : DepotTold} {b : Seen V} (keeps : KeepsOthers (outer_rows p) a b) (rows : KeepsRowsBut (length p.tables) a.seat b.seat) where
    -- the stream that it leased for waits
    pub leased_step : {w : Waiting} → HasLeased y new b w → (t : Tree S V D) (q : VecDeque Waiting Global) (e : D) → seen M.view t ≡ b → Fits M.view M.fits t e → OthersFit M.view M.fits Outer m.desk e → deque_capacity q ≡ deque_capacity c.waiting
        → IsCollecting M p d0 s0 (record m { waits = 1 + length m.waiting; waiting = m.waiting ++ w ∷ []; depot = new; desk = e; collector = record c { tree = t; outer_stream = y; waiting = q } })
    leased_step {w = w} h t q e same fit others capacity = record {
      sound = k.sound;
      few_faults = k.few_faults;
      fits_desk = fit;
      its_parts = k.its_parts;
      moves = h.moves;
      parts = k.parts;
      parts_are = h.dealt;
      progress = record k.progress { waits = h.waits; leased = suc k.progress.leased; tables = h.tables; ahead = (k.progress.leased, standing k.progress) ∷ k.progress.ahead };
      tale = k.tale;
      moved = h.moved;
      tree = subst (λ z. KeepsTree p M.told (1 + length m.waiting) z c.outer y (m.waiting ++ w ∷ []) (length k.parts) (record k.progress { waits = h.waits; leased = suc k.progress.leased; tables = h.tables; ahead = (k.progress.leased, standing k.progress) ∷ k.progress.ahead })) (sym same) h.tree;
      lines = h.lines;
      next = k.next;
      amid = λ i. subst (λ z. IsAmidAll M.told p (plan_parts p) (opened_of h.moves) (lines_of h.moves) y z) (sym same) h.amid;
      begun = y.outer.part;
      begun_is = λ z. refl;
      stands = subst (λ z. StandsOuter p M.told h.moves y.outer.part y.outer.leased y.outer.tables c.outer k.tale.memory z) (sym same)
          (subst (λ o. StandsOuter p M.told h.moves y.outer.part y.outer.leased y.outer.tables o k.tale.memory b) (sym none) h.stands);
      streams = streams_retold M c.hub c.stops.board e (seen M.view t) m.jobs c.left.items m.receiver k.parts (moved k.progress h.waits k.progress.next (suc k.progress.leased) h.tables k.progress.root) k.tale
          (streams_handed M c.hub c.stops.board m.desk a m.jobs c.left.items m.receiver k.parts k.progress k.tale k.streams c.stops.board e (seen M.view t) refl others (subst (λ z. KeepsOthers (outer_rows p) a z) (sym same) keeps)
          (subst (λ (z : Seen V). (i : ℕ × V) → IsAmong i a.seat.given → IsAmong i z.seat.given) (sym same) rows.given)
          k.tale.outer k.tale.set k.tale.seen k.tale.ceased k.tale.memory h.waits k.progress.next (suc k.progress.leased) h.tables k.progress.root)
          k.progress.out ((k.progress.leased, standing k.progress) ∷ k.progress.ahead) k.progress.last k.tale.pulled k.tale.room;
      turns = turns_leased k.progress k.tale k.turns ready (root_open M.told p k.tree none) h.waits h.tables;
      places = placed_same (plan_bounds p) a (seen M.view t) k.progress (record k.progress { waits = h.waits; leased = suc k.progress.leased; tables = h.tables; ahead = (k.progress.leased, standing k.progress) ∷ k.progress.ahead }) k.tale k.tale
          (subst (λ (z : Seen V). (i : Event) → IsAmong i a.seat.events → IsAmong i z.seat.events) (sym same) rows.noted) (λ i n. n) (λ i n. n) k.places refl refl;
      telling = k.telling;
      room = record { waiting = capacity ∙ k.room.waiting; jobs_room = k.room.jobs_room; queue = k.room.queue; few = k.room.few; left = k.room.left };
    }

    -- it ended, and its root was closed
    pub over_step : {h : How} (o : HasOver y new b h) (t : Tree S V D) (stops : Stops) (report : Report) (e : D) (vs cs : List Interruption) → ClosesOuter (FinishesDevice M.told) h b (seen M.view t) → Fits M.view M.fits t e → OthersFit M.view M.fits Outer m.desk e
        → EndsOuter h c.report report → Learns c.stops stops vs cs → IsSeated stops → TellsOuter (plan_bounds p) (learned (outer_ended k.tale h) vs cs) h vs
        → ((q : Progress V) → Notes (seen M.view t).seat.events Outer (Close 0 (exit_of h)) → ArePlaced (plan_bounds p) (seen M.view t) q (learned (outer_ended k.tale h) vs cs) [] vs) → IsCollecting M p d0 s0 (record m { depot = new; desk = e; collector = record c { tree = t; stops = stops; report = report; outer = Some h; outer_stream = y } })
    over_step {h = h} o t stops report e vs cs close fit others ends l seated tells new_places = record {
      sound = k.sound;
      few_faults = k.few_faults;
      fits_desk = fit;
      its_parts = k.its_parts;
      moves = o.moves;
      parts = k.parts;
      parts_are = o.dealt;
      progress = closing_root (record k.progress { tables = o.tables }) (exit_of h);
      tale = learned (outer_ended k.tale h) vs cs;
      moved = o.moved;
      tree = o.tree (seen M.view t) close;
      lines = o.lines;
      next = k.next;
      amid = λ z. cc;
      begun = o.begun;
      begun_is = λ z. cc;
      stands = stands_on M.told p o.stands (seen M.view t) (k.tale.memory || is_memory h) (λ z. z) close.rows close.gives;
      streams = streams_retold M c.hub stops.board e (seen M.view t) m.jobs c.left.items m.receiver k.parts (moved k.progress k.progress.waits k.progress.next k.progress.leased o.tables (Some (exit_of h))) (learned (outer_ended k.tale h) vs cs)
          (streams_handed M c.hub c.stops.board m.desk a m.jobs c.left.items m.receiver k.parts k.progress k.tale k.streams stops.board e (seen M.view t) l.board others (others_then 0 (outer_rows p) a b (seen M.view t) (omega arith) keeps (others_kept 0 b (seen M.view t) close.guests))
          (λ i r. close.rows.given i (rows.given i r))
          (Some h) (k.tale.set ++ vs) (k.tale.seen ++ cs) (k.tale.ceased || is_memory h) (k.tale.memory || is_memory h) k.progress.waits k.progress.next k.progress.leased o.tables (Some (exit_of h)))
          k.progress.out k.progress.ahead (standing k.progress) k.tale.pulled k.tale.room;
      turns = turns_closed k.progress k.tale k.turns ready (learned (outer_ended k.tale h) vs cs) refl refl o.tables (exit_of h);
      places =
          let q = closing_root (record k.progress { tables = o.tables }) (exit_of h) in
          let u = learned (outer_ended k.tale h) vs cs in
          placed_set (plan_bounds p) a (seen M.view t) k.progress q k.tale u (λ i n. close.rows.noted i (rows.noted i n)) (λ i n. n) (fails_then k.tale u (k.telling.outer_is ∙ none) (λ j g n. n)) k.places vs refl refl (new_places q ((o.tree (seen M.view t) close).main.told.root (exit_of h) refl));
      telling = tale_closes p c.outer c.report c.stops (length m.jobs) s0 m.sink (map fate_of k.parts) k.tale k.telling h stops report vs cs none l seated ends tells;
      room = record { waiting = k.room.waiting; jobs_room = k.room.jobs_room; queue = k.room.queue; few = k.room.few; left = k.room.left };
    }
