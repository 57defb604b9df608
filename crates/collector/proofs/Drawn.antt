-- What came of a pull of the outer stream.
use Rattle.std.proofs.Common.{◌≡◌, ℕ, ◌+◌, ◌-◌, ◌<◌, ◌≤◌, ◌||◌, List, [], ◌∷◌, ◌++◌, append-nil, filter, length, map, Option, Some, None, inl, refl, sym, ap, ◌∙◌, subst, arith}
use Rattle.std.specs.List.{AllByRecursion}
use Rattle.std.specs.Prelude.{IfSome, IsSome, Result, Ok, Err, option_to_list}
use Rattle.chunk_core.specs.Lists.{IsAmong}
use Rattle.chunk_core.specs.Lists.IsAmong.{here}
use Rattle.chunk_core.specs.declared.code.How.{How}
use Rattle.chunk_core.specs.declared.code.How.TheVariants as how
use Rattle.chunk_core.proofs.Distinct.{test_distinct}
use Rattle.chunk_core.proofs.Each.{each_snoc}
use Rattle.chunk_core.proofs.Filters.{among_filter}
use Rattle.chunk_core.proofs.Members.{among_left, among_nil}
use Rattle.device_port.specs.Depot.{DepotTold}
use Rattle.device_port.specs.Sink.{SinkTold}
use Rattle.join_tree.specs.Given.{GivesMore, given}
use Rattle.join_tree.specs.Notes.{is_table_note}
use Rattle.join_tree.specs.Progress.{Progress, reading}
use Rattle.outer_source.specs.Lists.{HasListed, list_closing}
use Rattle.outer_source.specs.Pulls.{BeginsList, ComesOfList, Draws, EndsList, FailsList, GivesListed, OpensList, PullsAll}
use Rattle.outer_source.specs.Pulls.BeginsList.{begun as list_begun, unopened as list_unopened}
use Rattle.outer_source.specs.Pulls.Draws.{behind as draws_behind, leased as draws_leased, listed as draws_listed, over as draws_over}
use Rattle.outer_source.specs.Standing.{IsAmidAll, IsAmidParts, IsSourceAt, events_left, list_left as list_events}
use Rattle.outer_source.specs.Standing.IsAmidAll.{in_list, in_parts}
use Rattle.outer_source.specs.declared.next.Next.{Next}
use Rattle.outer_source.specs.declared.next.Next.TheVariants as next
use Rattle.outer_source.specs.declared.source.OuterSource.{OuterSource}
use Rattle.outer_stream.specs.Parts.{Gave, closing, left_of}
use Rattle.outer_stream.specs.Parts.Gave.{left}
use Rattle.outer_stream.specs.Pulls.{Ends, Goes, Leases, how_unread}
use Rattle.outer_stream.specs.declared.next.OuterPart.{OuterPart}
use Rattle.outer_stream.specs.declared.outer.Outer.{Outer as Parts_outer}
use Rattle.outer_tables.specs.Devices.{OpensDevice}
use Rattle.outer_tables.specs.declared.not_read.NotRead.{NotRead}
use Rattle.pipeline_desc.specs.Meant.{PlanMeant, stream_limit}
use Rattle.pipeline_desc.specs.Places.{outer_rows}
use Rattle.pipeline_desc.specs.declared.listing.ListSpec.{ListSpec}
use Rattle.res_ledger.specs.declared.event.What.{What}
use Rattle.res_ledger.specs.declared.event.What.TheVariants.{Acquire, Lease as Lease_note, Open}
use Rattle.run_rules.specs.Facts.{is_memory}
use Rattle.scope_tree.specs.Calls.{Seen}
use Rattle.scope_tree.specs.Trees.{seen}
use Rattle.scope_tree.specs.Visible.{lessee, rows_covered}
use Rattle.scope_tree.specs.declared.leases.Lease.{Lease}
use Rattle.dealt_streams.specs.Moves.{AreMoved, Move, dealt_of, lines_of, opened_of, tried_of}
use Rattle.dealt_streams.specs.Moves.Move.{Gave as Gave_line, Opened}
use Rattle.dealt_streams.specs.Parts.{line_at}
use Rattle.dealt_streams.specs.Standing.{StandsBy, StandsList, StandsOuter, group_part, list_end, plan_parts, streams_before}
use Rattle.collector.specs.declared.collector.Collector.{Collector}
use Rattle.collector.specs.declared.waiting.Waiting.{Waiting}
use Rattle.collector.specs.Collecting.{IsCollecting, Moment}
use Rattle.collector.specs.Members.{Members}
use Rattle.collector.specs.Trees.{HaveLines}
use Rattle.collector.proofs.Drawing.{TreeAt, notes_on, tree_begins, tree_closes, tree_ends, tree_leases, tree_reads}
use Rattle.collector.proofs.Gaving.{gave_behind, gave_rows, no_closed, no_lease}
use Rattle.collector.proofs.ListGiven.{AreLow, acquired_there, amid_noted, end_is, ended_noted, ended_read, failed_noted, has_on, list_failed, list_held, moved_few, rows_but, stands_behind, tried_low}
use Rattle.collector.proofs.ListSteps.{as_moves, closing_notes, done_so, failed_read, listed_yet, no_closing_row, no_row, none_left, over_unhalted, own_row, unopened_yet, unread_unhalted}
use Rattle.collector.proofs.Lists.{snoc_length}
use Rattle.collector.proofs.Moving.{dealt_more, dealt_snoc, lines_more, lines_snoc, moved_append, moved_snoc, opened_more, opened_snoc, reads, tried_more, tried_snoc}
use Rattle.collector.proofs.Naming.{line_older, line_of_last, own_line}
use Rattle.collector.proofs.PlanParts.{plan_follow, streams_all}
use Rattle.collector.proofs.Pulled.{append_same, has_read, stands_begun, stands_leased, stands_over}
use Rattle.collector.proofs.Pulling.{Drawn, HasLeased, HasOver, pull_at}
use Rattle.collector.proofs.Standing.{HasRead, ReadOn, has_kept, none_some}
use Rattle.collector.proofs.Tree.{table_rows, waiting_below}
use Rattle.collector.proofs.Visible.{follow_below}

module _ {S V F D T' : Type 0} {M : Members S V F D T'} {p : PlanMeant} {d0 : DepotTold} {s0 : SinkTold} {m : Moment S V F D T'} (k : IsCollecting M p d0 s0 m) (none : m.collector.outer ≡ None) where
  abbrev c : Collector S V F D T'
  c = m.collector

  abbrev a : Seen V
  a = seen M.view c.tree

  abbrev x : OuterSource
  x = c.outer_stream

  abbrev parts : List OuterPart
  parts = plan_parts p

  abbrev T : ℕ
  T = length p.tables

  abbrev n : ℕ
  n = length p.streams

  open_yet : StandsOuter p M.told k.moves k.begun x.outer.leased x.outer.tables None k.tale.memory a
  open_yet = subst (λ o. StandsOuter p M.told k.moves k.begun x.outer.leased x.outer.tables o k.tale.memory a) none k.stands

  wanted : p.take ≡ Some 0 → ⊥
  wanted w = none_some how.Halted (open_yet.nobody w).2

  -- The list is open, and these lines were given streams.
  module _ (l : ListSpec) (is : p.list ≡ Some l) (first : V) (lines : List (List ℕ)) (moves : List (Move V F)) (new : DepotTold) (moved : AreMoved M.told p [] d0 moves new) (dealt : dealt_of moves ≡ k.parts) (opened : opened_of moves ≡ Ok first ∷ []) (lines_are : lines_of moves ≡ lines) (named : HaveLines p lines m.waiting)
      (z : Parts_outer) (b : Seen V) (has : HasRead p (Ok first ∷ []) (tried_of moves) (length parts) z.tables b) (low : AreLow T (tried_of moves)) (count : z.leased ≡ n + length lines) (tables : List What) (spent : ℕ) (tree : TreeAt M.told p m.waits b spent z.leased m.waiting (length k.parts) (record k.progress { tables = tables })) where
    one_row : T + 1 ≤ outer_rows p
    one_row = let e = ap (λ (o : Option ListSpec). T + length (option_to_list o)) is in omega (arith, e)

    drawn_line : {y : OuterSource} {d : Seen V} (lease : Lease) (line : List ℕ) → GivesListed M.told p parts p.max_open l first lines (record k.progress { tables = tables }) z y b d lease line → HasLeased k y new d (record { lease = lease; path = Some line })
    drawn_line {y = y} {d = d} lease line gl =
        let w : Waiting = record { lease = lease; path = Some line } in
        let all = lines ++ line ∷ [] in
        let after = moves ++ Gave_line line ∷ [] in
        let am = gl.amid.amid in
        let one : y.outer.leased ≡ z.leased + 1 = ap (λ (q : Parts_outer). q.leased) gl.now in
        let dicts : y.outer.tables ≡ z.tables = ap (λ (q : Parts_outer). q.tables) gl.now in
        let size = snoc_length lines line in
        let opened' : opened_of after ≡ Ok first ∷ [] = opened_snoc moves (Gave_line line) ∙ (append-nil (opened_of moves) ∙ opened) in
        let lines' : lines_of after ≡ all = lines_snoc moves (Gave_line line) ∙ ap (λ ls. ls ++ line ∷ []) lines_are in
        let tried' : tried_of after ≡ tried_of moves = tried_snoc moves (Gave_line line) ∙ append-nil (tried_of moves) in
        let table = table_rows (outer_rows p) (outer_rows p) (rows_covered lease) (omega arith) (test_distinct (rows_covered lease) lease.distinct) gl.low in
        let has' : HasRead p (Ok first ∷ []) (tried_of moves) (length parts) z.tables d = has_on p (Ok first ∷ []) b d gl.kept low (Lease_note z.leased (length parts) ∷ []) gl.gives (λ r s i. absurd (no_lease z.leased (length parts) r s i)) (λ r i. i) has in
        let free = none_left p y.outer am.part am.table in
        let reader = ap (λ (o : Option _). list_events p.list o) gl.amid.is in
        let stands' = stands_behind M.told p {lines = all} y.outer.leased None k.tale.memory d k.sound (subst (λ ds. HasRead p (Ok first ∷ []) (tried_of moves) (length parts) ds d) (sym dicts) has') gl.main.by (omega (arith, one, count)) (omega (arith, one, count, size))
        (amid_noted p k.sound l is all am.parts_given (given d.seat) am.gave)
        (subst (λ o. IfSome o (λ q. StandsList p M.told q (Ok first ∷ []) all (list_end p None None) d)) (sym is) (list_held M.told p d gl.main.by (inl am.held) am.has (length parts) (subst (λ E. IsAmong (Acquire T (length parts)) E) (sym am.gave) (acquired_there am.before (length parts) T n (length all)))))
        tt wanted in
        record {
          moves = after;
          moved = moved_snoc M.told p d0 new new moves (Gave_line line) moved refl;
          dealt = dealt_snoc moves (Gave_line line) ∙ (append-nil (dealt_of moves) ∙ dealt);
          tables = tables;
          waits = k.progress.waits ++ (k.progress.leased, rows_covered lease) ∷ [];
          tree = tree_ends M.told p (tree_leases M.told p tree d w (length parts) gl.main gl.less gl.lessee_is gl.keeps gl.gives gl.paid table) c.outer y none (omega (arith, one)) (omega (arith, free, reader));
          lines = subst (λ ls. HaveLines p ls (m.waiting ++ w ∷ [])) (sym lines')
              (each_snoc (λ (v : Waiting). v.path ≡ line_at p all (lessee v.lease)) m.waiting w (older m.waiting (subst (λ j. AllByRecursion (λ (v : Waiting). lessee v.lease < j) m.waiting) (sym k.tree.leased_is ∙ tree.leased_is) (waiting_below M.told p k.tree)) named) (line_of_last p lines line (lessee lease) (gl.lessee_is ∙ count)));
          amid = subst (λ o. IsAmidAll M.told p parts o (lines_of after) y d) (sym opened') (subst (λ ls. IsAmidAll M.told p parts (Ok first ∷ []) ls y d) (sym lines') (in_list l first is gl.amid));
          stands = as_moves M.told p after (tried_of moves) (Ok first ∷ []) all tried' opened' lines' (subst (λ i. StandsBy p M.told (tried_of moves) (Ok first ∷ []) all i y.outer.leased y.outer.tables None k.tale.memory d) (sym am.part) stands');
        }
      where
        older : (ws : List Waiting) → AllByRecursion (λ v. lessee v.lease < z.leased) ws → HaveLines p lines ws → HaveLines p (lines ++ line ∷ []) ws
        older [] less h = tt
        older (v ∷ ws) less h = (h.0 ∙ line_older p lines line (lessee v.lease) (let q = less.0 in omega (arith, q, count)), older ws less.1 h.1)

    drawn_end : {y : OuterSource} {d : Seen V} (h : How) → EndsList M.told p parts p.max_open l first lines (record k.progress { tables = tables }) z y b d h → HasOver k y new d h
    drawn_end {y = y} {d = d} h e =
        let has' : HasRead p (Ok first ∷ []) (tried_of moves) (length parts) z.tables d = has_on p (Ok first ∷ []) b d e.kept low (list_closing (length parts) h) e.gives (λ r s i. absurd (no_closing_row (length (map group_part p.groups)) h r s i)) (λ r i. i) has in
        let same = e.leased in
        let there : IsAmong (Acquire T (length parts)) (given d.seat) = subst (λ E. IsAmong (Acquire T (length parts)) E) (sym e.gave) (among_left (list_closing (length parts) h) (acquired_there e.before (length parts) T n (length lines))) in
        let stands' = stands_behind M.told p {lines = lines} y.outer.leased (Some h) (k.tale.memory || is_memory h) d k.sound (subst (λ ds. HasRead p (Ok first ∷ []) (tried_of moves) (length parts) ds d) (sym e.tables) has') e.main.by (omega (arith, same, count)) (omega (arith, same, count))
        (ended_noted p k.sound l is lines e.parts_given h (given d.seat) e.gave)
        (subst (λ o. IfSome o (λ q. StandsList p M.told q (Ok first ∷ []) lines (list_end p None (Some h)) d)) (sym is) (list_held M.told p d e.main.by e.held (subst (λ g. HasListed M.told p l first e.now lines g) (end_is p h) e.has) (length parts) there))
        (ended_read p k.sound l is lines e.parts_given h (given d.seat) e.gave) wanted in
        record {
          moves = moves;
          moved = moved;
          dealt = dealt;
          lines = subst (λ ls. HaveLines p ls m.waiting) (sym lines_are) named;
          tables = tables ++ list_closing (length parts) h;
          begun = length parts;
          main = e.main;
          tree = λ f close. tree_closes M.told p tree y d f h (list_closing (length parts) h) e.main e.leased {u = 0} (omega arith) e.keeps (let t = e.paid in omega (arith, t)) close;
          stands = as_moves M.told p moves (tried_of moves) (Ok first ∷ []) lines refl opened lines_are stands';
          unhalted = e.over;
        }

    drawn_of_list : (y : OuterSource) (d : Seen V) (result : Next) (more : List (List ℕ)) → ComesOfList M.told p parts p.max_open l first lines (record k.progress { tables = tables }) z y b d result more → Drawn k y new d result
    drawn_of_list y d (next.Leased lease) more h = absurd h
    drawn_of_list y d (next.Listed lease line) more h = drawn_line lease line h.1
    drawn_of_list y d (next.Over h) more e = drawn_end h e.1

  -- Parts were begun.
  module _ {between : Parts_outer} {depot : DepotTold} {mid : Seen V} (g : Goes M.told parts p.tables n p.max_open (stream_limit p) k.progress x.outer between m.depot depot a mid) where
    on : (r : ReadOn M.told p (opened_of k.moves) k.moves (tried_of k.moves) between m.depot depot mid) × StandsBy p M.told (tried_of k.moves ++ r.more) (opened_of k.moves) (lines_of k.moves) between.part between.leased between.tables None k.tale.memory mid
    on = stands_begun M.told p k.sound open_yet k.moves (sym (k.begun_is none)) refl refl k.tree.main.by g.now.main.by g.went g.rows g.now.amid g.leased

    abbrev moves1 : List (Move V F)
    moves1 = k.moves ++ reads on.0.more

    stands1 : StandsOuter p M.told moves1 between.part between.leased between.tables None k.tale.memory mid
    stands1 = as_moves M.told p moves1 (tried_of k.moves ++ on.0.more) (opened_of k.moves) (lines_of k.moves) (tried_more k.moves on.0.more) (opened_more k.moves on.0.more) (lines_more k.moves on.0.more) on.1

    moved1 : AreMoved M.told p [] d0 moves1 depot
    moved1 = moved_append M.told p [] d0 m.depot depot k.moves (reads on.0.more) k.moved on.0.moved

    dealt1 : dealt_of moves1 ≡ k.parts
    dealt1 = dealt_more k.moves on.0.more ∙ k.parts_are

    tree1 : TreeAt M.told p m.waits mid (events_left p parts (record x { outer = between })) x.outer.leased m.waiting (length k.parts) (reading k.progress g.noted)
    tree1 = tree_reads M.told p (tree_begins M.told p k.tree none) mid g.noted (events_left p parts (record x { outer = between })) g.now.main {u = T} (omega arith) g.keeps g.now.noted (let t = g.paid in omega (arith, t))

    -- the next described stream was leased for
    drawn_leased : opened_of k.moves ≡ [] → lines_of k.moves ≡ [] → {y : OuterSource} {b : Seen V} {l : Lease} → Leases M.told parts p.tables n p.max_open (stream_limit p) (reading k.progress g.noted) between y.outer mid b l → IsAmidParts M.told p parts y b → HasLeased k y depot b (record { lease = l; path = None })
    drawn_leased eo el {y = y} {b = b} {l = l} le amid =
        let w : Waiting = record { lease = l; path = None } in
        let one : y.outer.leased ≡ between.leased + 1 = ap (λ (q : Parts_outer). q.leased) le.now in
        let left' : left_of parts T y.outer ≡ left_of parts T between = ap (λ (q : Parts_outer). left_of parts T q) le.now in
        let lists : list_events p.list y.list ≡ list_events p.list x.list = ap (λ (o : Option _). list_events p.list o) (amid.unopened ∙ sym (unopened_yet (k.amid none) eo)) in
        let same = g.leased in
        let its : lessee l ≡ x.outer.leased = le.lessee ∙ same in
        let less = le.less in
        let table = table_rows T (outer_rows p) (rows_covered l) (omega arith) (test_distinct (rows_covered l) l.distinct) low_rows in
        record {
          moves = moves1;
          moved = moved1;
          dealt = dealt1;
          tables = k.progress.tables ++ g.noted;
          waits = k.progress.waits ++ (k.progress.leased, rows_covered l) ∷ [];
          tree = tree_ends M.told p (tree_leases M.told p tree1 b w between.scope le.main (omega (arith, less, same)) its le.keeps (subst (λ i. GivesMore (Lease_note i between.scope ∷ []) mid b) same le.gives) le.paid table) c.outer y none (omega (arith, one, same)) (omega (arith, left', lists));
          lines = each_snoc (λ (v : Waiting). v.path ≡ line_at p (lines_of moves1) (lessee v.lease)) m.waiting w (subst (λ ls. HaveLines p ls m.waiting) (sym (lines_more k.moves on.0.more)) k.lines) (sym (own_line p (lines_of moves1) (lessee l) (omega (arith, its, less, same))));
          amid = subst (λ o. IsAmidAll M.told p parts o (lines_of moves1) y b) (sym (opened_more k.moves on.0.more ∙ eo)) (subst (λ ls. IsAmidAll M.told p parts [] ls y b) (sym (lines_more k.moves on.0.more ∙ el)) (in_parts amid));
          stands = stands_leased M.told p k.sound stands1 {x = between} refl refl refl g.now.main.by g.now.amid le.main.by le;
        }
      where
        low_rows : (r : ℕ) → IsAmong r (rows_covered l) → r < T
        low_rows r i =
            let e = le.lent r i in
            let noted = (among_filter is_table_note (Acquire r e.0) (given mid.seat) (subst (λ E. IsAmong (Acquire r e.0) E) g.now.noted e.1)).0 in
            let low = gave_rows g.now.amid.gave r e.0 noted in
            let high = follow_below between.table between.behind _ T n g.now.amid.follow in
            omega (arith, low, high)

    -- it was over by its parts
    drawn_over : {y : OuterSource} {b : Seen V} {new : DepotTold} {h : How} (en : Ends M.told parts p.tables n p.max_open (stream_limit p) (reading k.progress g.noted) between y.outer depot new mid b h) → (h ≡ how.Done → p.list ≡ None) → HasOver k y new b h
    drawn_over {y = y} {b = b} {new = new} {h = h} en unlisted =
        let last = stands_over M.told p k.sound stands1 {x = between} refl refl refl g.now.main.by g.now.amid en en.main.by moves1 unlisted in
        let moves2 = moves1 ++ reads last.more in
        record {
          moves = moves2;
          moved = moved_append M.told p [] d0 depot new moves1 (reads last.more) moved1 last.moved;
          dealt = dealt_more moves1 last.more ∙ dealt1;
          lines = subst (λ ls. HaveLines p ls m.waiting) (sym (lines_more moves1 last.more ∙ lines_more k.moves on.0.more)) k.lines;
          tables = (k.progress.tables ++ g.noted) ++ en.noted;
          begun = between.part;
          main = en.main;
          tree = λ d close. tree_closes M.told p tree1 y b d h en.noted en.main (en.leased ∙ g.leased) {u = T} (omega arith) en.keeps (let t = en.paid in omega (arith, t)) close;
          stands = as_moves M.told p moves2 (tried_of moves1 ++ last.more) (opened_of moves1) (lines_of moves1) (tried_more moves1 last.more) (opened_more moves1 last.more) (lines_more moves1 last.more) last.stands;
          unhalted = over_unhalted en.cause;
        }

    -- all parts were given, and behind them the list was tried
    module _ (eo : opened_of k.moves ≡ []) (el : lines_of k.moves ≡ []) (l : ListSpec) (is : p.list ≡ Some l) {last : Parts_outer} {made : DepotTold} {b : Seen V} (en : Ends M.told parts p.tables n p.max_open (stream_limit p) (reading k.progress g.noted) between last depot made mid b how.Done) where
      by_end : (between.part ≡ length parts) × (between.leased ≡ n) × (last ≡ record between { scope = 0 }) × (made ≡ depot) × GivesMore (closing between.scope) mid b
      by_end = done_so en.cause refl

      eo1 : opened_of moves1 ≡ []
      eo1 = opened_more k.moves on.0.more ∙ eo

      el1 : lines_of moves1 ≡ []
      el1 = lines_more k.moves on.0.more ∙ el

      low1 : AreLow T (tried_of moves1)
      low1 = tried_low p.tables n 0 0 parts (plan_follow p k.sound) (has_read M.told p k.sound stands1 g.now.main.by).tried (moved_few M.told p [] d0 moves1 depot moved1)

      dicts2 : last.tables ≡ between.tables
      dicts2 = ap (λ (q : Parts_outer). q.tables) by_end.2

      leased2 : last.leased ≡ n
      leased2 = ap (λ (q : Parts_outer). q.leased) by_end.2 ∙ by_end.1

      has2 : HasRead p [] (tried_of moves1) (length parts) last.tables b
      has2 = subst (λ ds. HasRead p [] (tried_of moves1) (length parts) ds b) (sym dicts2)
          (subst (λ i. HasRead p [] (tried_of moves1) i between.tables b) by_end.0
          (subst (λ o. HasRead p o (tried_of moves1) between.part between.tables b) eo1
          (has_kept M.told p mid b en.rows (closing between.scope) by_end.4 (λ r s i. no_closed between.scope r s i) (has_read M.told p k.sound stands1 g.now.main.by))))

      given2 : Gave parts (length parts) 0 between.table n n (given b.seat)
      given2 =
          let amid = g.now.amid.gave in
          let behind : between.behind ≡ n = (gave_behind amid).0 ∙ (ap (λ i. streams_before parts i) by_end.0 ∙ streams_all parts T n (plan_follow p k.sound)) in
          subst (λ E. Gave parts (length parts) 0 between.table n n E) (sym by_end.4)
          (left (subst (λ j. Gave parts (length parts) between.scope between.table n j (given mid.seat)) by_end.1
          (subst (λ i. Gave parts (length parts) between.scope between.table i between.leased (given mid.seat)) behind
          (subst (λ i. Gave parts i between.scope between.table between.behind between.leased (given mid.seat)) by_end.0 amid))))

      four : list_events p.list x.list ≡ 4
      four =
          let e = ap (λ (o : Option _). list_events p.list o) (unopened_yet (k.amid none) eo) in
          let f = ap (λ (o : Option ListSpec). length (option_to_list o)) is in
          omega (arith, e, f)

      closed2 : en.noted ≡ closing between.scope
      closed2 = append_same (given mid.seat) en.noted (closing between.scope) (sym en.gives ∙ by_end.4)

      tree2 : TreeAt M.told p m.waits b 4 x.outer.leased m.waiting (length k.parts) (reading (reading k.progress g.noted) en.noted)
      tree2 = tree_reads M.told p tree1 b en.noted 4 en.main {u = T} (omega arith) en.keeps (notes_on M.told p tree1 b en.noted en.gives (ap (λ E. filter is_table_note E) closed2 ∙ (closing_notes between.scope ∙ sym closed2))) (let t = en.paid in let f = four in omega (arith, t, f))

      same2 : last.leased ≡ x.outer.leased
      same2 = en.leased ∙ g.leased

      named2 : HaveLines p [] m.waiting
      named2 = subst (λ ls. HaveLines p ls m.waiting) el k.lines

      -- its device wasn't opened
      drawn_failed : {y : OuterSource} {new : DepotTold} {d : Seen V} (f : NotRead) → FailsList M.told p parts p.max_open l f (reading (reading k.progress g.noted) en.noted) last y.outer made new b d → HasOver k y new d (how_unread f)
      drawn_failed {y = y} {new = new} {d = d} f fl =
          let after = moves1 ++ Opened (Err f) ∷ [] in
          let opened' : opened_of after ≡ Err f ∷ [] = opened_snoc moves1 (Opened (Err f)) ∙ ap (λ os. os ++ Err f ∷ []) eo1 in
          let lines' : lines_of after ≡ [] = lines_snoc moves1 (Opened (Err f)) ∙ (append-nil (lines_of moves1) ∙ el1) in
          let tried' : tried_of after ≡ tried_of moves1 = tried_snoc moves1 (Opened (Err f)) ∙ append-nil (tried_of moves1) in
          let dicts : y.outer.tables ≡ last.tables = ap (λ (q : Parts_outer). q.tables) fl.now in
          let leased : y.outer.leased ≡ last.leased = ap (λ (q : Parts_outer). q.leased) fl.now in
          let has' : HasRead p (Err f ∷ []) (tried_of moves1) (length parts) last.tables d = has_on p (Err f ∷ []) b d (rows_but T b d fl.rows) low1 (Open (length parts) 0 ∷ []) fl.gives (λ r s i. absurd (no_row (length parts) r s i)) (λ r i. absurd (among_nil i.1.1)) has2 in
          let all = leased2 in
          let stands' = stands_behind M.told p {lines = []} y.outer.leased (Some (how_unread f)) (k.tale.memory || is_memory (how_unread f)) d k.sound (subst (λ ds. HasRead p (Err f ∷ []) (tried_of moves1) (length parts) ds d) (sym dicts) has') fl.main.by (omega (arith, leased, all)) (omega (arith, leased, all))
          (failed_noted p k.sound l is [] given2 (given d.seat) fl.gives)
          (subst (λ o. IfSome o (λ q. StandsList p M.told q (Err f ∷ []) [] (list_end p None (Some (how_unread f))) d)) (sym is) (list_failed M.told p l d f (how_unread f) refl))
          (failed_read p [] (given d.seat) (subst (λ o. IsSome o) (sym is) refl) f) wanted in
          record {
            moves = after;
            moved = moved_snoc M.told p d0 depot new moves1 (Opened (Err f)) moved1 (l, is, subst (λ (e : DepotTold). OpensDevice M.told l.path e new (Err f)) by_end.3 fl.opens);
            dealt = dealt_snoc moves1 (Opened (Err f)) ∙ (append-nil (dealt_of moves1) ∙ dealt1);
            lines = subst (λ ls. HaveLines p ls m.waiting) (sym lines') named2;
            tables = ((k.progress.tables ++ g.noted) ++ en.noted) ++ Open (length parts) 0 ∷ [];
            begun = length parts;
            main = fl.main;
            tree = λ e close. tree_closes M.told p tree2 y d e (how_unread f) (Open (length parts) 0 ∷ []) fl.main (leased ∙ same2) {u = 0} (omega arith) fl.keeps (let t = fl.paid in omega (arith, t)) close;
            stands = as_moves M.told p after (tried_of moves1) (Err f ∷ []) [] tried' opened' lines' stands';
            unhalted = unread_unhalted f;
          }

      -- or it was, and a line or an end came
      drawn_first : (y : OuterSource) {new : DepotTold} {z : Parts_outer} {c2 : Seen V} (d : Seen V) (first : V) → OpensList M.told p parts p.max_open l first (reading (reading k.progress g.noted) en.noted) last z made new b c2 → (result : Next) (more : List (List ℕ))
          → ComesOfList M.told p parts p.max_open l first [] (reading (reading (reading k.progress g.noted) en.noted) (Open (length parts) 0 ∷ (Acquire T (length parts) ∷ []))) z y c2 d result more → Drawn k y new d result
      drawn_first y {new = new} {z = z} {c2 = c2} d first op result more come =
          let E = Open (length parts) 0 ∷ (Acquire T (length parts) ∷ []) in
          let after = moves1 ++ Opened (Ok first) ∷ [] in
          let opened' : opened_of after ≡ Ok first ∷ [] = opened_snoc moves1 (Opened (Ok first)) ∙ ap (λ os. os ++ Ok first ∷ []) eo1 in
          let lines' : lines_of after ≡ [] = lines_snoc moves1 (Opened (Ok first)) ∙ (append-nil (lines_of moves1) ∙ el1) in
          let tried' : tried_of after ≡ tried_of moves1 = tried_snoc moves1 (Opened (Ok first)) ∙ append-nil (tried_of moves1) in
          let dicts : z.tables ≡ last.tables = ap (λ (q : Parts_outer). q.tables) op.now in
          let leased : z.leased ≡ last.leased = ap (λ (q : Parts_outer). q.leased) op.now in
          let row : T + 1 ≤ outer_rows p = (let e = ap (λ (o : Option ListSpec). T + length (option_to_list o)) is in omega (arith, e)) in
          let has' : HasRead p (Ok first ∷ []) (tried_of moves1) (length parts) last.tables c2 = has_on p (Ok first ∷ []) b c2 (rows_but T b c2 op.rows) low1 E op.gives (λ r s i. (own_row (length parts) T r s i, (first, here []))) (λ r i. absurd (among_nil i.1.1)) has2 in
          let has3 : HasRead p (Ok first ∷ []) (tried_of after) (length parts) z.tables c2 = subst (λ xs. HasRead p (Ok first ∷ []) xs (length parts) z.tables c2) (sym tried') (subst (λ ds. HasRead p (Ok first ∷ []) (tried_of moves1) (length parts) ds c2) (sym dicts) has') in
          let tree3 = tree_reads M.told p tree2 c2 E 0 op.main row op.keeps (notes_on M.told p tree2 c2 E op.gives refl) (let t = op.paid in omega (arith, t)) in
          let all = leased2 in
          drawn_of_list l is first [] after new (moved_snoc M.told p d0 depot new moves1 (Opened (Ok first)) moved1 (l, is, subst (λ (e : DepotTold). OpensDevice M.told l.path e new (Ok first)) by_end.3 op.opens)) (dealt_snoc moves1 (Opened (Ok first)) ∙ (append-nil (dealt_of moves1) ∙ dealt1)) opened' lines' named2
          z c2 has3 (subst (λ xs. AreLow T xs) (sym tried') low1) (omega (arith, leased, all)) (((k.progress.tables ++ g.noted) ++ en.noted) ++ E) 0 (subst (λ i. TreeAt M.told p m.waits c2 0 i m.waiting (length k.parts) (reading (reading (reading k.progress g.noted) en.noted) E)) (sym (leased ∙ same2)) tree3) y d result more come

      drawn_behind : {y : OuterSource} {new : DepotTold} {d : Seen V} {result : Next} {opened : List (Result V NotRead)} {more : List (List ℕ)} → BeginsList M.told p parts p.max_open l (reading (reading k.progress g.noted) en.noted) last y made new b d result opened more → Drawn k y new d result
      drawn_behind (list_unopened f fl) = drawn_failed f fl
      drawn_behind {y = y} {d = d} {result = result} {more = more} (list_begun first op come) = drawn_first y d first op result more come

  -- the list was in use
  drawn_listed : (l : ListSpec) (first : V) (lines : List (List ℕ)) → p.list ≡ Some l → opened_of k.moves ≡ Ok first ∷ [] → lines_of k.moves ≡ lines → (y : OuterSource) {new : DepotTold} (b : Seen V) → new ≡ m.depot → (result : Next) (more : List (List ℕ)) → ComesOfList M.told p parts p.max_open l first lines k.progress x.outer y a b result more → Drawn k y new b result
  drawn_listed l first lines is eo el y {new = new} b depot result more come =
      let amid = listed_yet (k.amid none) first eo in
      let has = has_read M.told p k.sound open_yet k.tree.main.by in
      let has' : HasRead p (Ok first ∷ []) (tried_of k.moves) (length parts) x.outer.tables a = subst (λ o. HasRead p o (tried_of k.moves) (length parts) x.outer.tables a) eo (subst (λ i. HasRead p (opened_of k.moves) (tried_of k.moves) i x.outer.tables a) (sym (k.begun_is none) ∙ amid.0) has) in
      let low = tried_low p.tables n 0 0 parts (plan_follow p k.sound) has.tried (moved_few M.told p [] d0 k.moves m.depot k.moved) in
      drawn_of_list l is first lines k.moves new (subst (λ (e : DepotTold). AreMoved M.told p [] d0 k.moves e) (sym depot) k.moved) k.parts_are eo el (subst (λ ls. HaveLines p ls m.waiting) el k.lines) x.outer a has' low (amid.1 ∙ ap (λ ls. n + length ls) el) k.progress.tables (events_left p parts x) (tree_begins M.told p k.tree none) y b result more come

  pub drawn : {openings : List (Result V NotRead)} {lines : List (List ℕ)} → opened_of k.moves ≡ openings → lines_of k.moves ≡ lines → {y : OuterSource} {new : DepotTold} {b : Seen V} {result : Next} {opened : List (Result V NotRead)} {more : List (List ℕ)} → Draws M.told p parts p.max_open k.progress x y m.depot new a b openings lines result opened more → Drawn k y new b result
  drawn eo el (draws_leased g le amid) = drawn_leased g eo el le amid
  drawn eo el (draws_over g en unlisted) = drawn_over g en unlisted
  drawn eo el (draws_behind l is g en bl) = drawn_behind g eo el l is en bl
  drawn eo el {y = y} {b = b} {result = result} {more = more} (draws_listed {lines = lines} l first is depot come) = drawn_listed l first lines is eo el y b depot result more come

  -- the parts that the collector has are those of its plan
  module _ (few : length m.jobs + length m.waiting ≤ p.max_open) {own : List OuterPart} (is : own ≡ plan_parts p) where
    pub source_of : IsSourceAt M.told p own p.max_open (opened_of k.moves) (lines_of k.moves) k.progress x a
    source_of = subst (λ ps. IsSourceAt M.told p ps p.max_open (opened_of k.moves) (lines_of k.moves) k.progress x a) (sym is) (pull_at k none few)

    pub pulled_by : {y : OuterSource} {new : DepotTold} {b : Seen V} {result : Next} → ((width : ℕ) (openings : List (Result V NotRead)) (lines : List (List ℕ)) (q : Progress V) → IsSourceAt M.told p own width openings lines q x a → PullsAll M.told p own width openings lines q x y m.depot new a b result)
        → PullsAll M.told p parts p.max_open (opened_of k.moves) (lines_of k.moves) k.progress x y m.depot new a b result
    pulled_by {y = y} {new = new} {b = b} {result = result} pulls = subst (λ ps. PullsAll M.told p ps p.max_open (opened_of k.moves) (lines_of k.moves) k.progress x y m.depot new a b result) is (pulls p.max_open (opened_of k.moves) (lines_of k.moves) k.progress source_of)

    -- so it came out
    pub came : {y : OuterSource} {new : DepotTold} {b : Seen V} {result : Next} → ((width : ℕ) (openings : List (Result V NotRead)) (lines : List (List ℕ)) (q : Progress V) → IsSourceAt M.told p own width openings lines q x a → PullsAll M.told p own width openings lines q x y m.depot new a b result) → Drawn k y new b result
    came pulls = drawn refl refl (pulled_by pulls).draws
