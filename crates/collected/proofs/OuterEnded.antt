-- How the outer stream of a plan's collector ended, and how it gave its streams.
use Rattle.std.proofs.Common.{◌≡◌, ℕ, zero, suc, ◌+◌, ◌-◌, ◌<◌, ◌≤◌, true, false, List, ◌∷◌, ◌++◌, inl, inr, length, take, Option, Some, None, Result, IfSome, option_map, refl, sym, ◌∙◌, ap, subst, ⊎_elim, arith}
use Rattle.std.proofs.lemmas.Bool.{cases_lt, false≢true}
use Rattle.std.proofs.lemmas.List.{length-map, length-take}
use Rattle.std.specs.List.{range_with_len}
use Rattle.std.specs.Prelude.{IsSome, option_to_list}
use Rattle.channel_bounded.specs.Ends.{ReceiverSeen}
use Rattle.chunk_core.specs.Lists.{IsAmong}
use Rattle.chunk_core.specs.Outcomes.{Cut, Done, Fault}
use Rattle.chunk_core.specs.Tables.{Values}
use Rattle.chunk_core.specs.declared.code.Code.{Code}
use Rattle.chunk_core.specs.declared.code.How.{How}
use Rattle.chunk_core.specs.declared.code.How.TheVariants as how
use Rattle.chunk_core.proofs.Each.{each_among}
use Rattle.device_port.specs.Device.{Place, DeviceTold, to_read}
use Rattle.device_port.specs.Depot.{DepotTold}
use Rattle.join_tale.specs.Tales.{Tale}
use Rattle.join_tree.specs.Given.{given}
use Rattle.join_tree.specs.Settled.{Settles}
use Rattle.outer_tables.specs.declared.not_read.NotRead.{NotRead}
use Rattle.outer_tables.specs.declared.not_read.NotRead.TheVariants as why
use Rattle.pipeline_desc.specs.Meant.{PlanMeant, stream_limit}
use Rattle.pipeline_desc.specs.Sound.{IsSoundPlan}
use Rattle.pipeline_desc.specs.declared.listing.ListSpec.{ListSpec}
use Rattle.pipeline_desc.specs.declared.table.TableSpec.{TableSpec}
use Rattle.plan_work.specs.Listed.{ListRuns, lister_of}
use Rattle.plan_work.specs.Plans.{opener_of}
use Rattle.pull_turns.specs.Piping.{StateMeaning}
use Rattle.res_ledger.specs.Ledger.{IsAcquired, IsLeased, Notes}
use Rattle.res_ledger.specs.declared.event.Event.{Event}
use Rattle.res_ledger.specs.declared.event.StreamNo.TheVariants.{Outer}
use Rattle.res_ledger.specs.declared.event.What.TheVariants.{Lease}
use Rattle.res_ledger.proofs.Permuted.{among_range}
use Rattle.row_seat.specs.declared.view.View.{View}
use Rattle.run_rules.specs.Facts.{IsOver}
use Rattle.run_rules.specs.Homes.{IsBack, is_tried}
use Rattle.run_rules.specs.Giving.{GivesAll, GivesInOrder}
use Rattle.run_rules.specs.Listing.{IsListing, IsReadInTime}
use Rattle.run_rules.specs.Opening.{AreTablesRead, AreUntried, IsListFault, IsListLeft, IsListRead, IsListed, IsOuterEnd, IsTableRead, ListFails, ListIsDone, ListIsLeft, OuterHasRun}
use Rattle.run_rules.specs.Work as work
use Rattle.run_rules.specs.Work.{Lister, Opener, Part, RunRecord, all_parts, list_parts, list_row, opener_places, rows_up_to}
use Rattle.scope_tree.specs.Calls.{Seen}
use Rattle.joined_runs.specs.Devices.{MadeComeBack}
use Rattle.joined_runs.proofs.PlanRows.{outer_count}
use Rattle.collected.specs.Collected.{IsCollected}
use Rattle.dealt_streams.specs.Moves.{Tried, contents_in, tried_of}
use Rattle.dealt_streams.specs.Standing.{EndsRead, IsStoppedBy, list_end, plan_parts, streams_before}
use Rattle.dealt_streams.specs.declared.leftover.Leftover.{Leftover}
use Rattle.collected.proofs.Core.{W, ahead_bare, lines', rows}
use Rattle.collected.proofs.HeldRows.{count, parts_so, without}
use Rattle.collected.proofs.ListEnded.{ListSo, list_so}
use Rattle.collected.proofs.ListTold.{done_read, listing_done}
use Rattle.collected.proofs.MovedRows.{rows_after}
use Rattle.collected.proofs.OuterRead.{all_given, all_tried, behind_bare, failed_so, few, left_so, outs, parts_read, read_all, read_so}
use Rattle.collected.proofs.PartsRead.{before_from, if_less, reads, reads_are, rows_given, rows_turns, streams_past}
use Rattle.collected.proofs.PlanParts.{AreParts, top}
use Rattle.collected.proofs.PlanPlaces.{list_there, outer_below}
use Rattle.collected.proofs.TableRuns.{CameOut, IsBare, each_idle, each_read}
use Rattle.collected.proofs.ToldRows.{back_so, bare_is}

some_how : (g h : How) → Some g ≡ Some h → g ≡ h
some_how g h e = cc

some_list : {A : Type 0} (o : Option A) → IsSome o → (x : A) × (o ≡ Some x)
some_list (Some x) h = (x, refl)
some_list None h = absurd (false≢true h)

-- what holds where there is a list
if_list : (p : PlanMeant) (lines : List (List ℕ)) (Q : Lister → Type 0) → ((l : ListSpec) → p.list ≡ Some l → Q (lister_of p lines l)) → IfSome (option_map (lister_of p lines) p.list) Q
if_list p lines Q h = by_list p.list refl
  where
    by_list : (o : Option ListSpec) → p.list ≡ o → IfSome (option_map (lister_of p lines) o) Q
    by_list None e = tt
    by_list (Some l) e = h l e

module _ {S V F : Type 0} (view : S → View V) (told : V → DeviceTold) (P : Values → StateMeaning F) (p : PlanMeant) (limits : IsSoundPlan p) (d0 now : DepotTold) (outer : How) (b : Seen V) (left : List (Leftover V)) (receiver : ReceiverSeen) (tale : Tale) (h : IsCollected view told P p d0 now outer b left receiver tale)
    (L : List Event) (s : Settles p.max_open (stream_limit p) b h.progress L) where
  abbrev pub lines'' : List (List ℕ)
  lines'' = lines' view told P p limits d0 now outer b left receiver tale h L s

  abbrev pub op : Opener
  op = opener_of p lines''

  abbrev pub n' : ℕ
  n' = count view told P p limits d0 now outer b left receiver tale h

  abbrev W' : ℕ → DeviceTold
  W' = W view told P p limits d0 now outer b left receiver tale h L s

  abbrev all' : List Place
  all' = rows view told P p limits d0 now outer b left receiver tale h L s

  abbrev tables : List (Tried V)
  tables = tried_of h.moves

  abbrev lack : Option NotRead
  lack = h.stands.lack

  abbrev T : ℕ
  T = length p.tables

  -- how many tables were read, and up to which row some were tried
  abbrev m : ℕ
  m = length (contents_in tables)

  abbrev e : ℕ
  e = rows_after 0 tables

  abbrev groups : List Part
  groups = top p lines'' limits n' refl (without view told P p limits d0 now outer b left receiver tale h) ∷ op.groups

  parts : AreParts T (length p.streams) 0 0 (plan_parts p) groups
  parts = parts_so view told P p limits d0 now outer b left receiver tale h

  pub tables_are : length op.tables ≡ T
  tables_are = length-map p.tables (λ (t : TableSpec). to_read t.path)

  -- it gave its streams in order
  pub order : GivesInOrder op n' L
  order = (h.stands.noted.0, ap (λ E. E ++ h.stands.noted.0) s.gave ∙ h.stands.noted.1)

  leased_so : (j : ℕ) → j < h.progress.leased → IsLeased L j
  leased_so j l = let x = s.told.leases j l in (Outer, x.0, x.1)

  module _ (last : DepotTold) (came : MadeComeBack d0 last all' W') (c : RunRecord) (is_old : c.depot_old ≡ d0) (is_last : c.depot_new ≡ last) (events : c.events ≡ L) where
    outs' : (x : Tried V) → IsAmong x tables → CameOut op c W' x.row x.paths x.contents x.lack
    outs' = outs view told P p limits d0 now outer b left receiver tale h L s last came c is_old is_last events

    read_so' : (i : ℕ) → i < m → IsTableRead op c i (W' i)
    read_so' = read_so view told P p limits d0 now outer b left receiver tale h L s last came c is_old is_last events

    read_all' : T ≤ m → AreTablesRead op c W' 0 op.tables
    read_all' = read_all view told P p limits d0 now outer b left receiver tale h L s last came c is_old is_last events

    all_tried' : lack ≡ None → length tables ≡ length (plan_parts p) → T ≤ m
    all_tried' = all_tried view told P p limits d0 now outer b left receiver tale h L s last came c is_old is_last events

    behind_bare' : (i : ℕ) → e ≤ i → i < T → IsBare W' i
    behind_bare' = behind_bare view told P p limits d0 now outer b left receiver tale h L s last came c is_old is_last events

    -- The list.

    row_is : list_row op ≡ T
    row_is = tables_are

    -- how it came out
    list_of : (l : ListSpec) → p.list ≡ Some l → ListSo view told P p limits d0 now outer b left receiver tale h L s l (list_end p lack (Some outer))
    list_of l is = list_so view told P p limits d0 now outer b left receiver tale h L s l is

    -- what is told of the device of its row
    at_row : (Q : DeviceTold → Type 0) → Q (W' T) → Q (W' (list_row op))
    at_row Q q = subst (λ k. Q (W' k)) (sym row_is) q

    list_below : (l : ListSpec) → p.list ≡ Some l → T < length all'
    list_below l is = let one = (list_there p lines'' l is).1 in let o = outer_below p lines'' in omega (arith, one, o)

    list_left : list_end p lack (Some outer) ≡ Cut → ListIsLeft op ListRuns n' c W'
    list_left cut =
        if_list p lines'' (λ l. IsListLeft l (ListRuns (W' (list_row op))) (W' (list_row op))) (λ l is.
        let x = list_of l is in
        let u = x.unfailed cut in
        at_row (λ d. IsListLeft (lister_of p lines'' l) (ListRuns d) d) (record { lines = subst (λ g. IsListing (lister_of p lines'' l) (ListRuns (W' T)) g) cut x.listing; opening = u.0; reading = u.1 }))

    list_done : list_end p lack (Some outer) ≡ Done → ListIsDone op ListRuns n' c W'
    list_done is_done =
        if_list p lines'' (λ l. IsListRead c (list_row op) (W' (list_row op)) × IsListing l (ListRuns (W' (list_row op))) Done) (λ l is.
        let x = list_of l is in
        let listing = subst (λ g. IsListing (lister_of p lines'' l) (ListRuns (W' T)) g) is_done x.listing in
        let run = listing_done (lister_of p lines'' l) (ListRuns (W' T)) listing in
        let r = done_read (W' T) run.0 run.1 in
        let back = back_so view told P p limits d0 now outer b left receiver tale h L s last came c is_old is_last events T (list_below l is) (⊎_elim (λ cut. absurd (not_both (sym is_done ∙ cut))) (λ some. some) x.seen) in
        subst (λ k. IsListRead c k (W' k) × IsListing (lister_of p lines'' l) (ListRuns (W' k)) Done) (sym row_is) (
          record { acquired = subst (λ E. IsAcquired E T) (sym events) (x.acquired is_done); back = back; ended = r.0; unfailed = r.1; whole = r.2 },
          listing,
        ))
      where
        not_both : Done ≡ Cut → ⊥
        not_both q = cc

    list_fails : (f : Code) → list_end p lack (Some outer) ≡ Fault f → (l : ListSpec) → p.list ≡ Some l → ListFails op ListRuns n' c W' f
    list_fails f end l is =
        let x = list_of l is in
        let back = back_so view told P p limits d0 now outer b left receiver tale h L s last came c is_old is_last events T (list_below l is) (⊎_elim (λ cut. absurd (not_both (sym end ∙ cut))) (λ some. some) x.seen) in (
          lister_of p lines'' l,
          ap (option_map (lister_of p lines'')) is,
          at_row (λ d. IsBack c d) back,
          at_row (λ d. IsListing (lister_of p lines'' l) (ListRuns d) (Fault f)) (subst (λ g. IsListing (lister_of p lines'' l) (ListRuns (W' T)) g) end x.listing),
          at_row (λ d. IsListFault d f) (x.told_so f end),
        )
      where
        not_both : Fault f ≡ Cut → ⊥
        not_both q = cc

    -- How it ended.

    -- what tells how it ended where it could read all tables that it tried
    ended_so : lack ≡ None → EndsRead p lines'' (given b.seat) outer
    ended_so none = h.stands.ended none

    came_read : lack ≡ None → (g : How) → outer ≡ g → IsOuterEnd op ListRuns n' c W' g
    came_read none how.Done is =
        let gave = subst (λ x. EndsRead p lines'' (given b.seat) x) is (ended_so none) in
        let f = (few view told P p limits d0 now outer b left receiver tale h L s last came c is_old is_last events).1 none in
        let a = all_given view told P p limits d0 now outer b left receiver tale h L s last came c is_old is_last events gave in (
          read_all' (omega (arith, a, f)),
          subst (λ E. GivesAll op n' E) (sym events) (s.gave ∙ gave),
          list_done (ap (λ o. list_end p o (Some outer)) none ∙ ap (λ x. list_end p None (Some x)) is),
        )
    came_read none (how.Fault f) is =
        let l = some_list p.list (subst (λ x. EndsRead p lines'' (given b.seat) x) is (ended_so none)) in
        let end : list_end p lack (Some outer) ≡ Fault f = ap (λ o. list_end p o (Some outer)) none ∙ ap (λ x. list_end p None (Some x)) is in
        let r = (list_of l.0 l.1).stopped f end in
        let o = h.stands.behind r.0 r.1 in
        inr (read_all' (all_tried' none o.1), list_fails f end l.0 l.1)
    came_read none how.Halted is = (parts_read view told P p limits d0 now outer b left receiver tale h L s last came c is_old is_last events none, list_left (ap (λ o. list_end p o (Some outer)) none ∙ ap (λ x. list_end p None (Some x)) is))
    came_read none how.Memory is = (left_so view told P p limits d0 now outer b left receiver tale h L s last came c is_old is_last events (inl none), list_left (ap (λ o. list_end p o (Some outer)) none ∙ ap (λ x. list_end p None (Some x)) is))

    came_stopped : (w : NotRead) → lack ≡ Some w → IsOuterEnd op ListRuns n' c W' outer
    came_stopped w is =
        let u = (h.stands.unread w is).1 in
        by_cause w is (subst (λ g. IsStoppedBy w tale.memory g) (some_how u.0 outer (sym u.1)) u.2)
      where
        cut_end : (v : NotRead) → lack ≡ Some v → list_end p lack (Some outer) ≡ Cut
        cut_end v q = ap (λ o. list_end p o (Some outer)) q

        by_cause : (v : NotRead) → lack ≡ Some v → IsStoppedBy v tale.memory outer → IsOuterEnd op ListRuns n' c W' outer
        by_cause (why.Fault f) q cause = subst (λ g. IsOuterEnd op ListRuns n' c W' g) (sym cause) (inl (failed_so view told P p limits d0 now outer b left receiver tale h L s last came c is_old is_last events f q, list_left (cut_end (why.Fault f) q)))
        by_cause why.Memory q cause = subst (λ g. IsOuterEnd op ListRuns n' c W' g) (sym cause.0) (left_so view told P p limits d0 now outer b left receiver tale h L s last came c is_old is_last events (inr q), list_left (cut_end why.Memory q))

    came_so : IsOuterEnd op ListRuns n' c W' outer
    came_so = by_lack lack refl
      where
        by_lack : (o : Option NotRead) → lack ≡ o → IsOuterEnd op ListRuns n' c W' outer
        by_lack None q = came_read q outer refl
        by_lack (Some w) q = came_stopped w q

    -- How it gave its streams.

    before_same : (i : ℕ) → before_from 0 (plan_parts p) i ≡ streams_before (plan_parts p) i
    before_same zero = refl
    before_same (suc i) = refl

    begun_is : reads tables ≡ h.begun
    begun_is = by_lack lack refl
      where
        by_lack : (o : Option NotRead) → lack ≡ o → reads tables ≡ h.begun
        by_lack None q = let r = (reads_are p.tables (plan_parts p) tables lack h.stands.tried).0 q in let k = (h.stands.read q).0 in omega (arith, r, k)
        by_lack (Some w) q = let r = (reads_are p.tables (plan_parts p) tables lack h.stands.tried).1 w q in let k = (h.stands.unread w q).0 in omega (arith, r, k)

    gives_so : (j z : ℕ) → Notes c.events Outer (Lease j z) → AreTablesRead op c W' 0 (take (rows_up_to 0 0 (all_parts op n') j) op.tables)
    gives_so j z k =
        let leased = s.told.outer (Lease j z) (subst (λ E. Notes E Outer (Lease j z)) events k) in
        let up = rows_up_to 0 0 (all_parts op n') j in
        let taken = length-take up op.tables in
        each_read op c W' 0 (take up op.tables) (λ i low high.
        let u = rows_given p.tables op c W' T all' (length p.streams) refl h.progress.leased (list_parts op.list) 0 0 (plan_parts p) groups tables lack parts h.stands.tried outs' (λ q a l. subst (λ x. h.progress.leased ≤ x) (sym (before_same q)) (h.stands.ahead q (omega (arith, a, begun_is)) l)) j (omega arith) leased i (omega arith) (omega (arith, high, taken, tables_are)) (omega (arith, high, taken)) in
        read_so' i (omega (arith, u)))

    list_tried : (l : ListSpec) → p.list ≡ Some l → is_tried (W' T) ≡ true → (T ≤ m) × (length p.streams ≤ h.progress.leased)
    list_tried l is t =
        let r = (list_of l is).tried t in
        let o = h.stands.behind r.0 r.1 in
        (all_tried' o.0 o.1, o.2)

    turns_so : (r j : ℕ) → r < length (opener_places op) → is_tried (W' r) ≡ true → j < work.streams_before 0 0 (all_parts op n') r → IsLeased c.events j
    turns_so r j below' tried before = subst (λ E. IsLeased E j) (sym events) (leased_so j (⊎_elim (λ (l : r < T). of_table l) (λ (l : T ≤ r). of_list l) (cases_lt r T)))
      where
        of_table : r < T → j < h.progress.leased
        of_table l =
            let t = rows_turns p.tables op c W' T all' (length p.streams) refl h.progress.leased (list_parts op.list) 0 0 (plan_parts p) groups tables lack parts h.stands.tried (λ q k. subst (λ x. x ≤ h.progress.leased) (sym (before_same q)) (h.stands.turns q k)) (λ i low high. (behind_bare' i low high).0) r (omega arith) l tried in
            omega (arith, t, before)

        past : T ≤ r → work.streams_before 0 0 (all_parts op n') r ≡ work.streams_before T (length p.streams) (list_parts op.list) r
        past l = streams_past T (length p.streams) 0 0 (plan_parts p) groups (list_parts op.list) parts r l

        by_list : T ≤ r → (o : Option ListSpec) → p.list ≡ o → j < h.progress.leased
        by_list l None is =
            let count = outer_count p lines'' in
            let none = ap (λ (o : Option ListSpec). length p.tables + length (option_to_list o)) is in
            absurd (omega (arith, below', l, count, none))
        by_list l (Some spec) is =
            let count = outer_count p lines'' in
            let one = (list_there p lines'' spec is).1 in
            let here_it : r ≡ T = omega (arith, below', l, count, one) in
            let t = list_tried spec is (subst (λ k. is_tried (W' k) ≡ true) here_it tried) in
            let enough = t.1 in
            let q = past l in
            let last_part = ap (λ (o : Option ListSpec). work.streams_before T (length p.streams) (list_parts (option_map (lister_of p lines'') o)) r) is in
            let first = if_less r (T + 1) (length p.streams) (length p.streams + length lines'') (omega (arith, here_it)) in
            omega (arith, before, q, last_part, first, enough)

        of_list : T ≤ r → j < h.progress.leased
        of_list l = by_list l p.list refl

    behind_so : IfSome op.list (λ l. is_tried (W' (list_row op)) ≡ true → AreTablesRead op c W' 0 op.tables)
    behind_so = if_list p lines'' (λ l. is_tried (W' (list_row op)) ≡ true → AreTablesRead op c W' 0 op.tables) (λ l is t. read_all' (list_tried l is (subst (λ k. is_tried (W' k) ≡ true) row_is t)).0)

    listed_so : IfSome op.list (λ l. IsListed l n' c.events (W' (list_row op)))
    listed_so =
        if_list p lines'' (λ l. IsListed l n' c.events (W' (list_row op))) (λ l is. record {
          leased = each_among (λ k. IsLeased c.events k) (range_with_len (n' - length lines'') (length lines'')) (λ k i.
              let a = among_range (n' - length lines'') (length lines'') k i in
              let low = a.0 in
              let high = a.1 in
              let count = h.stands.lines_are in
              subst (λ E. IsLeased E k) (sym events) (leased_so k (omega (arith, low, high, count))));
          in_time = at_row (λ d. IsReadInTime (lister_of p lines'' l) d) (list_of l is).in_time;
        })

    not_over : IsOver how.Halted → ⊥
    not_over o = ⊎_elim (λ q. let z : how.Halted ≡ how.Done = q in let y : ⊥ = cc in y) (λ f. let z : how.Halted ≡ how.Fault f.0 = f.1 in let y : ⊥ = cc in y) o

    nobody_so : p.take ≡ Some 0 → AreUntried W' 0 (opener_places op) × ¬ (IsOver outer)
    nobody_so none = (each_idle op c W' 0 (opener_places op) untried, λ o. not_over (subst (λ x. IsOver x) (some_how outer how.Halted (h.stands.nobody none).2) o))
      where
        untried : (i : ℕ) → 0 ≤ i → i < 0 + length (opener_places op) → is_tried (W' i) ≡ false
        untried i low high =
            let count = outer_count p lines'' in
            let none_tried = ap (λ (xs : List (Tried V)). rows_after 0 xs) (h.stands.nobody none).0 in
            let none_opened = ap (λ (xs : List (Result V NotRead)). length xs) (h.stands.nobody none).1 in
            ⊎_elim
            (λ (l : i < T). (behind_bare' i (omega (arith, none_tried)) l).0)
            (λ (l : T ≤ i). (bare_is view told P p limits d0 now outer b left receiver tale h L s i (omega (arith, high, count)) (ahead_bare view told P p limits d0 now outer b left receiver tale h L s i (inr (inl (omega (arith, l, none_opened), omega (arith, high, count)))))).0.0)
            (cases_lt i T)

    -- so the outer stream ran
    pub outer_run : OuterHasRun op ListRuns n' c W' outer
    outer_run = record {
      end = came_so;
      gives = gives_so;
      turns = turns_so;
      behind = behind_so;
      listed = listed_so;
      nobody = nobody_so;
    }
