-- What is told of the outer stream's rows, once all devices went back.
use Rattle.std.proofs.Common.{◌≡◌, ◌⊎◌, ℕ, ◌+◌, ◌-◌, ◌<◌, ◌≤◌, nat_eq, List, [], ◌∷◌, inl, inr, map, length, Some, Result, Ok, Err, IfSome, refl, sym, ◌∙◌, ap, subst, ⊎_elim, arith}
use Rattle.std.proofs.lemmas.Bool.{cases_lt}
use Rattle.channel_bounded.specs.Ends.{ReceiverSeen}
use Rattle.chunk_core.specs.Lists.{IsAmong}
use Rattle.chunk_core.specs.Lists.IsAmong.{here, there}
use Rattle.chunk_core.specs.Tables.{Values}
use Rattle.chunk_core.specs.declared.code.How.{How}
use Rattle.csv_pipes.specs.Dictionaries.{table_value}
use Rattle.device_port.specs.Device.{Place, DeviceTold, faults_of}
use Rattle.device_port.specs.Depot.{DepotTold}
use Rattle.join_tale.specs.Tales.{Tale}
use Rattle.join_tree.specs.Settled.{Settles}
use Rattle.outer_tables.specs.Outcomes.{values_in}
use Rattle.outer_tables.specs.declared.not_read.NotRead.{NotRead}
use Rattle.outer_tables.specs.declared.not_read.NotRead.TheVariants as why
use Rattle.pipeline_desc.specs.Meant.{PlanMeant, stream_limit}
use Rattle.pipeline_desc.specs.Places.{outer_rows}
use Rattle.pipeline_desc.specs.Sound.{IsSoundPlan}
use Rattle.plan_work.specs.Plans.{opener_of}
use Rattle.pull_turns.specs.Piping.{StateMeaning}
use Rattle.res_ledger.specs.Ledger.{IsAcquired}
use Rattle.res_ledger.specs.declared.event.Event.{Event}
use Rattle.res_ledger.specs.declared.event.StreamNo.TheVariants.{Outer}
use Rattle.row_seat.specs.declared.view.View.{View}
use Rattle.run_rules.specs.Devices.{came_back}
use Rattle.run_rules.specs.Homes.{IsBack, is_tried}
use Rattle.run_rules.specs.Work.{RunRecord}
use Rattle.scope_tree.specs.Calls.{Seen}
use Rattle.chunk_core.proofs.Each.{among_permuted}
use Rattle.chunk_core.proofs.Members.{among_left}
use Rattle.res_ledger.proofs.Mapped.{map_among}
use Rattle.joined_runs.specs.Devices.{MadeComeBack}
use Rattle.joined_runs.specs.Shares.{AreTablesKept}
use Rattle.joined_runs.proofs.MadeRows.{at_some, back_is, tried_made}
use Rattle.collected.specs.Collected.{IsCollected}
use Rattle.dealt_streams.specs.Moves.{Tried, opened_of, tried_of}
use Rattle.dealt_streams.specs.declared.leftover.Leftover.{Leftover}
use Rattle.collected.proofs.Core.{IsRow', W, ahead_bare, homes', lent_ends, lines', order', row_closed, rows}
use Rattle.collected.proofs.HeldRows.{IsListHeld, list_held, opens_at, outer_held, outer_row_is, table_held, tries_at}
use Rattle.collected.proofs.HeldRows.IsOuter.{table, list}
use Rattle.collected.proofs.MovedRows.{AreInOrder, order_within, rows_after}
use Rattle.collected.proofs.OwnRows.{bare_home}
use Rattle.collected.proofs.PlanPlaces.{list_there, outer_below}
use Rattle.collected.proofs.Rows.{IsIn, bare_at, bare_row}
use Rattle.collected.proofs.Rested.{lent_of}
use Rattle.collected.proofs.Shelves.{guests}
use Rattle.collected.proofs.Standing.{zs}
use Rattle.collected.proofs.TableEnds.{acquired_so, outer_final}
use Rattle.collected.proofs.TableHomes.{back_failed, back_unopened, came_out, closed_field, read_devices, values_told}
use Rattle.collected.proofs.TableRuns.{CameOut, IsBare}

-- a row that tables were tried at is one of these
tried_in : {V : Type 0} (T : ℕ) (all : List Place) (t : ℕ) (xs : List (Tried V)) → AreInOrder T all t xs → (r : ℕ) → t ≤ r → r < rows_after t xs → (x : Tried V) × IsAmong x xs × IsIn x.row (x.row + length x.paths) r
tried_in T all t [] order r low high = absurd (omega (arith, low, high))
tried_in T all t (x ∷ xs) order r low high =
    let row = order.0 in
    ⊎_elim
    (λ (l : r < t + length x.paths). (x, here xs, (omega (arith, low, row), omega (arith, l, row))))
    (λ (l : t + length x.paths ≤ r). let y = tried_in T all (t + length x.paths) xs order.4 r l high in (y.0, there x y.1, y.2))
    (cases_lt r (t + length x.paths))

module _ {S V F : Type 0} (view : S → View V) (told : V → DeviceTold) (P : Values → StateMeaning F) (p : PlanMeant) (limits : IsSoundPlan p) (d0 now : DepotTold) (outer : How) (b : Seen V) (left : List (Leftover V)) (receiver : ReceiverSeen) (tale : Tale) (h : IsCollected view told P p d0 now outer b left receiver tale)
    (L : List Event) (s : Settles p.max_open (stream_limit p) b h.progress L) where
  abbrev W' : ℕ → DeviceTold
  W' = W view told P p limits d0 now outer b left receiver tale h L s

  abbrev all' : List Place
  all' = rows view told P p limits d0 now outer b left receiver tale h L s

  abbrev IsRow'' : ℕ → V → Type 0
  IsRow'' = IsRow' view told P p limits d0 now outer b left receiver tale h L s

  -- the device of a row that was opened
  pub row_opened : (r : ℕ) (d : V) → IsRow'' r d → (W' r).opens ≡ 1
  row_opened r d i = let c = row_closed view told P p limits d0 now outer b left receiver tale h L s r d i in ap (λ (x : DeviceTold). x.opens) c.is ∙ (closed_field (λ x. x.opens) c.exit c.ok (told d) refl refl ∙ (outer_held i).open'.opens)

  -- nothing was done on a row for which no device was made
  pub bare_is : (r : ℕ) → r < outer_rows p → W' r ≡ bare_row all' d0.files r → IsBare W' r × ((W' r).opens ≡ 0)
  bare_is r l e =
      let few = outer_below p (lines' view told P p limits d0 now outer b left receiver tale h L s) in
      let q = at_some all' r (omega (arith, l, few)) in
      let is : W' r ≡ bare_home d0.files q.0 = e ∙ bare_at all' d0.files r q.0 q.1 in
      ((ap is_tried is, (ap (λ (x : DeviceTold). x.open_faults) is, ap (λ (x : DeviceTold). x.read_faults) is)), ap (λ (x : DeviceTold). x.opens) is)

  -- the rows behind the tables that were tried
  pub tables_behind : (r : ℕ) → rows_after 0 (tried_of h.moves) ≤ r → r < length p.tables → IsBare W' r × ((W' r).opens ≡ 0)
  tables_behind r low high = bare_is r (omega (arith, high)) (ahead_bare view told P p limits d0 now outer b left receiver tale h L s r (inl (low, high)))

  -- of tables that were tried
  module _ (x : Tried V) (m : IsAmong x (tried_of h.moves)) where
    few_rows : (x.row + length x.paths ≤ length p.tables) × (length x.devices + length x.back ≤ length x.paths)
    few_rows = let w = order_within (length p.tables) all' 0 (tried_of h.moves) (order' view told P p limits d0 now outer b left receiver tale h L s) x m in (w.1, w.2)

    device_row : (i : ℕ) (l : i < length x.devices) → IsRow'' (x.row + i) (at_some x.devices i l).0
    device_row i l = let d = at_some x.devices i l in table x m i d.1 refl (table_held view told P p limits d0 now outer b left receiver tale h x m i d.0 d.1)

    pub bare_rows : (r : ℕ) → x.row + (length x.devices + length x.back) ≤ r → r < x.row + length x.paths → IsBare W' r × ((W' r).opens ≡ 0)
    bare_rows r low high = let f = few_rows.0 in bare_is r (omega (arith, high, f)) (((homes' view told P p limits d0 now outer b left receiver tale h L s).tried x m).bare r low high)

    back_row : (i : ℕ) → length x.devices ≤ i → i < length x.devices + length x.back → ((W' (x.row + i)).opens ≡ 0) × ((W' (x.row + i)).open_faults ≡ 1)
    back_row i low high =
        let e = at_some x.back (i - length x.devices) (omega (arith, low, high)) in
        let z : x.row + length x.devices + (i - length x.devices) ≡ x.row + i = omega (arith, low) in
        let is : W' (x.row + i) ≡ e.0 = ap W' (sym z) ∙ ((homes' view told P p limits d0 now outer b left receiver tale h L s).tried x m).closed.others (i - length x.devices) e.0 e.1 in
        let t = tries_at told p [] d0 h.moves now h.moved x m in
        (ap (λ (y : DeviceTold). y.opens) is ∙ back_unopened told t.0.files W' t.2.out (i - length x.devices) e.0 e.1, ap (λ (y : DeviceTold). y.open_faults) is ∙ back_failed told t.0.files W' t.2.out (i - length x.devices) e.0 e.1)

    -- a device for each that was tried
    tried_row : (i : ℕ) → i < length x.devices + length x.back → 0 < (W' (x.row + i)).opens + faults_of (W' (x.row + i))
    tried_row i l =
        ⊎_elim
        (λ (k : i < length x.devices). let e = row_opened (x.row + i) (at_some x.devices i k).0 (device_row i k) in omega (arith, e))
        (λ (k : length x.devices ≤ i). let e = (back_row i k l).1 in omega (arith, e))
        (cases_lt i (length x.devices))

    -- their values are those of the contents
    pub tried_valued : (i : ℕ) (key : List ℕ) → i < length x.contents → IfSome (W' (x.row + i)).content (λ bytes. values_in x.contents i key ≡ table_value bytes key)
    tried_valued i key l =
        let t = tries_at told p [] d0 h.moves now h.moved x m in
        let few = read_devices told t.0.files W' t.2.out in
        let k : i < length x.devices = omega (arith, l, few) in
        let d = at_some x.devices i k in
        let c = row_closed view told P p limits d0 now outer b left receiver tale h L s (x.row + i) d.0 (device_row i k) in
        let content : (W' (x.row + i)).content ≡ (told d.0).content = ap (λ (y : DeviceTold). y.content) c.is ∙ closed_field (λ y. y.content) c.exit c.ok (told d.0) refl refl in
        subst (λ o. IfSome o (λ bytes. values_in x.contents i key ≡ table_value bytes key)) (sym content) (values_told told t.0.files W' t.2.out i d.0 key l d.1)

  -- a row of the outer stream whose device was opened, or whose wasn't
  open_or : (r : ℕ) → r < outer_rows p → ((d : V) × IsRow'' r d) ⊎ ((W' r).opens ≡ 0)
  open_or r u = ⊎_elim (λ (l : r < length p.tables). of_table l) (λ (l : length p.tables ≤ r). of_list l (opened_of h.moves) refl) (cases_lt r (length p.tables))
    where
      within : (x : Tried V) → IsAmong x (tried_of h.moves) → IsIn x.row (x.row + length x.paths) r → ((d : V) × IsRow'' r d) ⊎ ((W' r).opens ≡ 0)
      within x m i =
          let low = i.0 in
          let high = i.1 in
          let z : x.row + (r - x.row) ≡ r = omega (arith, low) in
          ⊎_elim
          (λ (k : r - x.row < length x.devices). inl ((at_some x.devices (r - x.row) k).0, subst (λ q. IsRow'' q (at_some x.devices (r - x.row) k).0) z (device_row x m (r - x.row) k)))
          (λ (k : length x.devices ≤ r - x.row). ⊎_elim
          (λ (n : r - x.row < length x.devices + length x.back). inr (ap (λ q. (W' q).opens) (sym z) ∙ (back_row x m (r - x.row) k n).0))
          (λ (n : length x.devices + length x.back ≤ r - x.row). inr (bare_rows x m r (omega (arith, n, low)) high).1)
          (cases_lt (r - x.row) (length x.devices + length x.back)))
          (cases_lt (r - x.row) (length x.devices))

      of_table : r < length p.tables → ((d : V) × IsRow'' r d) ⊎ ((W' r).opens ≡ 0)
      of_table l =
          ⊎_elim
          (λ (k : r < rows_after 0 (tried_of h.moves)). let x = tried_in (length p.tables) all' 0 (tried_of h.moves) (order' view told P p limits d0 now outer b left receiver tale h L s) r (omega arith) k in within x.0 x.1 x.2)
          (λ (k : rows_after 0 (tried_of h.moves) ≤ r). inr (tables_behind r k l).1)
          (cases_lt r (rows_after 0 (tried_of h.moves)))

      by_sort : (q : Result V NotRead) → IsAmong q (opened_of h.moves) → r ≡ length p.tables → ((d : V) × IsRow'' r d) ⊎ ((W' r).opens ≡ 0)
      by_sort (Ok first) m is =
          let d = list_held view told P p limits d0 now outer b left receiver tale h first m in
          inl (d.0, list first m is (subst (λ k. IsListHeld told b k first d.0) (sym is) d.1))
      by_sort (Err (why.Fault f)) m is = let x = ((homes' view told P p limits d0 now outer b left receiver tale h L s).list (Err (why.Fault f)) m).1 in inr (ap (λ k. (W' k).opens) is ∙ ap (λ (y : DeviceTold). y.opens) x.3)
      by_sort (Err why.Memory) m is = inr (bare_is r u (subst (λ k. W' k ≡ bare_row all' d0.files k) (sym is) ((homes' view told P p limits d0 now outer b left receiver tale h L s).list (Err why.Memory) m))).1

      of_list : length p.tables ≤ r → (rs : List (Result V NotRead)) → opened_of h.moves ≡ rs → ((d : V) × IsRow'' r d) ⊎ ((W' r).opens ≡ 0)
      of_list l [] e =
          let none = ap (λ (xs : List (Result V NotRead)). length xs) e in
          inr (bare_is r u (ahead_bare view told P p limits d0 now outer b left receiver tale h L s r (inr (inl (omega (arith, l, none), u))))).1
      of_list l (q ∷ rs) e =
          let m : IsAmong q (opened_of h.moves) = subst (λ xs. IsAmong q xs) (sym e) (here rs) in
          let o = opens_at told p [] d0 h.moves now h.moved q m in
          let one = (list_there p (lines' view told P p limits d0 now outer b left receiver tale h L s) o.0 o.1).1 in
          by_sort q m (omega (arith, l, u, one))

  -- what the outer stream noted of its rows
  pub kept : AreTablesKept (outer_rows p) W' L
  kept = record {
    acquired = λ r t n. let d = outer_row_is view told P p limits d0 now outer b left receiver tale h L s r t n in row_opened r d.0 d.1;
    each = λ r l opens. ⊎_elim
        (λ d. let q = outer_held d.1 in (q.noted.0, acquired_so told p.max_open (stream_limit p) b h.progress L h.main s (guests view told P p limits d0 now outer b left receiver tale h L s) r q.noted.0 q.noted.1))
        (λ none. absurd (omega (arith, opens, none)))
        (open_or r l);
    ended = λ r x ok n.
        let z = outer_final told p.max_open (stream_limit p) b h.progress L h.main s (guests view told P p limits d0 now outer b left receiver tale h L s) r x ok n in
        let e = lent_ends view told P p limits d0 now outer b left receiver tale h L s z.0 (among_left (lent_of told (zs view told P p d0 now outer b left receiver tale h)) z.1) in
        subst (λ k. ((W' k).exit ≡ Some x) × (ok ≡ nat_eq (W' k).close_faults 0)) z.2 (e.0 ∙ ap Some z.3, sym z.4 ∙ e.1);
  }

  -- Once all devices came back.
  module _ (last : DepotTold) (came : MadeComeBack d0 last all' W') (c : RunRecord) (is_old : c.depot_old ≡ d0) (is_last : c.depot_new ≡ last) (events : c.events ≡ L) where
    -- a device with which something was tried came back
    pub back_so : (r : ℕ) → r < length all' → 0 < (W' r).opens + faults_of (W' r) → IsBack c (W' r)
    back_so r l some =
        let m = tried_made all' d0 last W' came r l some in
        subst (λ ds. IsAmong (W' r) ds) (sym (ap (λ x. came_back x c.depot_new) is_old ∙ (ap (λ x. came_back d0 x) is_last ∙ back_is all' d0 last W' came))) (among_permuted (map W' came.rows) came.back came.each (W' r) (map_among W' r came.rows m))

    -- so the tables came out that were tried
    pub tables_out : (x : Tried V) → IsAmong x (tried_of h.moves) → CameOut (opener_of p (lines' view told P p limits d0 now outer b left receiver tale h L s)) c W' x.row x.paths x.contents x.lack
    tables_out x m =
        let t = tries_at told p [] d0 h.moves now h.moved x m in
        let few = few_rows x m in
        let below' = few.0 in
        let within = few.1 in
        let outside = outer_below p (lines' view told P p limits d0 now outer b left receiver tale h L s) in
        came_out told t.0.files W' (opener_of p (lines' view told P p limits d0 now outer b left receiver tale h L s)) c (λ xs. refl) t.2.out x.row ((homes' view told P p limits d0 now outer b left receiver tale h L s).tried x m).closed
        (λ i l. let q = outer_held (device_row x m i l) in subst (λ E. IsAcquired E (x.row + i)) (sym events) (Outer, q.noted.0, acquired_so told p.max_open (stream_limit p) b h.progress L h.main s (guests view told P p limits d0 now outer b left receiver tale h L s) (x.row + i) q.noted.0 q.noted.1))
        (λ i l. back_so (x.row + i) (omega (arith, l, below', within, outside)) (tried_row x m i l))
        (λ r low high. (bare_rows x m r low high).0)
