-- The rows of the outer stream whose devices were opened.
use Rattle.std.proofs.Common.{◌≡◌, ◌⊎◌, ℕ, ◌+◌, ◌<◌, ◌≤◌, List, [], ◌∷◌, ◌++◌, length, Option, Some, None, Result, Ok, Err, refl, sym, ap, subst, ⊎_elim, arith}
use Rattle.chunk_core.specs.Lists.{IsAmong}
use Rattle.chunk_core.specs.Outcomes.{End}
use Rattle.chunk_core.specs.declared.code.How.{How}
use Rattle.chunk_core.proofs.Each.{among_each}
use Rattle.chunk_core.proofs.Members.{among_cons, among_nil}
use Rattle.channel_bounded.specs.Ends.{ReceiverSeen}
use Rattle.chunk_core.specs.Tables.{Values}
use Rattle.device_port.specs.Device.{DeviceTold}
use Rattle.device_port.specs.Depot.{DepotTold, Files}
use Rattle.join_tale.specs.Tales.{Tale}
use Rattle.join_tree.specs.Settled.{Settles}
use Rattle.outer_tables.specs.Devices.{OpensDevice}
use Rattle.outer_tables.specs.Whole.{WasRead}
use Rattle.outer_tables.specs.declared.not_read.NotRead.{NotRead}
use Rattle.outer_tables.specs.declared.not_read.NotRead.TheVariants as why
use Rattle.outer_tables.proofs.Outcomes.{few_tried}
use Rattle.pipeline_desc.specs.Meant.{PlanMeant, listed_limit, stream_limit}
use Rattle.pipeline_desc.specs.Places.{outer_rows}
use Rattle.pipeline_desc.specs.Sound.{IsSoundPlan}
use Rattle.pipeline_desc.specs.declared.listing.ListSpec.{ListSpec}
use Rattle.plan_work.specs.Plans.{opener_of}
use Rattle.pull_turns.specs.Piping.{StateMeaning}
use Rattle.res_ledger.specs.Ledger.{Notes}
use Rattle.res_ledger.specs.declared.event.Event.{Event}
use Rattle.res_ledger.specs.declared.event.StreamNo.TheVariants.{Outer}
use Rattle.res_ledger.specs.declared.event.What.TheVariants.{Acquire}
use Rattle.res_ledger.proofs.Noted.{flat_found, only}
use Rattle.row_seat.specs.declared.view.View.{View}
use Rattle.run_rules.specs.Facts.{at}
use Rattle.scope_tree.specs.Calls.{Seen}
use Rattle.joined_runs.proofs.MadeRows.{at_below, at_some}
use Rattle.joined_runs.proofs.OuterFaults.{if_there}
use Rattle.collected.specs.Collected.{IsCollected}
use Rattle.dealt_streams.specs.Moves.{AreMoved, Move, Moves, Tried, Tries, lines_of, opened_in, opened_of, tried_in, tried_of}
use Rattle.dealt_streams.specs.Moves.Move.{Read, Opened, Gave, Dealt}
use Rattle.dealt_streams.specs.Standing.{HasRows, StandsList, list_end, plan_parts}
use Rattle.dealt_streams.specs.Standing.StandsList.{unopened, failed, lacking, held}
use Rattle.dealt_streams.specs.declared.leftover.Leftover.{Leftover}
use Rattle.collected.proofs.MovedRows.{AreInOrder, order_within}
use Rattle.collected.proofs.PlanParts.{AreParts, parts_order, plan_so, top}
use Rattle.collected.proofs.PlanPlaces.{list_there, plan_rows, table_there}
use Rattle.collected.proofs.Settling.{noted_given}
use Rattle.collected.proofs.TableHomes.{IsOpenTable, each_open, read_open}

-- Moves.

module _ {V F : Type 0} (told : V → DeviceTold) (p : PlanMeant) where
  -- each was made between two depots, behind those before it
  pub moved_at : (before : List (Move V F)) (old : DepotTold) (ms : List (Move V F)) (new : DepotTold) → AreMoved told p before old ms new → (m : Move V F) → IsAmong m ms → (front : List (Move V F)) × (from to : DepotTold) × Moves told p front from to m
  moved_at before old [] new moved m i = absurd (among_nil i)
  moved_at before old (x ∷ ms) new (mid, one, moved) m i = ⊎_elim (λ e. (before, old, mid, subst (λ y. Moves told p before old mid y) (sym e) one)) (λ j. moved_at (before ++ x ∷ []) mid ms new moved m j) (among_cons i)

  pub tries_at : (before : List (Move V F)) (old : DepotTold) (ms : List (Move V F)) (new : DepotTold) → AreMoved told p before old ms new → (x : Tried V) → IsAmong x (tried_of ms) → (from to : DepotTold) × Tries told from to x
  tries_at before old ms new moved x i =
      let f = flat_found tried_in ms x i in
      let m = moved_at before old ms new moved f.0 f.1 in
      of_move f.0 m.0 m.1 m.2 m.3 f.2
    where
      of_move : (m : Move V F) (front : List (Move V F)) (from to : DepotTold) → Moves told p front from to m → IsAmong x (tried_in m) → (from to : DepotTold) × Tries told from to x
      of_move (Read y) front from to h j = (from, to, subst (λ z. Tries told from to z) (sym (only x y j)) h)
      of_move (Opened r) front from to h j = absurd (among_nil j)
      of_move (Gave line) front from to h j = absurd (among_nil j)
      of_move (Dealt y) front from to h j = absurd (among_nil j)

  pub opens_at : (before : List (Move V F)) (old : DepotTold) (ms : List (Move V F)) (new : DepotTold) → AreMoved told p before old ms new → (r : Result V NotRead) → IsAmong r (opened_of ms) → (l : ListSpec) × (p.list ≡ Some l) × (from to : DepotTold) × OpensDevice told l.path from to r
  opens_at before old ms new moved r i =
      let f = flat_found opened_in ms r i in
      let m = moved_at before old ms new moved f.0 f.1 in
      of_move f.0 m.0 m.1 m.2 m.3 f.2
    where
      of_move : (m : Move V F) (front : List (Move V F)) (from to : DepotTold) → Moves told p front from to m → IsAmong r (opened_in m) → (l : ListSpec) × (p.list ≡ Some l) × (from to : DepotTold) × OpensDevice told l.path from to r
      of_move (Read y) front from to h j = absurd (among_nil j)
      of_move (Opened q) front from to h j = (h.0, h.1, from, to, subst (λ z. OpensDevice told h.0.path from to z) (sym (only r q j)) h.2)
      of_move (Gave line) front from to h j = absurd (among_nil j)
      of_move (Dealt y) front from to h j = absurd (among_nil j)

-- what a row of the outer stream has whose device was opened: its Acquire was noted, and its device was left there
pub record IsHeld {V : Type 0} (told : V → DeviceTold) (b : Seen V) (r : ℕ) (d : V) : Type 0 where
  pub noted : (t : ℕ) × Notes b.seat.events Outer (Acquire r t)
  pub left : IsAmong (r, d) b.seat.left
  pub files : Option Files
  pub number : ℕ
  pub path : List ℕ
  pub open' : IsOpenTable files number path (told d)

-- the list's device, as it was opened and as it is now
pub record IsListHeld {V : Type 0} (told : V → DeviceTold) (b : Seen V) (r : ℕ) (first now : V) : Type 0 where
  pub faults : ℕ
  pub was : WasRead faults (told first) (told now)
  pub is_held : IsHeld told b r now

-- Row r of the outer stream has this device: it is that of one of these tables, or of the list.
pub data IsOuter {V : Type 0} (told : V → DeviceTold) (b : Seen V) (row : ℕ) (tables : List (Tried V)) (openings : List (Result V NotRead)) : ℕ → V → Type 0 where
  table : {r : ℕ} {d : V} (x : Tried V) → IsAmong x tables → (i : ℕ) → at x.devices i ≡ Some d → r ≡ x.row + i → IsHeld told b r d → IsOuter told b row tables openings r d
  list : {r : ℕ} {d : V} (first : V) → IsAmong (Ok first) openings → r ≡ row → IsListHeld told b r first d → IsOuter told b row tables openings r d

pub outer_held : {V : Type 0} {told : V → DeviceTold} {b : Seen V} {row : ℕ} {tables : List (Tried V)} {openings : List (Result V NotRead)} {r : ℕ} {d : V} → IsOuter told b row tables openings r d → IsHeld told b r d
outer_held (table x m i e is h) = h
outer_held (list first m is h) = h.is_held

err_ok : {V : Type 0} (w : NotRead) (d : V) → Err w ≡ Ok d → ⊥
err_ok w d e = cc

same_ok : {V : Type 0} (c d : V) → ◌≡◌ {A = Result V NotRead} (Ok c) (Ok d) → c ≡ d
same_ok c d e = cc

module _ {S V F : Type 0} (view : S → View V) (told : V → DeviceTold) (P : Values → StateMeaning F) (p : PlanMeant) (limits : IsSoundPlan p) (d0 now : DepotTold) (outer : How) (b : Seen V) (left : List (Leftover V)) (receiver : ReceiverSeen) (tale : Tale) (h : IsCollected view told P p d0 now outer b left receiver tale) where
  abbrev pub tables : List (Tried V)
  tables = tried_of h.moves

  abbrev pub openings : List (Result V NotRead)
  openings = opened_of h.moves

  abbrev pub lines : List (List ℕ)
  lines = lines_of h.moves

  -- How many streams there are.

  abbrev pub count : ℕ
  count = length p.streams + length lines

  leased_few : h.progress.leased ≤ stream_limit p
  leased_few = h.main.few

  pub without : p.list ≡ None → lines ≡ []
  without e =
      let l = h.stands.lines_are in
      let few = ap (λ o. length p.streams + listed_limit o) e in
      empty lines (omega (arith, l, few, leased_few))
    where
      empty : (xs : List (List ℕ)) → length xs ≡ 0 → xs ≡ []
      empty [] e = refl
      empty (x ∷ xs) e = absurd (omega (arith, e))

  pub leased_below : h.progress.leased ≤ count
  leased_below = let l = h.stands.lines_are in omega (arith, l)

  pub count_few : count ≤ stream_limit p
  count_few = let l = h.stands.lines_are in omega (arith, l, leased_few)

  -- Its parts.

  pub parts_so : AreParts (length p.tables) (length p.streams) 0 0 (plan_parts p) (top p lines limits count refl without ∷ (opener_of p lines).groups)
  parts_so = plan_so p lines limits count refl without

  few_devices : (x : Tried V) → IsAmong x tables → length x.devices + length x.back ≤ length x.paths
  few_devices x m = few_tried (tries_at told p [] d0 h.moves now h.moved x m).2.out

  pub in_order : AreInOrder (length p.tables) (plan_rows p lines) 0 tables
  in_order = parts_order p.tables (plan_rows p lines) (table_there p lines) (length p.streams) 0 0 (plan_parts p) (top p lines limits count refl without ∷ (opener_of p lines).groups) tables h.stands.lack parts_so h.stands.tried few_devices

  -- Its rows.

  left_so : (r : ℕ) (d : V) → IsAmong (r, d) b.seat.opened ⊎ IsAmong (r, d) b.seat.left → IsAmong (r, d) b.seat.left
  left_so r d m = ⊎_elim (λ o. absurd (among_nil (subst (λ l. IsAmong (r, d) l) h.shut o))) (λ l. l) m

  -- the device of a table that was opened
  pub table_held : (x : Tried V) → IsAmong x tables → (i : ℕ) (d : V) → at x.devices i ≡ Some d → IsHeld told b (x.row + i) d
  table_held x m i d e =
      let rows = among_each (HasRows b) x tables h.stands.rows m in
      let t = tries_at told p [] d0 h.moves now h.moved x m in
      let o = each_open told t.0.files (λ r. told d) t.2.out i d e in
      record {
        noted = rows.noted i (at_below x.devices i d e);
        left = left_so (x.row + i) d (rows.pays i d e);
        files = t.0.files;
        number = length t.0.made + i;
        path = o.0;
        open' = o.1;
      }

  -- the list's, as it is now
  pub now_held : (first d : V) (faults : ℕ) → IsAmong (Ok first) openings → WasRead faults (told first) (told d) → IsAmong (length p.tables, d) b.seat.opened ⊎ IsAmong (length p.tables, d) b.seat.left → (t : ℕ) × Notes b.seat.events Outer (Acquire (length p.tables) t) → IsListHeld told b (length p.tables) first d
  now_held first d faults m was there noted =
      let o = opens_at told p [] d0 h.moves now h.moved (Ok first) m in
      let from = o.2 in
      record {
        faults = faults;
        was = was;
        is_held = record {
          noted = noted;
          left = left_so (length p.tables) d there;
          files = from.files;
          number = length from.made;
          path = o.0.path;
          open' = read_open from.files (length from.made) o.0.path (told d) faults (subst (λ x. WasRead faults x (told d)) o.4.1 was);
        };
      }

  pub list_held : (first : V) → IsAmong (Ok first) openings → (d : V) × IsListHeld told b (length p.tables) first d
  list_held first m =
      let o = opens_at told p [] d0 h.moves now h.moved (Ok first) m in
      by_list o.0 (list_end p h.stands.lack (Some outer)) (if_there (λ l. StandsList p told l openings lines (list_end p h.stands.lack (Some outer)) b) p.list o.0 o.1 h.stands.list)
    where
      by_list : (l : ListSpec) (e : End) → StandsList p told l openings lines e b → (d : V) × IsListHeld told b (length p.tables) first d
      by_list l e (unopened is none cut) = absurd (among_nil (subst (λ rs. IsAmong (Ok first) rs) is m))
      by_list l e (failed f is none end) = absurd (err_ok (why.Fault f) first (sym (only (Ok first) (Err (why.Fault f)) (subst (λ rs. IsAmong (Ok first) rs) is m))))
      by_list l e (lacking is none cut) = absurd (err_ok why.Memory first (sym (only (Ok first) (Err why.Memory) (subst (λ rs. IsAmong (Ok first) rs) is m))))
      by_list l e (held start d faults is there was calm lists in_time noted within) =
          let same : first ≡ start = same_ok first start (only (Ok first) (Ok start) (subst (λ rs. IsAmong (Ok first) rs) is m)) in
          (d, now_held first d faults m (subst (λ v. WasRead faults (told v) (told d)) (sym same) was) there noted)

  abbrev pub IsRow : ℕ → V → Type 0
  IsRow r d = IsOuter told b (length p.tables) tables openings r d

  module _ (L : List Event) (s : Settles p.max_open (stream_limit p) b h.progress L) where
    -- a row that the outer stream acquired has a device
    pub outer_row_is : (r t : ℕ) → Notes L Outer (Acquire r t) → (d : V) × IsRow r d
    outer_row_is r t n =
        ⊎_elim
        (λ x.
        let d = at_some x.0.devices x.2.0 x.2.1 in
        (d.0, table x.0 x.1 x.2.0 d.1 x.2.2 (subst (λ k. IsHeld told b k d.0) (sym x.2.2) (table_held x.0 x.1 x.2.0 d.0 d.1))))
        (λ x.
        let d = list_held x.1.0 x.1.1 in
        (d.0, list x.1.0 x.1.1 x.0 (subst (λ k. IsListHeld told b k x.1.0 d.0) (sym x.0) d.1)))
        (h.stands.acquired r t (noted_given p.max_open (stream_limit p) b h.progress L s (Acquire r t) refl n))

    -- it is one of the outer stream's rows
    pub row_below : (r : ℕ) (d : V) → IsRow r d → r < outer_rows p
    row_below r d (table x m i e is q) =
        let w = order_within (length p.tables) (plan_rows p lines) 0 tables in_order x m in
        let l = at_below x.devices i d e in
        let few = w.2 in
        let top' = w.1 in
        omega (arith, is, l, few, top')
    row_below r d (list first m is q) =
        let o = opens_at told p [] d0 h.moves now h.moved (Ok first) m in
        let u = (list_there p lines o.0 o.1).1 in
        omega (arith, is, u)

    pub acquired_below : (r t : ℕ) → Notes L Outer (Acquire r t) → r < outer_rows p
    acquired_below r t n = let x = outer_row_is r t n in row_below r x.0 x.1
