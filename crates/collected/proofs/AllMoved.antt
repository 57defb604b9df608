-- What became of the devices of all rows, move by move.
use Rattle.std.proofs.Common.{◌≡◌, ◌⊎◌, ℕ, suc, ◌+◌, ◌<◌, ◌≤◌, nat_eq, List, [], ◌∷◌, ◌++◌, inl, inr, length, Option, Some, None, Result, Ok, Err, refl, sym, ◌∙◌, ap, subst, ⊎_elim, arith, append_assoc, append-nil, length-append}
use Rattle.std.proofs.lemmas.Grind.{flat_map-append}
use Rattle.std.proofs.lemmas.List.Sorted.{IsPermutation-refl}
use Rattle.std.specs.List.{IsDistinct, range_with_len}
use Rattle.chunk_core.specs.Lists.{IsAmong}
use Rattle.chunk_core.specs.Lists.IsAmong.{here, there}
use Rattle.chunk_core.proofs.Distinct.{distinct_append, distinct_nil, distinct_one}
use Rattle.chunk_core.proofs.Filters.{among_append}
use Rattle.chunk_core.proofs.Members.{among_cons, among_nil}
use Rattle.device_port.specs.Device.{DeviceTold}
use Rattle.device_port.specs.Depot.{DepotTold, Files}
use Rattle.outer_tables.specs.Devices.{OpensDevice, new_device, unopened as never_opened}
use Rattle.outer_tables.specs.Whole.{WasRead}
use Rattle.outer_tables.specs.declared.not_read.NotRead.{NotRead}
use Rattle.outer_tables.specs.declared.not_read.NotRead.TheVariants as why
use Rattle.pipeline_desc.specs.Meant.{PlanMeant}
use Rattle.pipeline_desc.specs.Places.{outer_rows}
use Rattle.pipeline_desc.specs.declared.listing.ListSpec.{ListSpec}
use Rattle.plan_work.specs.Plans.{specs_of}
use Rattle.res_ledger.proofs.Noted.{only}
use Rattle.res_ledger.proofs.Permuted.{among_range, range_distinct}
use Rattle.run_rules.specs.Facts.{at}
use Rattle.dealt_streams.specs.Moves.{AreMoved, Move, Tried, Tries, contents_of, dealt_in, dealt_of, lines_in, lines_of, opened_of, tried_of}
use Rattle.dealt_streams.specs.Moves.Move.{Read, Opened, Gave, Dealt}
use Rattle.dealt_streams.specs.Parts.{Deals, Part}
use Rattle.dealt_streams.specs.Parts.Part.{Begun, Skipped, Unmade}
use Rattle.collected.proofs.DealtRows.{Leaves, one_dealt}
use Rattle.collected.proofs.HeldRows.{opens_at}
use Rattle.collected.proofs.MovedRows.{AllMoved, AreInOrder, IsAhead, all, held_rows, list_first, stream_next, tables as table_count, tables_first}
use Rattle.collected.proofs.OuterRows.{block_bare, block_home, block_others, block_stands, list_failed, list_made, table_home, tables_closed, tables_made}
use Rattle.collected.proofs.PlanPlaces.{list_there, slice_some, spec_below, spec_same}
use Rattle.collected.proofs.Rows.{IsIn, RowsMade, bare_row, rows_bare}
use Rattle.collected.proofs.TableHomes.{IsClosedOf}

among_some : {A : Type 0} (xs : List A) (x : A) → IsAmong x xs → 1 ≤ length xs
among_some [] x m = absurd (among_nil m)
among_some (y ∷ xs) x m = omega arith

module _ {V : Type 0} (told : V → DeviceTold) (p : PlanMeant) (lines : List (List ℕ)) (without : p.list ≡ None → lines ≡ []) (files : Option Files) (homes : ℕ → ℕ → DeviceTold) (stays : ℕ → List DeviceTold) (ended : ℕ → DeviceTold) where
  abbrev T : ℕ
  T = table_count told p lines files homes stays ended

  -- the device of a table that was opened has ended so
  abbrev pub TablesClose : List (Tried V) → Type 0
  TablesClose xs = (x : Tried V) → IsAmong x xs → (i : ℕ) (d : V) → at x.devices i ≡ Some d → IsClosedOf (told d) (ended (x.row + i))

  -- and that of the list, once it was read for some way
  abbrev pub ListCloses : List (Result V NotRead) → Type 0
  ListCloses rs = (first : V) → IsAmong (Ok first) rs → (now : V) × (faults : ℕ) × WasRead faults (told first) (told now) × IsClosedOf (told now) (ended T)

  module _ {F : Type 0} where
    abbrev Moved : ℕ → ℕ → ℕ → List (Move V F) → DepotTold → DepotTold → Type 0
    Moved t o k ms old new = AllMoved told p lines files homes stays ended t o k ms old new

    none_moved : (t o k : ℕ) (old new : DepotTold) → new ≡ old → Moved t o k [] old new
    none_moved t o k old new e = record {
      own = bare_row (all told p lines files homes stays ended) files;
      gone = [];
      left = [];
      rows = subst (λ d. RowsMade (all told p lines files homes stays ended) files (bare_row (all told p lines files homes stays ended) files) (IsAhead told p lines files homes stays ended t o k) old d [] []) (sym e)
          (rows_bare (all told p lines files homes stays ended) files (IsAhead told p lines files homes stays ended t o k) old);
      arranged = IsPermutation-refl [];
      same_files = ap (λ (d : DepotTold). d.files) e;
      homes_are = record {
        tried = λ x m. absurd (among_nil m);
        list = λ r m. absurd (among_nil m);
        dealt = λ i x e. absurd (let f : None ≡ Some x = e in cc);
        behind = λ r a. refl;
      };
    }

    -- a line was given a stream
    gave_moved : (t o k : ℕ) (line : List ℕ) (ms : List (Move V F)) (old mid new : DepotTold) → mid ≡ old → Moved t o k ms mid new → Moved t o k (Gave line ∷ ms) old new
    gave_moved t o k line ms old mid new e m = subst (λ d. Moved t o k (Gave line ∷ ms) d new) e (record {
      own = m.own;
      gone = m.gone;
      left = m.left;
      rows = m.rows;
      arranged = m.arranged;
      same_files = m.same_files;
      homes_are = record { tried = m.homes_are.tried; list = m.homes_are.list; dealt = m.homes_are.dealt; behind = m.homes_are.behind };
    })

    -- the list is there where it was tried, and wasn't before
    lists_there : (o : ℕ) (before : List (Move V F)) (old : DepotTold) (ms : List (Move V F)) (new : DepotTold) → AreMoved told p before old ms new → o + length (opened_of ms) ≤ 1 → (r : Result V NotRead) → IsAmong r (opened_of ms) → IsIn (T + o) (outer_rows p) T
    lists_there o before old ms new moved once r m =
        let x = opens_at told p before old ms new moved r m in
        let u = (list_there p lines x.0 x.1).1 in
        let some = among_some (opened_of ms) r m in (omega (arith, once, some), omega (arith, u))

    -- the tables of a part were tried
    read_moved : (t o k : ℕ) (x : Tried V) (ms : List (Move V F)) (old mid new : DepotTold) → old.files ≡ files → AreInOrder T (all told p lines files homes stays ended) t (x ∷ tried_of ms) → ((r : Result V NotRead) → IsAmong r (opened_of ms) → IsIn (T + o) (outer_rows p) T)
        → ((i : ℕ) (d : V) → at x.devices i ≡ Some d → IsClosedOf (told d) (ended (x.row + i))) → Tries told old mid x → Moved (t + length x.paths) o k ms mid new → Moved t o k (Read x ∷ ms) old new
    read_moved t o k x ms old mid new same order lists closes tries rest =
        let rows = all told p lines files homes stays ended in
        let u = table_home told rows files ended x.row x.paths x.devices x.back old mid same order.3 closes in
        tables_first told p lines files homes stays ended t o k x ms old mid new order lists u
        (tables_made told rows files ended x.row x.paths x.devices x.back old mid same order.3 closes x.contents x.lack tries.out tries.made tries.unknown)
        (record {
          closed = tables_closed told rows files ended x.row x.paths x.devices x.back old mid same order.3 closes;
          stands = λ i l. block_stands rows files ended x.row (length x.devices) x.back (x.row + i) (omega arith) (omega (arith, l));
          bare = λ r l u. block_bare rows files ended x.row (length x.devices) x.back r l;
        })
        tries.made.files
        rest

    -- the list was tried
    opened_moved : (t k : ℕ) (r : Result V NotRead) (l : ListSpec) (ms : List (Move V F)) (old mid new : DepotTold) → old.files ≡ files → p.list ≡ Some l → AreInOrder T (all told p lines files homes stays ended) t (tried_of ms) → ((q : Result V NotRead) → IsAmong q (opened_of ms) → ⊥)
        → ((first : V) → r ≡ Ok first → (now : V) × (faults : ℕ) × WasRead faults (told first) (told now) × IsClosedOf (told now) (ended T)) → OpensDevice told l.path old mid r → Moved t 1 k ms mid new → Moved t 0 k (Opened r ∷ ms) old new
    opened_moved t k (Ok first) l ms old mid new same is order none closes opens rest =
        let rows = all told p lines files homes stays ended in
        let at_it = list_there p lines l is in
        let c = closes first refl in
        list_first told p lines files homes stays ended t k (Ok first) ms old mid new order none at_it.1 (block_home rows files ended T 1 []) []
        (list_made told rows files ended T l.path old mid same at_it.0 first c.0 c.1 opens.0 opens.1 opens.2 c.2 c.3)
        (block_stands rows files ended T 1 [] T (omega arith) (omega arith))
        opens.0.files
        rest
    opened_moved t k (Err (why.Fault f)) l ms old mid new same is order none closes opens rest =
        let rows = all told p lines files homes stays ended in
        let at_it = list_there p lines l is in
        let d = never_opened (new_device old.files (length old.made) l.path) in
        let z : T + 0 + 0 ≡ T = omega arith in
        list_first told p lines files homes stays ended t k (Err (why.Fault f)) ms old mid new order none at_it.1 (block_home rows files ended T 0 (d ∷ [])) (d ∷ [])
        (list_failed told rows files ended T l.path old mid same at_it.0 opens.1)
        (opens.0, (l, length old.made, is, ap (block_home rows files ended T 0 (d ∷ [])) (sym z) ∙ (block_others rows files ended T 0 (d ∷ []) 0 d refl ∙ ap (λ f. never_opened (new_device f (length old.made) l.path)) same)))
        opens.1.files
        rest
    opened_moved t k (Err why.Memory) l ms old mid new same is order none closes opens rest =
        let rows = all told p lines files homes stays ended in
        let at_it = list_there p lines l is in
        list_first told p lines files homes stays ended t k (Err why.Memory) ms old mid new order none at_it.1 (bare_row rows files) []
        (subst (λ d. RowsMade rows files (bare_row rows files) (IsIn T (T + 1)) old d [] []) (sym opens) (rows_bare rows files (IsIn T (T + 1)) old))
        refl
        (ap (λ (d : DepotTold). d.files) opens)
        rest

    -- a stream that is dealt with has a number below those that were given by then
    deals_below : (contents before : List (List ℕ)) (k : ℕ) (old new : DepotTold) (x : Part V F) → Deals told p contents before k old new x → k < length p.streams + length before
    deals_below contents before k old new (Begun n ds w) d = d.2
    deals_below contents before k old new Skipped d = d.0
    deals_below contents before k old new (Unmade ds) d = d.2

    -- a stream was dealt with
    dealt_moved : (t o k : ℕ) (x : Part V F) (ms : List (Move V F)) (old mid new : DepotTold) (contents before more : List (List ℕ)) → before ++ more ≡ lines → old.files ≡ files → AreInOrder T (all told p lines files homes stays ended) t (tried_of ms) → ((r : Result V NotRead) → IsAmong r (opened_of ms) → IsIn (T + o) (outer_rows p) T)
        → Deals told p contents before k old mid x → Leaves told p lines files homes stays k x → Moved t o (suc k) ms mid new → Moved t o k (Dealt x ∷ ms) old new
    dealt_moved t o k x ms old mid new contents before more split same order lists deals leaves rest =
        let below = deals_below contents before k old mid x deals in
        let s = slice_some (specs_of p lines) k (spec_below p lines without before more split k below) in
        let one = one_dealt told p lines files homes stays contents before k s.0 s.1 (spec_same p lines without before more split k below) old mid same x deals leaves in
        stream_next told p lines files homes stays ended t o k x ms old mid new order lists one.own one.gone one.rows one.home one.same_files rest

    lines_next : (m : Move V F) (before ms : List (Move V F)) → lines_of before ++ lines_of (m ∷ ms) ≡ lines → lines_of (before ++ m ∷ []) ++ lines_of ms ≡ lines
    lines_next m before ms e =
        ap (λ l. l ++ lines_of ms) (flat_map-append lines_in before (m ∷ [])) ∙ (append_assoc (lines_of before) (lines_of (m ∷ [])) (lines_of ms) ∙ (ap (λ l. lines_of before ++ (l ++ lines_of ms)) (append-nil (lines_in m)) ∙ e))

    dealt_next : (m : Move V F) (before : List (Move V F)) (k : ℕ) → k ≡ length (dealt_of before) → k + length (dealt_of (m ∷ [])) ≡ length (dealt_of (before ++ m ∷ []))
    dealt_next m before k e =
        let f = ap (λ (l : List (Part V F)). length l) (flat_map-append dealt_in before (m ∷ [])) in
        let g = length-append (dealt_of before) (dealt_of (m ∷ [])) in
        omega (arith, e, f, g)

    -- So all moves were made.
    pub all_moved : (before : List (Move V F)) (t o k : ℕ) (ms : List (Move V F)) (old new : DepotTold) → old.files ≡ files → k ≡ length (dealt_of before) → lines_of before ++ lines_of ms ≡ lines → AreInOrder T (all told p lines files homes stays ended) t (tried_of ms) → o + length (opened_of ms) ≤ 1
        → TablesClose (tried_of ms) → ListCloses (opened_of ms) → ((i : ℕ) (x : Part V F) → at (dealt_of ms) i ≡ Some x → Leaves told p lines files homes stays (k + i) x) → AreMoved told p before old ms new → Moved t o k ms old new
    all_moved before t o k [] old new same k_is split order once tables list leaves moved = none_moved t o k old new moved
    all_moved before t o k (Read x ∷ ms) old new same k_is split order once tables list leaves (mid, tries, moved) =
        read_moved t o k x ms old mid new same order (lists_there o (before ++ Read x ∷ []) mid ms new moved once) (tables x (here (tried_of ms))) tries
        (all_moved (before ++ Read x ∷ []) (t + length x.paths) o k ms mid new (tries.made.files ∙ same) (let z : k + 0 ≡ k = omega arith in sym z ∙ dealt_next (Read x) before k k_is) (lines_next (Read x) before ms split) order.4 once (λ y m. tables y (there x m)) list leaves moved)
    all_moved before t o k (Gave line ∷ ms) old new same k_is split order once tables list leaves (mid, gives, moved) =
        gave_moved t o k line ms old mid new gives
        (all_moved (before ++ Gave line ∷ []) t o k ms mid new (ap (λ (d : DepotTold). d.files) gives ∙ same) (let z : k + 0 ≡ k = omega arith in sym z ∙ dealt_next (Gave line) before k k_is) (lines_next (Gave line) before ms split) order once tables list leaves moved)
    all_moved before t o k (Dealt x ∷ ms) old new same k_is split order once tables list leaves (mid, deals, moved) =
        let here_it : Deals told p (contents_of before) (lines_of before) k old mid x = subst (λ j. Deals told p (contents_of before) (lines_of before) j old mid x) (sym k_is) deals in
        let z : k + 0 ≡ k = omega arith in
        let mine = subst (λ j. Leaves told p lines files homes stays j x) z (leaves 0 x refl) in
        let below = deals_below (contents_of before) (lines_of before) k old mid x here_it in
        let s = slice_some (specs_of p lines) k (spec_below p lines without (lines_of before) (lines_of ms) split k below) in
        let kept = (one_dealt told p lines files homes stays (contents_of before) (lines_of before) k s.0 s.1 (spec_same p lines without (lines_of before) (lines_of ms) split k below) old mid same x here_it mine).same_files in
        dealt_moved t o k x ms old mid new (contents_of before) (lines_of before) (lines_of ms) split same order (lists_there o (before ++ Dealt x ∷ []) mid ms new moved once) here_it mine
        (all_moved (before ++ Dealt x ∷ []) t o (suc k) ms mid new (kept ∙ same) (let y : suc k ≡ k + 1 = omega arith in y ∙ dealt_next (Dealt x) before k k_is) (lines_next (Dealt x) before ms split) order once tables list (λ i y e. let q : k + suc i ≡ suc k + i = omega arith in subst (λ j. Leaves told p lines files homes stays j y) q (leaves (suc i) y e)) moved)
    all_moved before t o k (Opened r ∷ ms) old new same k_is split order once tables list leaves (mid, opens, moved) =
        let first : o ≡ 0 = omega (arith, once) in
        let none : (q : Result V NotRead) → IsAmong q (opened_of ms) → ⊥ = λ q m. let some = among_some (opened_of ms) q m in omega (arith, once, some) in
        subst (λ z. Moved t z k (Opened r ∷ ms) old new) (sym first)
        (opened_moved t k r opens.0 ms old mid new same opens.1 order none (λ f e. list f (subst (λ q. IsAmong (Ok f) (q ∷ opened_of ms)) (sym e) (here (opened_of ms)))) opens.2
        (all_moved (before ++ Opened r ∷ []) t 1 k ms mid new (opened_files r opens.0 old mid opens.2 ∙ same) (let z : k + 0 ≡ k = omega arith in sym z ∙ dealt_next (Opened r) before k k_is) (lines_next (Opened r) before ms split) order (omega (arith, once, first)) tables (λ f m. absurd (none (Ok f) m)) leaves moved))
      where
        opened_files : (r : Result V NotRead) (l : ListSpec) (from to : DepotTold) → OpensDevice told l.path from to r → to.files ≡ from.files
        opened_files (Ok d) l from to h = h.0.files
        opened_files (Err (why.Fault f)) l from to h = h.1.files
        opened_files (Err why.Memory) l from to h = ap (λ (d : DepotTold). d.files) h

    -- The rows whose devices are left.

    pub held_in : (t o : ℕ) (ms : List (Move V F)) → AreInOrder T (all told p lines files homes stays ended) t (tried_of ms) → (r : ℕ) → IsAmong r (held_rows told p lines files homes stays ended ms) → IsIn t T r ⊎ ((r ≡ T) × (1 ≤ length (opened_of ms)))
    held_in t o [] order r m = absurd (among_nil m)
    held_in t o (Read x ∷ ms) order r m =
        ⊎_elim
        (λ i.
        let b = among_range x.row (length x.devices) r i in
        let low = b.0 in
        let high = b.1 in
        let row = order.0 in
        let few = order.1 in
        let some = order.2 in
        inl (omega (arith, low, row), omega (arith, high, row, few, some)))
        (λ i. ⊎_elim (λ b. let l = b.0 in inl (omega (arith, l), b.1)) (λ b. inr b) (held_in (t + length x.paths) o ms order.4 r i))
        (among_append r (range_with_len x.row (length x.devices)) (held_rows told p lines files homes stays ended ms) m)
    held_in t o (Opened (Ok d) ∷ ms) order r m = ⊎_elim (λ e. inr (e, omega arith)) (λ i. ⊎_elim (λ b. inl b) (λ b. inr (b.0, omega arith)) (held_in t o ms order r i)) (among_cons m)
    held_in t o (Opened (Err w) ∷ ms) order r m = ⊎_elim (λ b. inl b) (λ b. inr (b.0, omega arith)) (held_in t o ms order r m)
    held_in t o (Gave line ∷ ms) order r m = held_in t o ms order r m
    held_in t o (Dealt x ∷ ms) order r m = held_in t o ms order r m

    pub held_apart : (t : ℕ) (ms : List (Move V F)) → AreInOrder T (all told p lines files homes stays ended) t (tried_of ms) → length (opened_of ms) ≤ 1 → IsDistinct nat_eq (held_rows told p lines files homes stays ended ms)
    held_apart t [] order once = distinct_nil
    held_apart t (Read x ∷ ms) order once =
        distinct_append (range_with_len x.row (length x.devices)) (held_rows told p lines files homes stays ended ms) (range_distinct x.row (length x.devices)) (held_apart (t + length x.paths) ms order.4 once) (λ r i j.
        let b = among_range x.row (length x.devices) r i in
        let high = b.1 in
        let row = order.0 in
        let few = order.1 in
        let some = order.2 in
        ⊎_elim (λ c. let low = c.0 in omega (arith, high, row, some, low)) (λ c. let e = c.0 in omega (arith, high, row, some, few, e)) (held_in (t + length x.paths) 0 ms order.4 r j))
    held_apart t (Opened (Ok d) ∷ ms) order once =
        distinct_append (T ∷ []) (held_rows told p lines files homes stays ended ms) (distinct_one T) (held_apart t ms order (omega (arith, once))) (λ r i j.
        let e = only r T i in
        ⊎_elim (λ c. let u = c.1 in omega (arith, e, u)) (λ c. let some = c.1 in omega (arith, some, once)) (held_in t 0 ms order r j))
    held_apart t (Opened (Err w) ∷ ms) order once = held_apart t ms order (omega (arith, once))
    held_apart t (Gave line ∷ ms) order once = held_apart t ms order once
    held_apart t (Dealt x ∷ ms) order once = held_apart t ms order once
