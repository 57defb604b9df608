-- The devices of rows that were made one after the other to read at paths: the first ones were opened and then closed, and those behind them came back unopened.
use Rattle.std.proofs.Common.{◌≡◌, ◌≢◌, ℕ, zero, suc, ◌+◌, ◌-◌, ◌<◌, ◌≤◌, nat_eq, List, [], ◌∷◌, ◌++◌, map, length, take, drop, Option, Some, refl, sym, ◌∙◌, ap, subst, ⊎_elim, arith, length-append}
use Rattle.std.proofs.lemmas.List.{length-map, length-take-le, map-append, take-append-drop}
use Rattle.std.proofs.lemmas.List.Sorted.{IsPermutation-append_comm}
use Rattle.std.specs.List.{AllByRecursion, IsDistinct, range_with_len}
use Rattle.std.specs.List.Sorted.{IsPermutation}
use Rattle.chunk_core.specs.Lists.{IsAmong}
use Rattle.chunk_core.proofs.Each.{among_each, each_among, each_append}
use Rattle.chunk_core.proofs.Members.{among_cons, among_nil}
use Rattle.device_port.specs.declared.device.Mode.TheVariants as mode
use Rattle.device_port.specs.Device.{Place, DeviceTold, to_read}
use Rattle.device_port.specs.Depot.{DepotTold, Files, IsUnknown, KeepsFilesBut, KeepsWritten, MayReturn, device_numbers}
use Rattle.outer_tables.specs.Devices.{MakesDevices}
use Rattle.run_rules.specs.Facts.{at}
use Rattle.stream_parts.specs.Retire.{Exchanges, IsWrittenBy, MayReturnAll}
use Rattle.stream_parts.proofs.Exchanged.{files_same}
use Rattle.res_ledger.proofs.Mapped.{among_map}
use Rattle.res_ledger.proofs.Permuted.{among_range, range_distinct}
use Rattle.joined_runs.specs.Devices.{AreReturned, IsReturned, IsUnmadeAt}
use Rattle.joined_runs.proofs.MadeRows.{at_below, distinct_map, map_twice}
use Rattle.collected.proofs.OwnRows.{OwnRows, WasNeverOpen, bare_home, bare_unmade, map_laid}

pub returned_at : (files : Option Files) (w : ℕ → DeviceTold) (n r : ℕ) (ps : List Place) → AreReturned files n w r ps → (i : ℕ) → i < length ps → (p : Place) × IsReturned files (n + i) p (w (r + i))
returned_at files w n r [] a i l = absurd (omega (arith, l))
returned_at files w n r (p ∷ ps) a zero l = let z : n ≡ n + 0 = omega arith in let y : r ≡ r + 0 = omega arith in (p, subst (λ k. IsReturned files (n + 0) p (w k)) y (subst (λ k. IsReturned files k p (w r)) z a.0))
returned_at files w n r (p ∷ ps) a (suc i) l =
    let x = returned_at files w (n + 1) (r + 1) ps a.1 i (omega (arith, l)) in
    let z : n + 1 + i ≡ n + suc i = omega arith in
    let y : r + 1 + i ≡ r + suc i = omega arith in (x.0, subst (λ k. IsReturned files (n + suc i) x.0 (w k)) y (subst (λ k. IsReturned files k x.0 (w (r + 1 + i))) z x.1))

pub among_at : {A : Type 0} (xs : List A) (x : A) → IsAmong x xs → (i : ℕ) × (at xs i ≡ Some x)
among_at [] x m = absurd (among_nil m)
among_at (y ∷ xs) x m = ⊎_elim (λ e. (0, ap Some (sym e))) (λ i. let a = among_at xs x i in (suc a.0, a.1)) (among_cons m)

-- one range behind another
pub range_both : (a m n : ℕ) → range_with_len a (m + n) ≡ range_with_len a m ++ range_with_len (a + m) n
range_both a zero n = let z : 0 + n ≡ n = omega arith in let y : a + 0 ≡ a = omega arith in ap (λ k. range_with_len a k) z ∙ ap (λ k. range_with_len k n) (sym y)
range_both a (suc m) n =
    let z : suc m + n ≡ suc (m + n) = omega arith in
    let y : a + 1 + m ≡ a + suc m = omega arith in
    ap (λ k. range_with_len a k) z ∙ (ap (λ l. a ∷ l) (range_both (a + 1) m n) ∙ ap (λ k. a ∷ range_with_len (a + 1) m ++ range_with_len k n) y)

at_drop : {A : Type 0} (k : ℕ) (xs : List A) (i : ℕ) → at (drop k xs) i ≡ at xs (k + i)
at_drop zero xs i = let z : 0 + i ≡ i = omega arith in ap (at xs) (sym z)
at_drop (suc k) [] i = refl
at_drop (suc k) (x ∷ xs) i = let z : suc k + i ≡ suc (k + i) = omega arith in at_drop k xs i ∙ ap (at (x ∷ xs)) (sym z)

map_at : {A B : Type 0} (f : A → B) (xs : List A) (k : ℕ) (z : B) → at (map f xs) k ≡ Some z → (x : A) × (at xs k ≡ Some x) × (f x ≡ z)
map_at f [] k z e = cc
map_at f (y ∷ xs) zero z e = (y, refl, cc)
map_at f (y ∷ xs) (suc k) z e = map_at f xs k z e

read_only : mode.Read ≡ mode.Write → ⊥
read_only e = cc

module _ (own : ℕ → DeviceTold) (from : ℕ) (paths : List (List ℕ)) (old new : DepotTold) (m : ℕ) (back : List DeviceTold) where
  -- So the rows from `from` on have their devices: m were opened and closed, these came back, and none was made for the others.
  pub record AreTried : Type 0 where
    pub few : m + length back ≤ length paths
    pub made : MakesDevices old new (take (m + length back) paths) back
    pub returned : AreReturned old.files (length old.made) own from (map to_read (take (m + length back) paths))
    pub others : (i : ℕ) (d : DeviceTold) → at back i ≡ Some d → own (from + m + i) ≡ d
    pub unknown : (r : ℕ) → from ≤ r → r < from + m → IsUnknown (own r).number old.retired
    pub reads : AllByRecursion (λ d. d.place.mode ≡ mode.Read) back
    pub closed : AllByRecursion WasNeverOpen back
    pub bare : (i : ℕ) (path : List ℕ) → at paths i ≡ Some path → m + length back ≤ i → own (from + i) ≡ bare_home old.files (to_read path)

  module _ (t : AreTried) where
    abbrev count : ℕ
    count = m + length back

    abbrev tried : List Place
    tried = map to_read (take count paths)

    abbrev behind : List Place
    behind = map to_read (drop count paths)

    tried_count : length tried ≡ count
    tried_count = length-map (take count paths) to_read ∙ length-take-le count paths t.few

    new_count : length new.made ≡ length old.made + count
    new_count = let e = ap (λ (l : List Place). length l) t.made.made in let f = length-append old.made tried in omega (arith, e, f, tried_count)

    exchange : Exchanges old new tried back
    exchange = record {
      made = t.made.made;
      retired = t.made.retired;
      files = subst (λ f. KeepsFilesBut (IsWrittenBy back) old.files f) (sym t.made.files) (files_same (IsWrittenBy back) old.files);
      stored = λ alone. each_among (KeepsWritten new.files) back (λ d i writes opens. absurd (read_only (sym (among_each (λ (x : DeviceTold). x.place.mode ≡ mode.Read) d back t.reads i) ∙ writes)));
    }

    -- the devices that are left
    abbrev pub left_rows : List DeviceTold
    left_rows = map own (range_with_len from m)

    back_rows : map own (range_with_len (from + m) (length back)) ≡ back
    back_rows = map_laid own (from + m) back t.others

    arranged : IsPermutation (map own (range_with_len from (length tried))) (back ++ left_rows)
    arranged =
        subst (λ k. IsPermutation (map own (range_with_len from k)) (back ++ left_rows)) (sym tried_count)
        (subst (λ l. IsPermutation l (back ++ left_rows)) (sym (ap (map own) (range_both from m (length back)) ∙ map-append own (range_with_len from m) (range_with_len (from + m) (length back))))
        (subst (λ l. IsPermutation (left_rows ++ l) (back ++ left_rows)) (sym back_rows) (IsPermutation-append_comm left_rows back)))

    -- the device of row from + i
    stands : (i : ℕ) → i < count → (p : Place) × IsReturned old.files (length old.made + i) p (own (from + i))
    stands i l = returned_at old.files own (length old.made) from tried t.returned i (omega (arith, l, tried_count))

    number_so : (i : ℕ) → i < count → (own (from + i)).number ≡ length old.made + i
    number_so i l = (stands i l).1.number_is

    unknown_so : (i : ℕ) → i < m → IsUnknown (own (from + i)).number new.retired
    unknown_so i l =
        subst (λ rs. IsUnknown (own (from + i)).number rs) (sym t.made.retired)
        (each_append (λ (x : DeviceTold). x.number ≢ (own (from + i)).number) old.retired back (t.unknown (from + i) (omega arith) (omega (arith, l)))
        (each_among (λ (x : DeviceTold). x.number ≢ (own (from + i)).number) back (λ x j e.
        let a = among_at back x j in
        let k = at_below back a.0 x a.1 in
        let y : from + m + a.0 ≡ from + (m + a.0) = omega arith in
        let number : x.number ≡ length old.made + (m + a.0) = ap (λ (d : DeviceTold). d.number) (sym (t.others a.0 x a.1) ∙ ap own y) ∙ number_so (m + a.0) (omega (arith, k)) in
        let mine_is = number_so i (omega (arith, l)) in
        omega (arith, e, number, mine_is, l))))

    may_go : MayReturnAll new left_rows
    may_go = record { each = each_row; apart = rows_apart }
      where
        row_so : (r : ℕ) → from ≤ r → r < from + m → MayReturn new (own r)
        row_so r low high =
            let i = r - from in
            let z : from + i ≡ r = omega (arith, low) in
            let l : i < m = omega (arith, low, high) in
            let n = number_so i (omega (arith, l)) in
            subst (λ k. MayReturn new (own k)) z (record { made = omega (arith, n, l, new_count); closed = (stands i (omega (arith, l))).1.rest.shut; unknown = unknown_so i l })

        each_row : AllByRecursion (MayReturn new) left_rows
        each_row = each_among (MayReturn new) left_rows (λ x i. let r = among_map own x (range_with_len from m) i in let b = among_range from m r.0 r.1 in subst (MayReturn new) r.2 (row_so r.0 b.0 b.1))

        rows_apart : IsDistinct nat_eq (device_numbers left_rows)
        rows_apart =
            subst (IsDistinct nat_eq) (sym (map_twice own (λ (x : DeviceTold). x.number) (range_with_len from m)))
            (distinct_map (λ r. (own r).number) (range_with_len from m) (range_distinct from m) (λ x y i j e.
            let a = among_range from m x i in
            let b = among_range from m y j in
            let low = a.0 in
            let high = a.1 in
            let low' = b.0 in
            let high' = b.1 in
            let zx : from + (x - from) ≡ x = omega (arith, low) in
            let zy : from + (y - from) ≡ y = omega (arith, low') in
            let nx = number_so (x - from) (omega (arith, low, high)) in
            let ny = number_so (y - from) (omega (arith, low', high')) in
            let ex = ap (λ k. (own k).number) zx in
            let ey = ap (λ k. (own k).number) zy in
            omega (arith, nx, ny, ex, ey, e, low, low')))

    -- they are rows of which devices are left and gone
    pub tried_own : OwnRows own from (map to_read paths) old new back left_rows
    tried_own = record {
      first = tried;
      rest = behind;
      split = sym (ap (map to_read) (take-append-drop count paths)) ∙ map-append to_read (take count paths) (drop count paths);
      exchanges = exchange;
      returned = t.returned;
      each = arranged;
      others = λ i p e.
          let x = map_at to_read (drop count paths) i p e in
          let there = sym (at_drop count paths i) ∙ x.1 in
          let z : from + (count + i) ≡ from + length tried + i = omega (arith, tried_count) in
          subst (λ k. IsUnmadeAt old.files p (own k)) z
          (subst (λ d. IsUnmadeAt old.files p d) (sym (t.bare (count + i) x.0 there (omega arith))) (subst (λ q. IsUnmadeAt old.files q (bare_home old.files (to_read x.0))) x.2 (bare_unmade old.files (to_read x.0))));
      may = may_go;
      unopened = t.closed;
    }
