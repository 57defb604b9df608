-- The devices of some rows: made for some of them, and left as they are or gone.
use Rattle.std.proofs.Common.{◌≡◌, ◌≢◌, ◌⊎◌, ℕ, ◌+◌, ◌-◌, ◌<◌, ◌≤◌, Bool, true, false, ◌&&◌, cond, nat_eq, nat_le, nat_lt, List, [], ◌∷◌, ◌++◌, inl, inr, map, length, Option, Some, None, refl, sym, ◌∙◌, ap, subst, ⊎_elim, arith, append_assoc, length-append, ne_eqb}
use Rattle.std.proofs.lemmas.Bool.{cases_lt}
use Rattle.std.proofs.lemmas.List.{length-map, map-append}
use Rattle.std.proofs.lemmas.List.Sorted.{IsPermutation-append, IsPermutation-append_comm, IsPermutation-append_left, IsPermutation-append_right, IsPermutation-refl, IsPermutation-sym, IsPermutation-trans}
use Rattle.std.specs.List.{AllByRecursion, IsDistinct, range_with_len}
use Rattle.std.specs.List.Sorted.{IsPermutation}
use Rattle.chunk_core.specs.Lists.{IsAmong}
use Rattle.chunk_core.specs.Lists.IsAmong.{here, there}
use Rattle.chunk_core.proofs.Distinct.{distinct_nil}
use Rattle.chunk_core.proofs.Each.{among_each, among_permuted, each_append}
use Rattle.chunk_core.proofs.Filters.{among_append, among_right}
use Rattle.chunk_core.proofs.Members.{among_left, among_nil}
use Rattle.device_port.specs.Device.{Place, DeviceTold}
use Rattle.device_port.specs.Depot.{DepotTold, Files, MayReturn}
use Rattle.pull_stepper.specs.Sites.{blank}
use Rattle.run_rules.specs.Facts.{at}
use Rattle.run_rules.specs.Homes.{IsUntouched}
use Rattle.stream_parts.specs.Retire.{Exchanges, MayReturnAll}
use Rattle.stream_parts.proofs.Exchanged.{distinct_both, exchanges_none, exchanges_then, may_after, may_both}
use Rattle.res_ledger.proofs.Mapped.{among_map}
use Rattle.res_ledger.proofs.Permuted.{among_range, range_among, range_distinct}
use Rattle.joined_runs.specs.Devices.{AreMade, IsReturned, IsUnmadeAt}
use Rattle.joined_runs.proofs.MadeRows.{at_below, at_some}
use Rattle.joined_runs.proofs.RowPlaces.{at_left, at_right}
use Rattle.job_runs.proofs.DevicesBack.{made_both}
use Rattle.collected.proofs.OwnRows.{OwnRows, WasNeverOpen, bare_home, bare_unmade}
use Rattle.job_runs.proofs.Returned.{are_made, places_are}

-- the second part of the first list and the first one of the second change places
pub swapped : {A : Type 0} (xs ys zs us : List A) → IsPermutation ((xs ++ ys) ++ (zs ++ us)) ((xs ++ zs) ++ (ys ++ us))
swapped xs ys zs us =
    subst (λ l. IsPermutation l ((xs ++ zs) ++ (ys ++ us))) (sym (append_assoc xs ys (zs ++ us)))
    (subst (λ l. IsPermutation (xs ++ (ys ++ (zs ++ us))) l) (sym (append_assoc xs zs (ys ++ us)))
    (IsPermutation-append_right xs (ys ++ (zs ++ us)) (zs ++ (ys ++ us))
    (subst (λ l. IsPermutation l (zs ++ (ys ++ us))) (append_assoc ys zs us) (subst (λ l. IsPermutation ((ys ++ zs) ++ us) l) (append_assoc zs ys us) (IsPermutation-append_left us (ys ++ zs) (zs ++ ys) (IsPermutation-append_comm ys zs))))))

pub map_same : {A : Type 0} (v w : ℕ → A) (rows : List ℕ) → ((r : ℕ) → IsAmong r rows → v r ≡ w r) → map v rows ≡ map w rows
map_same v w [] h = refl
map_same v w (r ∷ rows) h = ap (λ x. x ∷ map v rows) (h r (here rows)) ∙ ap (λ l. w r ∷ l) (map_same v w rows (λ q m. h q (there r m)))

-- the row is one of those from a up to b
abbrev pub is_in : ℕ → ℕ → ℕ → Bool
is_in a b r = nat_le a r && nat_lt r b

abbrev pub IsIn : ℕ → ℕ → ℕ → Type 0
IsIn a b r = (a ≤ r) × (r < b)

pub in_true : (a b r : ℕ) → IsIn a b r → is_in a b r ≡ true
in_true a b r i = let l = i.0 in let u = i.1 in grind (arith, l, u)

pub in_false : (a b r : ℕ) → ¬ (IsIn a b r) → is_in a b r ≡ false
in_false a b r n = ⊎_elim (λ (l : r < a). grind (arith, l)) (λ (l : a ≤ r). ⊎_elim (λ (u : r < b). absurd (n (l, u))) (λ (u : b ≤ r). grind (arith, u)) (cases_lt r b)) (cases_lt r a)

pub in_or : (a b r : ℕ) → IsIn a b r ⊎ ¬ (IsIn a b r)
in_or a b r = ⊎_elim (λ (l : r < a). inr (λ i. let k = i.0 in omega (arith, k, l))) (λ (l : a ≤ r). ⊎_elim (λ (u : r < b). inl (l, u)) (λ (u : b ≤ r). inr (λ i. let k = i.1 in omega (arith, k, u))) (cases_lt r b)) (cases_lt r a)

-- the devices of those rows, and others behind and before them
abbrev pub either_home : ℕ → ℕ → (ℕ → DeviceTold) → (ℕ → DeviceTold) → ℕ → DeviceTold
either_home a b u v r = cond (is_in a b r) (u r) (v r)

pub home_in : (a b : ℕ) (u v : ℕ → DeviceTold) (r : ℕ) → IsIn a b r → u r ≡ either_home a b u v r
home_in a b u v r i = sym (ap (λ c. cond c (u r) (v r)) (in_true a b r i))

pub home_out : (a b : ℕ) (u v : ℕ → DeviceTold) (r : ℕ) → ¬ (IsIn a b r) → v r ≡ either_home a b u v r
home_out a b u v r n = sym (ap (λ c. cond c (u r) (v r)) (in_false a b r n))

module _ (all : List Place) (files : Option Files) where
  pub made_same : (v w : ℕ → DeviceTold) (n : ℕ) (rows : List ℕ) → ((r : ℕ) → IsAmong r rows → v r ≡ w r) → AreMade files all n v rows → AreMade files all n w rows
  made_same v w n [] h a = tt
  made_same v w n (r ∷ rows) h a = (subst (λ d. (p : Place) × (at all r ≡ Some p) × IsReturned files n p d) (h r (here rows)) a.0, made_same v w (n + 1) rows (λ q m. h q (there r m)) a.1)

  -- a device that was made for a row has its number
  pub made_number : (w : ℕ → DeviceTold) (r n : ℕ) (rows : List ℕ) → AreMade files all n w rows → IsAmong r rows → (n ≤ (w r).number) × ((w r).number < n + length rows)
  made_number w r n rows a (here rs) = let e = a.0.2.number_is in (omega (arith, e), omega (arith, e))
  made_number w r n rows a (there {xs = rs} q m) = let i = made_number w r (n + 1) rs a.1 m in let l = i.0 in let u = i.1 in (omega (arith, l), omega (arith, u))

  -- Since the depot stood as old devices were made for some of these rows, one after the other; some of them are gone and were never opened, and the others are left and may go back.
  pub record RowsMade (own : ℕ → DeviceTold) (these : ℕ → Type 0) (old new : DepotTold) (gone left : List DeviceTold) : Type 0 where
    pub rows : List ℕ
    pub inside : (r : ℕ) → IsAmong r rows → these r
    pub apart : IsDistinct nat_eq rows
    pub exchanges : Exchanges old new (map (λ r. (own r).place) rows) gone
    pub devices : AreMade files all (length old.made) own rows
    pub each : IsPermutation (map own rows) (gone ++ left)
    pub others : (r : ℕ) (p : Place) → these r → at all r ≡ Some p → ¬ (IsAmong r rows) → IsUnmadeAt files p (own r)
    pub may : MayReturnAll new left
    pub unopened : AllByRecursion WasNeverOpen gone

  -- rows agree there
  pub rows_same : (v w : ℕ → DeviceTold) (these : ℕ → Type 0) (old new : DepotTold) (gone left : List DeviceTold) → ((r : ℕ) → these r → v r ≡ w r) → RowsMade v these old new gone left → RowsMade w these old new gone left
  rows_same v w these old new gone left h m =
      let same : (r : ℕ) → IsAmong r m.rows → v r ≡ w r = λ r i. h r (m.inside r i) in
      record {
        rows = m.rows;
        inside = m.inside;
        apart = m.apart;
        exchanges = subst (λ ps. Exchanges old new ps gone) (map_same (λ r. (v r).place) (λ r. (w r).place) m.rows (λ r i. ap (λ (d : DeviceTold). d.place) (same r i))) m.exchanges;
        devices = made_same v w (length old.made) m.rows same m.devices;
        each = subst (λ l. IsPermutation l (gone ++ left)) (map_same v w m.rows same) m.each;
        others = λ r p t e n. subst (IsUnmadeAt files p) (h r t) (m.others r p t e n);
        may = m.may;
        unopened = m.unopened;
      }

  -- they are as well those of which this holds
  pub rows_named : (own : ℕ → DeviceTold) (these those : ℕ → Type 0) (old new : DepotTold) (gone left : List DeviceTold) → ((r : ℕ) → these r → those r) → ((r : ℕ) → those r → these r) → RowsMade own these old new gone left → RowsMade own those old new gone left
  rows_named own these those old new gone left to from m = record {
    rows = m.rows;
    inside = λ r i. to r (m.inside r i);
    apart = m.apart;
    exchanges = m.exchanges;
    devices = m.devices;
    each = m.each;
    others = λ r p t e n. m.others r p (from r t) e n;
    may = m.may;
    unopened = m.unopened;
  }

  -- no device was made there
  abbrev pub bare_row : ℕ → DeviceTold
  bare_row r = elim (at all r) [ Some p ↦ bare_home files p | None ↦ blank ]

  pub bare_at : (r : ℕ) (p : Place) → at all r ≡ Some p → bare_row r ≡ bare_home files p
  bare_at r p e = ap (λ (o : Option Place). elim o [ Some q ↦ bare_home files q | None ↦ blank ]) e

  pub bare_idle : (r : ℕ) → r < length all → IsUntouched (bare_row r)
  bare_idle r l = let p = at_some all r l in subst IsUntouched (sym (bare_at r p.0 p.1)) (bare_unmade files p.0).untouched

  pub rows_bare : (these : ℕ → Type 0) (old : DepotTold) → RowsMade bare_row these old old [] []
  rows_bare these old = record {
    rows = [];
    inside = λ r m. absurd (among_nil m);
    apart = distinct_nil;
    exchanges = exchanges_none old;
    devices = tt;
    each = IsPermutation-refl [];
    others = λ r p t e n. subst (IsUnmadeAt files p) (sym (bare_at r p e)) (bare_unmade files p);
    may = record { each = tt; apart = distinct_nil };
    unopened = tt;
  }

  -- so many devices were made
  pub made_count : (own : ℕ → DeviceTold) (these : ℕ → Type 0) (old new : DepotTold) (gone left : List DeviceTold) (m : RowsMade own these old new gone left) → length new.made ≡ length old.made + length m.rows
  made_count own these old new gone left m =
      let e = ap (λ (l : List Place). length l) m.exchanges.made in
      let f = length-append old.made (map (λ r. (own r).place) m.rows) in
      let g = length-map m.rows (λ r. (own r).place) in
      omega (arith, e, f, g)

  -- some rows behind others
  module _ (own : ℕ → DeviceTold) (these those : ℕ → Type 0) (old now new : DepotTold) (xs ys zs us : List DeviceTold) (a : RowsMade own these old now xs ys) (b : RowsMade own those now new zs us) (disjoint : (r : ℕ) → these r → those r → ⊥) where
    count : length now.made ≡ length old.made + length a.rows
    count = made_count own these old now xs ys a

    -- a device of the second ones has a greater number than one of the first that is left
    numbers_apart : (x y : DeviceTold) → IsAmong x (zs ++ us) → IsAmong y ys → x.number ≢ y.number
    numbers_apart x y i j e =
        let r = among_map own x b.rows (among_permuted (zs ++ us) (map own b.rows) (IsPermutation-sym (map own b.rows) (zs ++ us) b.each) x i) in
        let more = (made_number own r.0 (length now.made) b.rows b.devices r.1).0 in
        let is = ap (λ (d : DeviceTold). d.number) r.2 in
        let less = (among_each (MayReturn now) y ys a.may.each j).made in
        omega (arith, more, is, less, e)

    pub rows_then : RowsMade own (λ r. these r ⊎ those r) old new (xs ++ zs) (ys ++ us)
    rows_then = record {
      rows = a.rows ++ b.rows;
      inside = λ r m. ⊎_elim (λ i. inl (a.inside r i)) (λ i. inr (b.inside r i)) (among_append r a.rows b.rows m);
      apart = distinct_both nat_eq a.rows b.rows a.apart b.apart (λ x y i j. ne_eqb x y (λ e. disjoint x (a.inside x i) (subst those (sym e) (b.inside y j))));
      exchanges = subst (λ ps. Exchanges old new ps (xs ++ zs)) (sym (map-append (λ r. (own r).place) a.rows b.rows)) (exchanges_then old now new (map (λ r. (own r).place) a.rows) (map (λ r. (own r).place) b.rows) xs zs a.exchanges b.exchanges);
      devices = made_both all own files (length old.made) a.rows b.rows a.devices (subst (λ n. AreMade files all n own b.rows) count b.devices);
      each = subst (λ l. IsPermutation l ((xs ++ zs) ++ (ys ++ us))) (sym (map-append own a.rows b.rows))
          (IsPermutation-trans (map own a.rows ++ map own b.rows) ((xs ++ ys) ++ (zs ++ us)) ((xs ++ zs) ++ (ys ++ us)) (IsPermutation-append (map own a.rows) (xs ++ ys) (map own b.rows) (zs ++ us) a.each b.each) (swapped xs ys zs us));
      others = λ r p t e n. ⊎_elim (λ i. a.others r p i e (λ m. n (among_left b.rows m))) (λ i. b.others r p i e (λ m. n (among_right r a.rows b.rows m))) t;
      may = may_both new ys us (may_after now new (map (λ r. (own r).place) b.rows) zs ys b.exchanges a.may (λ x y i j. numbers_apart x y (among_left us i) j)) b.may (λ x y i j e. numbers_apart y x (among_right y zs us j) i (sym e));
      unopened = each_append WasNeverOpen xs zs a.unopened b.unopened;
    }

  -- first some rows from a up to b, and then others
  pub rows_first : (a b : ℕ) (u v : ℕ → DeviceTold) (these those : ℕ → Type 0) (old now new : DepotTold) (xs ys zs us : List DeviceTold) → RowsMade u (IsIn a b) old now xs ys → RowsMade v those now new zs us → ((r : ℕ) → IsIn a b r → those r → ⊥)
      → ((r : ℕ) → IsIn a b r ⊎ those r → these r) → ((r : ℕ) → these r → IsIn a b r ⊎ those r) → RowsMade (either_home a b u v) these old new (xs ++ zs) (ys ++ us)
  rows_first a b u v these those old now new xs ys zs us m n disjoint to from =
      let w = either_home a b u v in
      rows_named w (λ r. IsIn a b r ⊎ those r) these old new (xs ++ zs) (ys ++ us) to from
      (rows_then w (IsIn a b) those old now new xs ys zs us
      (rows_same u w (IsIn a b) old now xs ys (λ r i. home_in a b u v r i) m)
      (rows_same v w those now new zs us (λ r i. home_out a b u v r (λ k. disjoint r k i)) n)
      disjoint)

  -- rows one behind the other are such
  module _ (own : ℕ → DeviceTold) (from : ℕ) (places : List Place) (old new : DepotTold) (gone left : List DeviceTold) (m : OwnRows own from places old new gone left) (same : old.files ≡ files) (there_at : (i : ℕ) → i < length places → at all (from + i) ≡ at places i) where
    count_is : length places ≡ length m.first + length m.rest
    count_is = ap (λ (l : List Place). length l) m.split ∙ length-append m.first m.rest

    first_at : (i : ℕ) (p : Place) → at m.first i ≡ Some p → at all (from + i) ≡ Some p
    first_at i p e = let l = at_below m.first i p e in there_at i (omega (arith, l, count_is)) ∙ (ap (λ xs. at xs i) m.split ∙ (at_left m.first m.rest i l ∙ e))

    pub rows_own : RowsMade own (IsIn from (from + length places)) old new gone left
    rows_own = record {
      rows = range_with_len from (length m.first);
      inside = λ r i. let b = among_range from (length m.first) r i in let u = b.1 in (b.0, omega (arith, u, count_is));
      apart = range_distinct from (length m.first);
      exchanges = subst (λ ps. Exchanges old new ps gone) (sym (places_are old.files own (length old.made) from m.first m.returned)) m.exchanges;
      devices = subst (λ f. AreMade f all (length old.made) own (range_with_len from (length m.first))) same (are_made old.files own all (length old.made) from m.first m.returned first_at);
      each = m.each;
      others = λ r p t e n.
          let l = t.0 in
          let k = t.1 in
          let i = r - from in
          let z : from + i ≡ r = omega (arith, l) in
          let here_is : at places i ≡ Some p = sym (there_at i (omega (arith, l, k))) ∙ (ap (λ q. at all q) z ∙ e) in
          let split_at : at (m.first ++ m.rest) i ≡ Some p = sym (ap (λ xs. at xs i) m.split) ∙ here_is in
          ⊎_elim
          (λ (h : i < length m.first). absurd (n (range_among from (length m.first) r l (omega (arith, h, l)))))
          (λ (h : length m.first ≤ i).
          let j = i - length m.first in
          let rest_at : at m.rest j ≡ Some p = sym (at_right m.first m.rest i h) ∙ split_at in
          let y : from + length m.first + j ≡ r = omega (arith, l, h) in
          subst (λ f. IsUnmadeAt f p (own r)) same (subst (λ q. IsUnmadeAt old.files p (own q)) y (m.others j p rest_at)))
          (cases_lt i (length m.first));
      may = m.may;
      unopened = m.unopened;
    }
