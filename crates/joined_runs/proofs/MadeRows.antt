-- The devices that were made for some of the rows.
use Rattle.std.proofs.Common.{◌≡◌, ◌⊎◌, ℕ, zero, suc, ◌+◌, ◌<◌, ◌≤◌, Bool, true, false, cond, nat_eq, nat_lt, List, [], ◌∷◌, ◌++◌, inl, inr, map, filter, length, count_by, drop, Option, Some, None, IfSome, refl, sym, ◌∙◌, ap, subst, ⊎_elim, arith}
use Rattle.std.proofs.Math.Seq.{drop-append_seam}
use Rattle.std.proofs.lemmas.Bool.{cases_Bool, false≢true, ltb-true}
use Rattle.std.proofs.lemmas.List.Sums.{sum_by-cons}
use Rattle.std.proofs.lemmas.List.Sorted.{IsPermutation-map, IsPermutation-sym, sum_by-IsPermutation}
use Rattle.std.specs.List.{AllByRecursion, IsDistinct, range_with_len}
use Rattle.std.specs.List.Sorted.{IsPermutation}
use Rattle.chunk_core.specs.Lists.{IsAmong, has}
use Rattle.chunk_core.specs.Lists.IsAmong.{here, there}
use Rattle.chunk_core.specs.declared.code.Code.{Code}
use Rattle.chunk_core.specs.declared.code.Code.TheVariants as code
use Rattle.chunk_core.specs.declared.code.How.{How}
use Rattle.chunk_core.specs.declared.code.How.TheVariants as how
use Rattle.chunk_core.proofs.Bools.{has_in, in_has}
use Rattle.chunk_core.proofs.Distinct.{distinct_cons, distinct_filter, distinct_head, distinct_nil, distinct_tail}
use Rattle.chunk_core.proofs.Each.{among_each, among_permuted, each_among, each_of}
use Rattle.chunk_core.proofs.Filters.{among_filter, filter_among}
use Rattle.chunk_core.proofs.Members.{among_cons}
use Rattle.res_ledger.specs.declared.event.Event.{Event}
use Rattle.device_port.specs.Device.{Place, DeviceTold, faults_of}
use Rattle.device_port.specs.Depot.{HaveOwnNumbers, DepotTold, Files, KeepsFilesBut, KeepsWritten, content_at, device_numbers}
use Rattle.run_rules.specs.Facts.{acquired_row, at, first_numbers, ended_row, failed_row, is_place}
use Rattle.run_rules.specs.Devices.{AreAsMany, AreNoMore, DevicesAccounted, IsShut, IsWrittenBy, KeepsToWhatIsThere, came_back, is_closed_with, made_for, named, numbered, place_of_row}
use Rattle.run_rules.specs.Work.{Work, Values, RunRecord, row_places}
use Rattle.run_rules.specs.Ends.{IsShown, act_count}
use Rattle.run_rules.specs.Homes.{AreAtHome, AreLeftAlone, HaveHomes, HaveValues, IsBack, IsTied, IsUntouched, is_tried}
use Rattle.res_ledger.proofs.Mapped.{among_map, map_among}
use Rattle.res_ledger.proofs.Permuted.{among_range, range_among, range_distinct, same_elements}
use Rattle.joined_runs.specs.Devices.{AreMade, IsAtRest, IsMade, IsUnmadeAt, MadeComeBack}
use Rattle.joined_runs.proofs.Counting.{filter_map_is}
use Rattle.joined_runs.proofs.RowAccounts.{AreRowsKept, acquired_devices, ended_devices, failed_devices, rows_below, tied}

-- Places of rows.

pub at_below : {A : Type 0} (xs : List A) (i : ℕ) (x : A) → at xs i ≡ Some x → i < length xs
at_below [] i x e = cc
at_below (y ∷ xs) zero x e = omega arith
at_below (y ∷ xs) (suc i) x e = omega (arith, at_below xs i x e)

pub at_some : {A : Type 0} (xs : List A) (i : ℕ) → i < length xs → (x : A) × (at xs i ≡ Some x)
at_some [] i l = absurd (omega arith)
at_some (y ∷ xs) zero l = (y, refl)
at_some (y ∷ xs) (suc i) l = at_some xs i (omega arith)

-- what stands at a place of the list is one of it
pub place_found : {A : Type 0} (xs : List A) (i : ℕ) (x : A) → at xs i ≡ Some x → IsAmong x xs
place_found [] i x e = cc
place_found (y ∷ xs) zero x e = let is : y ≡ x = cc in subst (λ z. IsAmong z (y ∷ xs)) is (here xs)
place_found (y ∷ xs) (suc i) x e = there y (place_found xs i x e)

module _ {A B : Type 0} (f : A → B) where
  -- fewer pass where some were left out
  count_chosen : (t : A → Bool) (p : B → Bool) (xs : List A) → count_by p (map f (filter t xs)) ≤ count_by p (map f xs)
  count_chosen t p [] = omega arith
  count_chosen t p (x ∷ xs) =
      let rest = count_chosen t p xs in
      let more = sum_by-cons (λ y. cond (p y) 1 0) (f x) (map f xs) in
      elim (t x) as (λ b. count_by p (map f (cond b (x ∷ filter t xs) (filter t xs))) ≤ count_by p (f x ∷ map f xs)) [
        | true ↦ let kept = sum_by-cons (λ y. cond (p y) 1 0) (f x) (map f (filter t xs)) in omega (arith, rest, more, kept)
        | false ↦ omega (arith, rest, more)
      ]

-- what a map keeps apart stays distinct
pub distinct_map : (f : ℕ → ℕ) (xs : List ℕ) → IsDistinct nat_eq xs → ((x y : ℕ) → IsAmong x xs → IsAmong y xs → f x ≡ f y → x ≡ y) → IsDistinct nat_eq (map f xs)
distinct_map f [] d one = distinct_nil
distinct_map f (x ∷ xs) d one =
    distinct_cons (f x) (map f xs)
    (λ m. let y = among_map f (f x) xs m in distinct_head x xs d (subst (λ z. IsAmong z xs) (sym (one x y.0 (here xs) (there x y.1) (sym y.2))) y.1))
    (distinct_map f xs (distinct_tail x xs d) (λ y z i j. one y z (there x i) (there x j)))

pub map_twice : {A B C : Type 0} (f : A → B) (g : B → C) (xs : List A) → map g (map f xs) ≡ map (λ x. g (f x)) xs
map_twice f g [] = refl
map_twice f g (x ∷ xs) = ap (λ l. g (f x) ∷ l) (map_twice f g xs)

module _ (files : Option Files) (places : List Place) (w : ℕ → DeviceTold) where
  -- a row for which a device was made has one with a number of its own
  made_of : (r n : ℕ) (rs : List ℕ) → AreMade files places n w rs → IsAmong r rs → (m : ℕ) × (n ≤ m) × IsMade files places m w r
  made_of r n rs h (here qs) = (n, omega arith, h.0)
  made_of r n rs h (there {xs = qs} q i) = let x = made_of r (n + 1) qs h.1 i in (x.0, omega (arith, x.1), x.2)

  one_number : (x y n : ℕ) (rs : List ℕ) → AreMade files places n w rs → IsAmong x rs → IsAmong y rs → (w x).number ≡ (w y).number → x ≡ y
  one_number x y n rs h (here qs) j e = ⊎_elim (λ s. sym s) (λ k. let b = made_of y (n + 1) qs h.1 k in let m = b.2.2.number_is in let f = h.0.2.number_is in absurd (omega (arith, b.1, m, f, e))) (among_cons j)
  one_number x y n rs h (there {xs = qs} q i) j e =
      ⊎_elim
      (λ s. let b = made_of x (n + 1) qs h.1 i in let m = b.2.2.number_is in let f : (w y).number ≡ n = ap (λ k. (w k).number) s ∙ h.0.2.number_is in absurd (omega (arith, b.1, m, f, e)))
      (λ k. one_number x y (n + 1) qs h.1 i k e)
      (among_cons j)

  -- their numbers and places are those that were given
  names_are : (n : ℕ) (rs : List ℕ) → AreMade files places n w rs → map named (map w rs) ≡ numbered n (map (λ r. (w r).place) rs)
  names_are n [] h = refl
  names_are n (r ∷ rs) h = ap (λ k. let x : ℕ × Place = (k, (w r).place) in x ∷ map named (map w rs)) h.0.2.number_is ∙ ap (λ l. let x : ℕ × Place = (n, (w r).place) in x ∷ l) (names_are (n + 1) rs h.1)

  -- the places are those of the devices
  places_are : (i : ℕ) (ps : List Place) → ((r : ℕ) (p : Place) → at ps r ≡ Some p → (w (i + r)).place ≡ p) → map (λ r. (w r).place) (range_with_len i (length ps)) ≡ ps
  places_are i [] h = refl
  places_are i (p ∷ ps) h =
      let first : i + 0 ≡ i = omega arith in
      ap (λ q. q ∷ map (λ r. (w r).place) (range_with_len (i + 1) (length ps))) (ap (λ k. (w k).place) (sym first) ∙ h 0 p refl)
      ∙ ap (λ l. p ∷ l) (places_are (i + 1) ps (λ r q e. let same : i + 1 + r ≡ i + suc r = omega arith in ap (λ k. (w k).place) same ∙ h (suc r) q e))

  -- rows one after the other are at home
  at_home_by : (c : RunRecord) (i : ℕ) (ps : List Place)
      → ((r : ℕ) (p : Place) → at ps r ≡ Some p → ((w (i + r)).place ≡ p) × ((w (i + r)).content ≡ content_at c.depot_old.files p.path) × (IsBack c (w (i + r)) ⊎ IsUntouched (w (i + r)))) → AreAtHome c w i ps
  at_home_by c i [] h = tt
  at_home_by c i (p ∷ ps) h =
      let first : i + 0 ≡ i = omega arith in
      let here : ((w i).place ≡ p) × ((w i).content ≡ content_at c.depot_old.files p.path) × (IsBack c (w i) ⊎ IsUntouched (w i)) = subst (λ k. ((w k).place ≡ p) × ((w k).content ≡ content_at c.depot_old.files p.path) × (IsBack c (w k) ⊎ IsUntouched (w k))) first (h 0 p refl) in (
        here.0,
        here.1,
        here.2,
        at_home_by c (i + 1) ps (λ r q e. let same : i + suc r ≡ i + 1 + r = omega arith in subst (λ k. ((w k).place ≡ q) × ((w k).content ≡ content_at c.depot_old.files q.path) × (IsBack c (w k) ⊎ IsUntouched (w k))) same (h (suc r) q e)),
      )

module _ (places : List Place) (old new : DepotTold) (w : ℕ → DeviceTold) (d : MadeComeBack old new places w) where
  abbrev count : ℕ
  count = length places

  made_is : made_for old new ≡ map (λ r. (w r).place) d.rows
  made_is = ap (λ ps. drop (length old.made) ps) d.made ∙ drop-append_seam old.made (map (λ r. (w r).place) d.rows)

  pub back_is : came_back old new ≡ d.back
  back_is = ap (λ ds. drop (length old.retired) ds) d.retired ∙ drop-append_seam old.retired d.back

  pub made_row : (r : ℕ) → IsAmong r d.rows → (m : ℕ) × IsMade old.files places m w r
  made_row r i = let x = made_of old.files places w r (length old.made) d.rows d.devices i in (x.0, x.2)

  inside : (r : ℕ) → IsAmong r d.rows → r < count
  inside r i = let x = made_row r i in at_below places r x.1.0 x.1.1

  -- the device of such a row came back
  stood : (r : ℕ) → IsAmong r d.rows → IsAmong (w r) d.back
  stood r i = among_permuted (map w d.rows) d.back d.each (w r) (map_among w r d.rows i)

  at_rest : (r : ℕ) → IsAmong r d.rows → IsAtRest (w r)
  at_rest r i = (made_row r i).1.2.rest

  -- a device was made for the row, or not
  pub made_or_not : (r : ℕ) (p : Place) → at places r ≡ Some p → IsAmong r d.rows ⊎ IsUnmadeAt old.files p (w r)
  made_or_not r p e = ⊎_elim (λ t. inl (has_in r d.rows t)) (λ f. inr (d.others r p e (λ i. false≢true (sym f ∙ in_has r d.rows i)))) (cases_Bool (has r d.rows))

  -- a device with which something was tried was made
  pub tried_made : (r : ℕ) → r < count → 0 < (w r).opens + faults_of (w r) → IsAmong r d.rows
  tried_made r l some = let p = at_some places r l in ⊎_elim (λ i. i) (λ u. let o = u.untouched.opens in let f = u.untouched.faults in absurd (omega (arith, o, f, some))) (made_or_not r p.0 p.1)

  same_place : (p q : Place) (r : ℕ) → at places r ≡ Some p → at places r ≡ Some q → p ≡ q
  same_place p q r e f = let s : Some p ≡ Some q = sym e ∙ f in cc

  pub placed_at : (r : ℕ) (p : Place) → at places r ≡ Some p → ((w r).place ≡ p) × ((w r).content ≡ content_at old.files p.path) × (IsAmong (w r) d.back ⊎ IsUntouched (w r))
  placed_at r p e =
      ⊎_elim
      (λ i. let x = made_row r i in let same = same_place x.1.0 p r x.1.1 e in (x.1.2.place_is ∙ same, x.1.2.content_is ∙ ap (λ (q : Place). content_at old.files q.path) same, inl (stood r i)))
      (λ u. (u.place_is, u.content_is, inr u.untouched))
      (made_or_not r p e)

  pub in_place : (r : ℕ) → r < count → place_of_row places (Some r) ≡ (w r).place ∷ []
  in_place r l =
      let p = at_some places r l in
      ap (λ (o : Option Place). elim o [ Some q ↦ q ∷ [] | None ↦ [] ]) p.1 ∙ ap (λ q. q ∷ []) (sym (placed_at r p.0 p.1).0)

  all_places_are : map (λ r. (w r).place) (first_numbers count) ≡ places
  all_places_are = places_are old.files places w 0 places (λ r p e. let z : 0 + r ≡ r = omega arith in ap (λ k. (w k).place) z ∙ (placed_at r p e).0)

  -- no more were made for a place than it has rows
  pub few : AreNoMore (map (λ r. (w r).place) d.rows) places
  few = each_of (λ (q : Place). count_by (is_place q) (map (λ r. (w r).place) d.rows) ≤ count_by (is_place q) places)
      (λ q.
      let ns = first_numbers count in
      let chosen = filter (λ r. has r d.rows) ns in
      let same : IsPermutation chosen d.rows = same_elements chosen d.rows (distinct_filter (λ r. has r d.rows) ns (range_distinct 0 count)) d.apart
      (λ r m. has_in r d.rows (among_filter (λ k. has k d.rows) r ns m).1)
      (λ r m. let l = inside r m in filter_among (λ k. has k d.rows) r ns (range_among 0 count r (omega arith) (omega (arith, l))) (in_has r d.rows m)) in
      let counted = sum_by-IsPermutation (λ p. cond (is_place q p) 1 0) (map (λ r. (w r).place) chosen) (map (λ r. (w r).place) d.rows) (IsPermutation-map (λ r. (w r).place) chosen d.rows same) in
      let less = count_chosen (λ r. (w r).place) (λ k. has k d.rows) (is_place q) ns in
      let whole = ap (λ ps. count_by (is_place q) ps) all_places_are in
      omega (arith, counted, less, whole))
      (map (λ r. (w r).place) d.rows)

  shut_by : (x : DeviceTold) → IsAtRest x → KeepsToWhatIsThere x → IsShut x
  shut_by x rest found = record {
    shut = rest.shut;
    closes = ⊎_elim (λ s. s.1 ∙ sym s.0) (λ s. s.1 ∙ sym s.0) rest.stage;
    once = ⊎_elim (λ s. let o = s.0 in omega (arith, o)) (λ s. let o = s.0 in omega (arith, o)) rest.stage;
    there = found.0;
    within = found.1;
  }

  -- a device that came back is that of a row for which one was made
  back_row : (x : DeviceTold) → IsAmong x d.back → (r : ℕ) × IsAmong r d.rows × (w r ≡ x)
  back_row x i = among_map w x d.rows (among_permuted d.back (map w d.rows) (IsPermutation-sym (map w d.rows) d.back d.each) x i)

  each_shut : AllByRecursion IsShut d.back
  each_shut = each_among IsShut d.back (λ x i. let r = back_row x i in shut_by x (subst IsAtRest r.2 (at_rest r.0 r.1)) (among_each KeepsToWhatIsThere x d.back d.there i))

  -- no two rows have one device with which something was tried
  pub apart : HaveOwnNumbers (filter is_tried (map w (first_numbers count)))
  apart =
      let ns = first_numbers count in
      let these = filter (λ r. is_tried (w r)) ns in
      let tried_in : (r : ℕ) → IsAmong r these → IsAmong r d.rows = λ r m. let f = among_filter (λ k. is_tried (w k)) r ns m in let b = among_range 0 count r f.0 in let some = ltb-true 0 ((w r).opens + (w r).open_faults) f.1 in tried_made r (omega (arith, b.1)) (omega (arith, some)) in
      subst (λ l. IsDistinct nat_eq l) (sym (ap device_numbers (filter_map_is is_tried w ns) ∙ map_twice w (λ (x : DeviceTold). x.number) these))
      (distinct_map (λ r. (w r).number) these (distinct_filter (λ r. is_tried (w r)) ns (range_distinct 0 count)) (λ x y i j e. one_number old.files places w x y (length old.made) d.rows d.devices (tried_in x i) (tried_in y j) e))

  -- where no device that came back has a fault, none has
  pub faultless : AllByRecursion (λ x. faults_of x ≡ 0) (came_back old new) → (r : ℕ) → r < count → faults_of (w r) ≡ 0
  faultless none r l =
      let p = at_some places r l in
      ⊎_elim (λ i. among_each (λ (x : DeviceTold). faults_of x ≡ 0) (w r) d.back (subst (λ ds. AllByRecursion (λ (x : DeviceTold). faults_of x ≡ 0) ds) back_is none) (stood r i)) (λ u. u.untouched.faults) (made_or_not r p.0 p.1)

  -- a row at one of these places whose device counted so
  abbrev pub IsCountedRow : List Place → (DeviceTold → ℕ) → Type 0
  IsCountedRow ps n = (r : ℕ) × (p : Place) × (at places r ≡ Some p) × IsAmong p ps × (0 < n (w r))

  -- a device that came back, was made for one of these places and counted so
  abbrev IsCountedBack : List Place → (DeviceTold → ℕ) → Type 0
  IsCountedBack ps n = (x : DeviceTold) × IsAmong x (came_back old new) × IsAmong x.place ps × (0 < n x)

  counted : (ps : List Place) (n : DeviceTold → ℕ) → ((x : DeviceTold) → n x ≤ faults_of x) → IsCountedRow ps n → IsCountedBack ps n
  counted ps n less (r, p, is, listed, some) =
      let i = tried_made r (at_below places r p is) (omega (arith, less (w r), some)) in
      (w r, subst (λ ds. IsAmong (w r) ds) (sym back_is) (stood r i), subst (λ q. IsAmong q ps) (sym (placed_at r p is).0) listed, some)

  shown_code : (ps : List Place) (c : Code) → IfSome (act_count c) (IsCountedRow ps) → IfSome (act_count c) (IsCountedBack ps)
  shown_code ps code.Open h = counted ps (λ x. x.open_faults) (λ x. omega arith) h
  shown_code ps code.Read h = counted ps (λ x. x.read_faults) (λ x. omega arith) h
  shown_code ps code.Write h = counted ps (λ x. x.write_faults) (λ x. omega arith) h
  shown_code ps c h = tt

  -- a fault of an act has a device of a row at one of these places that shows it
  pub shown : (ps : List Place) (e : How) → ((c : Code) → e ≡ how.Fault c → IfSome (act_count c) (IsCountedRow ps)) → IsShown (came_back old new) ps e
  shown ps (how.Fault c) f = shown_code ps c (f c refl)
  shown ps e f = tt

  module _ (L : List Event) (a : AreRowsKept count w L) where
    opened_in : (r : ℕ) → r < count → (w r).opens ≡ 1 → IsAmong r d.rows
    opened_in r l o = tried_made r l (omega (arith, o))

    pub accounted : DevicesAccounted old new places L
    accounted = record {
      made = d.made ∙ ap (λ ps. old.made ++ ps) (sym made_is);
      few = subst (λ ps. AreNoMore ps places) (sym made_is) few;
      retired = d.retired ∙ ap (λ ds. old.retired ++ ds) (sym back_is);
      once = subst (λ ds. IsPermutation (numbered (length old.made) (made_for old new)) (map named ds)) (sym back_is)
          (subst (λ ps. IsPermutation (numbered (length old.made) ps) (map named d.back)) (sym made_is)
          (subst (λ xs. IsPermutation xs (map named d.back)) (names_are old.files places w (length old.made) d.rows d.devices) (IsPermutation-map named (map w d.rows) d.back d.each)));
      shut = subst (λ ds. AllByRecursion IsShut ds) (sym back_is) each_shut;
      rows = rows_below count w L a;
      acquired = subst (λ ds. AreAsMany (λ d. nat_eq d.opens 1) acquired_row ds places L) (sym back_is) (acquired_devices places w L a d.rows d.apart inside at_rest opened_in in_place d.back d.each);
      failed = subst (λ ds. AreAsMany (λ d. nat_lt 0 d.close_faults) failed_row ds places L) (sym back_is) (failed_devices places w L a d.rows d.apart inside at_rest opened_in in_place d.back d.each);
      exits = λ x. subst (λ ds. AreAsMany (is_closed_with x) (ended_row x) ds places L) (sym back_is) (ended_devices places w L a d.rows d.apart inside at_rest opened_in in_place d.back d.each x);
      files = subst (λ ds. KeepsFilesBut (IsWrittenBy ds) old.files new.files) (sym back_is) d.files;
      stored = subst (λ ds. AllByRecursion (KeepsWritten new.files) ds) (sym back_is) d.stored;
    }

    -- the rows are at home
    pub homes : (work : Work) (c : RunRecord) (v : Values) → row_places work ≡ places → c.depot_old ≡ old → c.depot_new ≡ new → c.events ≡ L → HaveValues work.opener w v → AreLeftAlone work c w → HaveHomes work c v w
    homes work c v all is_old is_new is values left =
        let back : came_back c.depot_old c.depot_new ≡ d.back = ap (λ x. came_back x c.depot_new) is_old ∙ (ap (λ x. came_back old x) is_new ∙ back_is) in
        record {
          at_home = subst (λ ps. AreAtHome c w 0 ps) (sym all) (at_home_by old.files places w c 0 places (λ r p e.
              let z : r ≡ 0 + r = omega arith in
              subst (λ k. ((w k).place ≡ p) × ((w k).content ≡ content_at c.depot_old.files p.path) × (IsBack c (w k) ⊎ IsUntouched (w k))) z
              (let x = placed_at r p e in (x.0, x.1 ∙ ap (λ (t : DepotTold). content_at t.files p.path) (sym is_old), ⊎_elim (λ i. inl (subst (λ ds. IsAmong (w r) ds) (sym back) i)) (λ u. inr u) x.2))));
          apart = subst (λ ps. HaveOwnNumbers (filter is_tried (map w (first_numbers (length ps))))) (sym all) apart;
          tied = subst (λ (l : List Event). AllByRecursion (λ e. IsTied w e.what) l) (sym is) (tied count w L a);
          values = values;
          alone = left;
          housed = λ x i. let r = back_row x (subst (λ ds. IsAmong x ds) back i) in (r.0, subst (λ ps. r.0 < length ps) (sym all) (inside r.0 r.1), sym r.2);
        }
