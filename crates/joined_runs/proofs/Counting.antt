-- Counts of devices and of rows.
use Rattle.std.proofs.Common.{◌≡◌, ℕ, ◌+◌, ◌<◌, Bool, true, false, cond, ◌&&◌, List, [], ◌∷◌, ◌++◌, map, filter, flat_map, length, count_by, Option, Some, None, refl, sym, ◌∙◌, ap, subst, ⊎_elim, arith, append_assoc, nat_eq}
use Rattle.std.proofs.lemmas.List.Sums.{sum_by-cons}
use Rattle.std.proofs.lemmas.List.Sorted.{IsPermutation-map, sum_by-IsPermutation}
use Rattle.std.specs.List.{filter_map, cons_option, IsDistinct}
use Rattle.std.specs.List.Sorted.{IsPermutation}
use Rattle.chunk_core.specs.Lists.{IsAmong}
use Rattle.chunk_core.specs.Lists.IsAmong.{here, there}
use Rattle.chunk_core.proofs.Members.{among_nil, among_cons, among_mid}
use Rattle.chunk_core.proofs.Filters.{among_filter, filter_among}
use Rattle.res_ledger.proofs.Prefixes.{split_at}
use Rattle.res_ledger.specs.declared.event.What.{What}
use Rattle.res_ledger.specs.declared.event.Event.{Event}
use Rattle.device_port.specs.Device.{Place, DeviceTold}
use Rattle.run_rules.specs.Facts.{is_place}
use Rattle.run_rules.specs.Devices.{AreAsMany, place_of_row}
use Rattle.chunk_core.proofs.Distinct.{distinct_filter, distinct_cons, distinct_nil}
use Rattle.chunk_core.proofs.Each.{each_of}
use Rattle.res_ledger.proofs.Permuted.{same_elements}

module _ {A B : Type 0} where
  pub filter_map_is : (t : B → Bool) (g : A → B) (xs : List A) → filter t (map g xs) ≡ map g (filter (λ x. t (g x)) xs)
  filter_map_is t g [] = refl
  filter_map_is t g (x ∷ xs) =
      let rest = filter_map_is t g xs in
      elim (t (g x)) as (λ b. cond b (g x ∷ filter t (map g xs)) (filter t (map g xs)) ≡ map g (cond b (x ∷ filter (λ y. t (g y)) xs) (filter (λ y. t (g y)) xs))) [ true ↦ ap (λ l. g x ∷ l) rest | false ↦ rest ]

  -- what passes a filter and then a test
  count_filtered : (t : A → Bool) (g : A → B) (f : B → Bool) (xs : List A) → count_by f (map g (filter t xs)) ≡ count_by (λ x. t x && f (g x)) xs
  count_filtered t g f [] = refl
  count_filtered t g f (x ∷ xs) =
      elim (t x) as (λ b. count_by f (map g (cond b (x ∷ filter t xs) (filter t xs))) ≡ cond (b && f (g x)) 1 0 + count_by (λ y. t y && f (g y)) xs) [
        | true ↦ sum_by-cons (λ y. cond (f y) 1 0) (g x) (map g (filter t xs)) ∙ ap (λ n. cond (f (g x)) 1 0 + n) (count_filtered t g f xs)
        | false ↦ let e = count_filtered t g f xs in omega (arith, e)
      ]
      ∙ sym (sum_by-cons (λ y. cond (t y && f (g y)) 1 0) x xs)

  -- of lists with the same elements as many pass
  pub count_permuted : (t : A → Bool) (g : A → B) (f : B → Bool) (xs ys : List A) → IsPermutation xs ys → count_by f (map g (filter t ys)) ≡ count_by f (map g (filter t xs))
  count_permuted t g f xs ys h = count_filtered t g f ys ∙ (sum_by-IsPermutation (λ x. cond (t x && f (g x)) 1 0) xs ys h ∙ sym (count_filtered t g f xs))

  -- what is drawn from a list comes from one of its elements
  pub filter_map_from : (g : A → Option B) (y : B) (xs : List A) → IsAmong y (filter_map g xs) → (x : A) × IsAmong x xs × (g x ≡ Some y)
  filter_map_from g y [] m = absurd (among_nil m)
  filter_map_from g y (x ∷ xs) m = (elim (g x) as (λ o. g x ≡ o → IsAmong y (cons_option o (filter_map g xs)) → (z : A) × IsAmong z (x ∷ xs) × (g z ≡ Some y)) [
    | None ↦ λ e i. let r = filter_map_from g y xs i in (r.0, there x r.1, r.2)
    | Some z ↦ λ e i. ⊎_elim (λ q. (x, here xs, e ∙ ap (λ w. Some w) (sym q))) (λ j. let r = filter_map_from g y xs j in (r.0, there x r.1, r.2)) (among_cons i)
  ]) refl m

  pub filter_map_of : (g : A → Option B) (y : B) (x : A) (xs : List A) → IsAmong x xs → g x ≡ Some y → IsAmong y (filter_map g xs)
  filter_map_of g y x xs (here ys) e = subst (λ o. IsAmong y (cons_option o (filter_map g ys))) (sym e) (here (filter_map g ys))
  filter_map_of g y x xs (there {xs = ys} z m) e =
      let rest = filter_map_of g y x ys m e in
      elim (g z) as (λ o. IsAmong y (cons_option o (filter_map g ys))) [ None ↦ rest | Some w ↦ there w rest ]

-- the rows that the events name
abbrev pub rows_named : (What → Option ℕ) → List Event → List ℕ
rows_named row L = filter_map (λ e. row e.what) L

-- where no event names a row that one before it names, no row is named twice
pub named_once : (row : What → Option ℕ) (L : List Event)
    → ((P Q : List Event) (e : Event) (r : ℕ) → L ≡ P ++ e ∷ Q → row e.what ≡ Some r → ¬ (IsAmong r (rows_named row P)))
    → IsDistinct nat_eq (rows_named row L)
named_once row L apart = behind [] L refl
  where
    behind : (P Q : List Event) → L ≡ P ++ Q → IsDistinct nat_eq (rows_named row Q)
    behind P [] is = distinct_nil
    behind P (e ∷ Q) is =
        let rest = behind (P ++ e ∷ []) Q (is ∙ sym (append_assoc P (e ∷ []) Q)) in
        (elim (row e.what) as (λ o. row e.what ≡ o → IsDistinct nat_eq (cons_option o (rows_named row Q))) [
          | None ↦ λ n. rest
          | Some r ↦ λ n. distinct_cons r (rows_named row Q)
              (λ m.
              let f = filter_map_from (λ (x : Event). row x.what) r Q m in
              let parts = split_at f.0 Q f.1 in
              apart (P ++ e ∷ parts.0) parts.1 f.0 r (is ∙ (ap (λ l. P ++ e ∷ l) parts.2 ∙ sym (append_assoc P (e ∷ parts.0) (f.0 ∷ parts.1)))) f.2
              (filter_map_of (λ (x : Event). row x.what) r e (P ++ e ∷ parts.0) (among_mid P parts.0 e) n))
              rest
        ]) refl

-- the places of rows, where each has one
module _ (places : List Place) (w : ℕ → DeviceTold) (placed : (r : ℕ) → r < length places → place_of_row places (Some r) ≡ (w r).place ∷ []) where
  places_named : (row : What → Option ℕ) (L : List Event) → ((r : ℕ) → IsAmong r (rows_named row L) → r < length places) → flat_map (λ e. place_of_row places (row e.what)) L ≡ map (λ r. (w r).place) (rows_named row L)
  places_named row [] h = refl
  places_named row (e ∷ L) h =
      (elim (row e.what) as (λ o. ((r : ℕ) → IsAmong r (cons_option o (rows_named row L)) → r < length places) → place_of_row places o ++ flat_map (λ x. place_of_row places (row x.what)) L ≡ map (λ r. (w r).place) (cons_option o (rows_named row L))) [
        | None ↦ λ l. places_named row L l
        | Some r ↦ λ l. ap (λ l. l ++ flat_map (λ x. place_of_row places (row x.what)) L) (placed r (l r (here (rows_named row L)))) ∙ ap (λ l. (w r).place ∷ l) (places_named row L (λ q m. l q (there r m)))
      ]) h

  -- the devices of these rows that pass are as many as the rows named, where a row is named exactly if it is one of these and its device passes
  pub as_many_of : (passes : DeviceTold → Bool) (row : What → Option ℕ) (rs : List ℕ) (back : List DeviceTold) (L : List Event) → IsPermutation (map w rs) back → IsDistinct nat_eq rs → IsDistinct nat_eq (rows_named row L)
      → ((r : ℕ) → IsAmong r (rows_named row L) → IsAmong r rs × (r < length places) × (passes (w r) ≡ true)) → ((r : ℕ) → IsAmong r rs → passes (w r) ≡ true → IsAmong r (rows_named row L)) → AreAsMany passes row back places L
  as_many_of passes row rs back L each apart once only all =
      let these = filter (λ r. passes (w r)) rs in
      let same : IsPermutation these (rows_named row L) = same_elements these (rows_named row L) (distinct_filter (λ r. passes (w r)) rs apart) once
      (λ r m. let f = among_filter (λ q. passes (w q)) r rs m in all r f.0 f.1)
      (λ r m. let o = only r m in filter_among (λ q. passes (w q)) r rs o.0 o.2) in
      each_of (λ (p : Place). count_by (is_place p) (map (λ (d : DeviceTold). d.place) (filter passes back)) ≡ count_by (is_place p) (flat_map (λ e. place_of_row places (row e.what)) L))
      (λ p. count_permuted passes (λ (d : DeviceTold). d.place) (is_place p) (map w rs) back each
      ∙ (ap (λ (ds : List DeviceTold). count_by (is_place p) (map (λ d. d.place) ds)) (filter_map_is passes w rs)
      ∙ (ap (λ ps. count_by (is_place p) ps) (map_twice these)
      ∙ (sym (sum_by-IsPermutation (λ q. cond (is_place p q) 1 0) (map (λ r. (w r).place) these) (map (λ r. (w r).place) (rows_named row L)) (IsPermutation-map (λ r. (w r).place) these (rows_named row L) same))
      ∙ ap (λ ps. count_by (is_place p) ps) (sym (places_named row L (λ r m. (only r m).1)))))))
      (map (λ (d : DeviceTold). d.place) (filter passes back) ++ flat_map (λ e. place_of_row places (row e.what)) L)
    where
      map_twice : (rs : List ℕ) → map (λ (d : DeviceTold). d.place) (map w rs) ≡ map (λ r. (w r).place) rs
      map_twice [] = refl
      map_twice (r ∷ rs) = ap (λ l. (w r).place ∷ l) (map_twice rs)
