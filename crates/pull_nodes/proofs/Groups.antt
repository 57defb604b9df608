-- Groups of n of a list that goes on.
use Rattle.std.proofs.Common.{◌≡◌, ⊎_elim, ℕ, zero, suc, ◌+◌, ◌*◌, ◌/◌, ◌<◌, ◌≤◌, List, [], ◌∷◌, ◌++◌, length, take, drop, ap, sym, ◌∙◌, arith, append_assoc, length-append}
use Rattle.std.proofs.lemmas.Bool.{cases_lt}
use Rattle.std.proofs.lemmas.List.{append_cancel_right, take-append-drop, take-append-le, drop-append-le, drop-drop, length-drop}
use Rattle.std.proofs.Math.Nat.{div-eq_of_lt, div-eq-sub-div}
use Rattle.pull_nodes.specs.Plain.{groups, multiple, ungrouped}

-- the whole groups, and the elements in them
abbrev pub grouped : {A : Type 0} → ℕ → List A → List (List A)
grouped n xs = groups n (length xs / n) xs

abbrev pub in_groups : {A : Type 0} → ℕ → List A → List A
in_groups n xs = take (multiple n (length xs)) xs

module _ {A : Type 0} (n : ℕ) (some : 0 < n) where
  count-step : (xs : List A) → n ≤ length xs → length xs / n ≡ suc (length (drop n xs) / n)
  count-step xs le =
      let one = div-eq-sub-div {m = n} {n = length xs} some le in
      let rest = ap (λ k. k / n) (length-drop n xs) in
      omega (arith, one, rest)

  count-short : (xs : List A) → length xs < n → length xs / n ≡ 0
  count-short xs less = div-eq_of_lt less

  pub grouped-step : (xs : List A) → n ≤ length xs → grouped n xs ≡ take n xs ∷ grouped n (drop n xs)
  grouped-step xs le = ap (λ k. groups n k xs) (count-step xs le)

  pub grouped-short : (xs : List A) → length xs < n → grouped n xs ≡ []
  grouped-short xs less = ap (λ k. groups n k xs) (count-short xs less)

  multiple-step : (xs : List A) → n ≤ length xs → multiple n (length xs) ≡ n + multiple n (length (drop n xs))
  multiple-step xs le = ap (λ k. n * k) (count-step xs le) ∙ omega arith

  pub ungrouped-step : (xs : List A) → n ≤ length xs → ungrouped n xs ≡ ungrouped n (drop n xs)
  ungrouped-step xs le = ap (λ k. drop k xs) (multiple-step xs le) ∙ sym (drop-drop (multiple n (length (drop n xs))) n xs)

  pub ungrouped-short : (xs : List A) → length xs < n → ungrouped n xs ≡ xs
  ungrouped-short xs less = let none : multiple n (length xs) ≡ 0 = ap (λ k. n * k) (count-short xs less) ∙ omega arith in ap (λ k. drop k xs) none

  pub grouped_and_rest : (xs : List A) → in_groups n xs ++ ungrouped n xs ≡ xs
  grouped_and_rest xs = take-append-drop (multiple n (length xs)) xs

  seam_take : (xs ys : List A) → n ≤ length xs → take n (xs ++ ys) ≡ take n xs
  seam_take xs ys le = take-append-le n xs ys le

  longer : (xs ys : List A) → n ≤ length xs → n ≤ length (xs ++ ys)
  longer xs ys le = omega (arith, length-append xs ys)

  grouped_within : (k : ℕ) (xs ys : List A) → length xs < k → grouped n (xs ++ ys) ≡ grouped n xs ++ grouped n (ungrouped n xs ++ ys)
  grouped_within zero xs ys less = absurd (omega arith)
  grouped_within (suc k) xs ys less = ⊎_elim
      (λ (short : length xs < n). sym (ap (λ l. l ++ grouped n (ungrouped n xs ++ ys)) (grouped-short xs short) ∙ ap (λ l. grouped n (l ++ ys)) (ungrouped-short xs short)))
      (λ (le : n ≤ length xs).
      let later = grouped_within k (drop n xs) ys (omega (arith, length-drop n xs)) in
      grouped-step (xs ++ ys) (longer xs ys le)
      ∙ ((λ i. take-append-le n xs ys le i ∷ (ap (grouped n) (drop-append-le n xs ys le) ∙ later) i)
      ∙ (λ i. sym (grouped-step xs le) i ++ grouped n (sym (ungrouped-step xs le) i ++ ys))))
      (cases_lt (length xs) n)

  -- the groups of a list that goes on: what stands behind the last whole group decides
  pub grouped-append : (xs ys : List A) → grouped n (xs ++ ys) ≡ grouped n xs ++ grouped n (ungrouped n xs ++ ys)
  grouped-append xs ys = grouped_within (suc (length xs)) xs ys (omega arith)

  ungrouped_within : (k : ℕ) (xs ys : List A) → length xs < k → ungrouped n (xs ++ ys) ≡ ungrouped n (ungrouped n xs ++ ys)
  ungrouped_within zero xs ys less = absurd (omega arith)
  ungrouped_within (suc k) xs ys less = ⊎_elim
      (λ (short : length xs < n). sym (ap (λ l. ungrouped n (l ++ ys)) (ungrouped-short xs short)))
      (λ (le : n ≤ length xs).
      let later = ungrouped_within k (drop n xs) ys (omega (arith, length-drop n xs)) in
      ungrouped-step (xs ++ ys) (longer xs ys le)
      ∙ (ap (ungrouped n) (drop-append-le n xs ys le) ∙ (later ∙ ap (λ l. ungrouped n (l ++ ys)) (sym (ungrouped-step xs le)))))
      (cases_lt (length xs) n)

  pub ungrouped-append : (xs ys : List A) → ungrouped n (xs ++ ys) ≡ ungrouped n (ungrouped n xs ++ ys)
  ungrouped-append xs ys = ungrouped_within (suc (length xs)) xs ys (omega arith)

  -- the elements that stand in whole groups
  pub in_groups-append : (xs ys : List A) → in_groups n (xs ++ ys) ≡ in_groups n xs ++ in_groups n (ungrouped n xs ++ ys)
  in_groups-append xs ys =
      let u = ungrouped n xs ++ ys in
      let whole : in_groups n (xs ++ ys) ++ ungrouped n u ≡ (in_groups n xs ++ in_groups n u) ++ ungrouped n u =
      ap (λ l. in_groups n (xs ++ ys) ++ l) (sym (ungrouped-append xs ys))
      ∙ (grouped_and_rest (xs ++ ys)
      ∙ (ap (λ l. l ++ ys) (sym (grouped_and_rest xs))
      ∙ (append_assoc (in_groups n xs) (ungrouped n xs) ys
      ∙ (ap (λ l. in_groups n xs ++ l) (sym (grouped_and_rest u))
      ∙ sym (append_assoc (in_groups n xs) (in_groups n u) (ungrouped n u)))))) in
      append_cancel_right (in_groups n (xs ++ ys)) (in_groups n xs ++ in_groups n u) (ungrouped n u) whole
