-- How often a number, a row and a pair stand in a list.
use Rattle.std.proofs.Common.{◌≡◌, ◌≢◌, ℕ, zero, suc, ◌+◌, ◌<◌, ◌≤◌, ◌⊎◌, Bool, true, false, not, cond, eqb, filter, List, [], ◌∷◌, ◌++◌, length, inl, inr, refl, sym, ap, ◌∙◌, subst, ⊎_elim, arith, ne_eqb, eq-eqb}
use Rattle.std.proofs.lemmas.Bool.{cases_eq}
use Rattle.chunk_core.specs.Lists.{IsAmong}
use Rattle.chunk_core.proofs.Members.{among_cons, among_nil}
use Rattle.chunk_core.specs.Lists.IsAmong.{here, there}
use Rattle.res_ledger.specs.declared.event.Event.{Event}
use Rattle.row_seat.specs.Totals.{pair_times, row_times, stamp_times, times}
use Rattle.row_seat.specs.Views.{run, without, without_pair}
use Rattle.row_seat.specs.Steps.{without_one}
use Rattle.row_seat.proofs.Members.{among_without}

pub times_some : (r : ℕ) (xs : List ℕ) → IsAmong r xs → 1 ≤ times r xs
times_some r [] h = absurd (among_nil h)
times_some r (x ∷ xs) h = ⊎_elim
    (λ e. subst (λ b. 1 ≤ cond b 1 0 + times r xs) (sym (eq-eqb x r (sym e))) (omega arith))
    (λ m. let t = times_some r xs m in omega arith)
    (among_cons h)

pub times_in : (r : ℕ) (xs : List ℕ) → 1 ≤ times r xs → IsAmong r xs
times_in r [] h = absurd (omega arith)
times_in r (x ∷ xs) h = ⊎_elim
    (λ e. subst (λ y. IsAmong r (y ∷ xs)) (sym e) (here xs))
    (λ ne. there x (times_in r xs (let t : 1 ≤ 0 + times r xs = subst (λ b. 1 ≤ cond b 1 0 + times r xs) (ne_eqb x r ne) h in omega arith)))
    (cases_eq x r)

pub times_push : (r q : ℕ) (xs : List ℕ) → times r (xs ++ q ∷ []) ≡ times r xs + cond (eqb q r) 1 0
times_push r q [] = omega arith
times_push r q (x ∷ xs) = let t = times_push r q xs in omega arith

pub times_both : (r : ℕ) (xs ys : List ℕ) → times r (xs ++ ys) ≡ times r xs + times r ys
times_both r [] ys = omega arith
times_both r (x ∷ xs) ys = let t = times_both r xs ys in omega arith

pub push_same : (r : ℕ) (xs : List ℕ) → times r (xs ++ r ∷ []) ≡ times r xs + 1
push_same r xs = times_push r r xs ∙ ap (λ b. times r xs + cond b 1 0) (eq-eqb r r refl)

pub push_other : (r q : ℕ) (xs : List ℕ) → r ≢ q → times r (xs ++ q ∷ []) ≡ times r xs
push_other r q xs ne = times_push r q xs ∙ (ap (λ b. times r xs + cond b 1 0) (ne_eqb q r (λ e. ne (sym e))) ∙ omega arith)

abbrev pub if_so : Bool → ℕ → ℕ
if_so true n = n
if_so false n = 0

zero_so : (b : Bool) (n : ℕ) → if_so b n ≡ if_so b (0 + n)
zero_so true n = omega arith
zero_so false n = refl

plus_so : (b : Bool) (n : ℕ) → 0 + if_so b n ≡ if_so b (0 + n)
plus_so true n = refl
plus_so false n = omega arith

pub times_filter : (f : ℕ → Bool) (r : ℕ) (xs : List ℕ) → times r (filter f xs) ≡ if_so (f r) (times r xs)
times_filter f r [] = elim (f r) as (λ b. times r [] ≡ if_so b 0) [ true ↦ refl | false ↦ refl ]
times_filter f r (x ∷ xs) = let t = times_filter f r xs in ⊎_elim
    (λ e. subst (λ y. times r (cond (f y) (y ∷ filter f xs) (filter f xs)) ≡ if_so (f r) (cond (eqb y r) 1 0 + times r xs)) (sym e)
    (elim (f r) as (λ b. times r (filter f xs) ≡ if_so b (times r xs) → times r (cond b (r ∷ filter f xs) (filter f xs)) ≡ if_so b (cond (eqb r r) 1 0 + times r xs))
    [ true ↦ λ t. ap (λ n. cond (eqb r r) 1 0 + n) t | false ↦ λ t. t ] t))
    (λ ne. subst (λ c. times r (cond (f x) (x ∷ filter f xs) (filter f xs)) ≡ if_so (f r) (cond c 1 0 + times r xs)) (sym (ne_eqb x r ne))
    (elim (f x) as (λ b. times r (cond b (x ∷ filter f xs) (filter f xs)) ≡ if_so (f r) (0 + times r xs))
    [ true ↦ subst (λ c. cond c 1 0 + times r (filter f xs) ≡ if_so (f r) (0 + times r xs)) (sym (ne_eqb x r ne)) (ap (λ n. 0 + n) t ∙ plus_so (f r) (times r xs)) | false ↦ t ∙ zero_so (f r) (times r xs) ]))
    (cases_eq x r)

pub without_same : (r : ℕ) (xs : List ℕ) → times r (without r xs) ≡ 0
without_same r xs = times_filter (λ x. not (eqb x r)) r xs ∙ ap (λ b. if_so (not b) (times r xs)) (eq-eqb r r refl)

pub without_other : (r q : ℕ) (xs : List ℕ) → q ≢ r → times q (without r xs) ≡ times q xs
without_other r q xs ne = times_filter (λ x. not (eqb x r)) q xs ∙ ap (λ b. if_so (not b) (times q xs)) (ne_eqb q r ne)

length_times : (n : ℕ) (xs : List ℕ) → length (without n xs) + times n xs ≡ length xs
length_times n [] = refl
length_times n (x ∷ xs) = let t = length_times n xs in elim (eqb x n) as (λ b. length (cond (not b) (x ∷ without n xs) (without n xs)) + (cond b 1 0 + times n xs) ≡ suc (length xs)) [ true ↦ omega arith | false ↦ omega arith ]

without_less : (n r : ℕ) (xs : List ℕ) → times r (without n xs) ≤ times r xs
without_less n r xs = ⊎_elim (λ e. subst (λ z. times z (without n xs) ≤ times z xs) (sym e) (let t = without_same n xs in omega arith)) (λ ne. let t = without_other n r xs ne in omega arith) (cases_eq r n)

-- at most n numbers below n, each once
pub few_below : (n : ℕ) (xs : List ℕ) → ((r : ℕ) → IsAmong r xs → r < n) → ((r : ℕ) → times r xs ≤ 1) → length xs ≤ n
few_below zero [] low once = omega arith
few_below zero (x ∷ xs) low once = let l = low x (here xs) in absurd (omega arith)
few_below (suc n) xs low once =
    let t = few_below n (without n xs) (λ r m. let a = among_without n xs r m in let l = low r a.0 in let ne = a.1 in ⊎_elim (λ e. absurd (ne e)) (λ d. omega arith) (cases_eq r n)) (λ r. let a = without_less n r xs in let o = once r in omega arith) in
    let l = length_times n xs in let o = once n in omega arith

-- pairs
pub row_push : (r j q : ℕ) (xs : List (ℕ × ℕ)) → row_times r (xs ++ (j, q) ∷ []) ≡ row_times r xs + cond (eqb q r) 1 0
row_push r j q [] = omega arith
row_push r j q (x ∷ xs) = let t = row_push r j q xs in omega arith

pub row_push_same : (r j : ℕ) (xs : List (ℕ × ℕ)) → row_times r (xs ++ (j, r) ∷ []) ≡ row_times r xs + 1
row_push_same r j xs = row_push r j r xs ∙ ap (λ b. row_times r xs + cond b 1 0) (eq-eqb r r refl)

pub row_push_other : (r j q : ℕ) (xs : List (ℕ × ℕ)) → r ≢ q → row_times r (xs ++ (j, q) ∷ []) ≡ row_times r xs
row_push_other r j q xs ne = row_push r j q xs ∙ (ap (λ b. row_times r xs + cond b 1 0) (ne_eqb q r (λ e. ne (sym e))) ∙ omega arith)

pub row_some : (j r : ℕ) (xs : List (ℕ × ℕ)) → IsAmong (j, r) xs → 1 ≤ row_times r xs
row_some j r [] h = absurd (among_nil h)
row_some j r (x ∷ xs) h = ⊎_elim
    (λ e. subst (λ b. 1 ≤ cond b 1 0 + row_times r xs) (sym (eq-eqb x.1 r (ap (λ y. y.1) (sym e)))) (omega arith))
    (λ m. let t = row_some j r xs m in omega arith)
    (among_cons h)

pub pair_some : (j r : ℕ) (xs : List (ℕ × ℕ)) → IsAmong (j, r) xs → 1 ≤ pair_times j r xs
pair_some j r [] h = absurd (among_nil h)
pair_some j r (x ∷ xs) h = ⊎_elim
    (λ e. subst (λ b. 1 ≤ cond (cond b (eqb x.1 r) false) 1 0 + pair_times j r xs) (sym (eq-eqb x.0 j (ap (λ y. y.0) (sym e))))
    (subst (λ b. 1 ≤ cond b 1 0 + pair_times j r xs) (sym (eq-eqb x.1 r (ap (λ y. y.1) (sym e)))) (omega arith)))
    (λ m. let t = pair_some j r xs m in omega arith)
    (among_cons h)

pub zero_or : (n : ℕ) → (n ≡ 0) ⊎ (1 ≤ n)
zero_or zero = inl refl
zero_or (suc n) = inr (omega arith)

-- some view of the list, and the view v becomes w

pub one_less : (r : ℕ) (xs : List ℕ) → IsAmong r xs → times r (without_one r xs) + 1 ≡ times r xs
one_less r [] h = absurd (among_nil h)
one_less r (x ∷ xs) h = ⊎_elim
    (λ e. subst (λ b. times r (cond b xs (x ∷ without_one r xs)) + 1 ≡ cond b 1 0 + times r xs) (sym (eq-eqb x r e)) (omega arith))
    (λ ne. let m : IsAmong r xs = ⊎_elim (λ s. absurd (ne (sym s))) (λ m. m) (among_cons h) in let t = one_less r xs m in
    subst (λ b. times r (cond b xs (x ∷ without_one r xs)) + 1 ≡ cond b 1 0 + times r xs) (sym (ne_eqb x r ne))
    (subst (λ b. cond b 1 0 + times r (without_one r xs) + 1 ≡ 0 + times r xs) (sym (ne_eqb x r ne)) (omega arith)))
    (cases_eq x r)

pub one_other : (r q : ℕ) (xs : List ℕ) → q ≢ r → times q (without_one r xs) ≡ times q xs
one_other r q [] ne = refl
one_other r q (x ∷ xs) ne = ⊎_elim
    (λ e. subst (λ b. times q (cond b xs (x ∷ without_one r xs)) ≡ times q (x ∷ xs)) (sym (eq-eqb x r e))
    (let z : eqb x q ≡ false = ne_eqb x q (λ s. ne (sym s ∙ e)) in subst (λ b. times q xs ≡ cond b 1 0 + times q xs) (sym z) (omega arith)))
    (λ n. subst (λ b. times q (cond b xs (x ∷ without_one r xs)) ≡ times q (x ∷ xs)) (sym (ne_eqb x r n)) (ap (λ k. cond (eqb x q) 1 0 + k) (one_other r q xs ne)))
    (cases_eq x r)

pub one_among : (r q : ℕ) (xs : List ℕ) → IsAmong q (without_one r xs) → IsAmong q xs
one_among r q [] h = h
one_among r q (x ∷ xs) h = ⊎_elim
    (λ e. there x (subst (λ b. IsAmong q (cond b xs (x ∷ without_one r xs))) (eq-eqb x r e) h))
    (λ ne. ⊎_elim (λ s. subst (λ y. IsAmong q (y ∷ xs)) s (here xs)) (λ m. there x (one_among r q xs m)) (among_cons (let h' : IsAmong q (x ∷ without_one r xs) = subst (λ b. IsAmong q (cond b xs (x ∷ without_one r xs))) (ne_eqb x r ne) h in h')))
    (cases_eq x r)

pub one_kept : (r q : ℕ) (xs : List ℕ) → IsAmong q xs → q ≢ r → IsAmong q (without_one r xs)
one_kept r q xs h ne = let t = times_some q xs h in let o = one_other r q xs ne in times_in q (without_one r xs) (omega arith)

-- pairs
pub pair_push : (j r a b : ℕ) (xs : List (ℕ × ℕ)) → pair_times j r (xs ++ (a, b) ∷ []) ≡ pair_times j r xs + cond (cond (eqb a j) (eqb b r) false) 1 0
pair_push j r a b [] = omega arith
pair_push j r a b (x ∷ xs) = let t = pair_push j r a b xs in omega arith

pub pair_is : (a b j r : ℕ) → ((a ≡ j) × (b ≡ r) × (cond (eqb a j) (eqb b r) false ≡ true)) ⊎ (((a ≡ j) → (b ≡ r) → ⊥) × (cond (eqb a j) (eqb b r) false ≡ false))
pair_is a b j r = ⊎_elim
    (λ e. ⊎_elim (λ f. inl (e, f, subst (λ z. cond z (eqb b r) false ≡ true) (sym (eq-eqb a j e)) (eq-eqb b r f))) (λ n. inr ((λ s t. n t), subst (λ z. cond z (eqb b r) false ≡ false) (sym (eq-eqb a j e)) (ne_eqb b r n))) (cases_eq b r))
    (λ n. inr ((λ s t. n s), subst (λ z. cond z (eqb b r) false ≡ false) (sym (ne_eqb a j n)) refl))
    (cases_eq a j)

pub pair_in : (j r : ℕ) (xs : List (ℕ × ℕ)) → 1 ≤ pair_times j r xs → IsAmong (j, r) xs
pair_in j r [] h = absurd (omega arith)
pair_in j r (x ∷ xs) h = ⊎_elim
    (λ t. let x' : ℕ × ℕ = (j, r) in let e : x' ≡ x = ap (λ (n : ℕ). let y : ℕ × ℕ = (n, r) in y) (sym t.0) ∙ ap (λ (n : ℕ). let y : ℕ × ℕ = (x.0, n) in y) (sym t.1) in subst (λ y. IsAmong x' (y ∷ xs)) e (here xs))
    (λ t. there x (pair_in j r xs (let h' : 1 ≤ 0 + pair_times j r xs = subst (λ b. 1 ≤ cond b 1 0 + pair_times j r xs) t.1 h in omega arith)))
    (pair_is x.0 x.1 j r)

module _ (j r : ℕ) where
  pub gone_pair : (xs : List (ℕ × ℕ)) → pair_times j r (without_pair j r xs) ≡ 0
  gone_pair [] = refl
  gone_pair (x ∷ xs) = ⊎_elim
      (λ t. subst (λ b. pair_times j r (cond (not b) (x ∷ without_pair j r xs) (without_pair j r xs)) ≡ 0) (sym t.2) (gone_pair xs))
      (λ t. subst (λ b. pair_times j r (cond (not b) (x ∷ without_pair j r xs) (without_pair j r xs)) ≡ 0) (sym t.1) (let g = gone_pair xs in subst (λ b. cond b 1 0 + pair_times j r (without_pair j r xs) ≡ 0) (sym t.1) (omega arith)))
      (pair_is x.0 x.1 j r)

  pub other_pair : (a b : ℕ) (xs : List (ℕ × ℕ)) → ((a ≡ j) → (b ≡ r) → ⊥) → pair_times a b (without_pair j r xs) ≡ pair_times a b xs
  other_pair a b [] ne = refl
  other_pair a b (x ∷ xs) ne = ⊎_elim
      (λ t. let z : cond (eqb x.0 a) (eqb x.1 b) false ≡ false = ⊎_elim (λ s. absurd (ne (sym s.0 ∙ t.0) (sym s.1 ∙ t.1))) (λ s. s.1) (pair_is x.0 x.1 a b) in
      subst (λ c. pair_times a b (cond (not c) (x ∷ without_pair j r xs) (without_pair j r xs)) ≡ pair_times a b (x ∷ xs)) (sym t.2) (let o = other_pair a b xs ne in subst (λ c. pair_times a b (without_pair j r xs) ≡ cond c 1 0 + pair_times a b xs) (sym z) (omega arith)))
      (λ t. subst (λ c. pair_times a b (cond (not c) (x ∷ without_pair j r xs) (without_pair j r xs)) ≡ pair_times a b (x ∷ xs)) (sym t.1) (ap (λ k. cond (cond (eqb x.0 a) (eqb x.1 b) false) 1 0 + k) (other_pair a b xs ne)))
      (pair_is x.0 x.1 j r)

  pub row_less : (xs : List (ℕ × ℕ)) → row_times r (without_pair j r xs) + pair_times j r xs ≡ row_times r xs
  row_less [] = omega arith
  row_less (x ∷ xs) = let o = row_less xs in ⊎_elim
      (λ t. subst (λ c. row_times r (cond (not c) (x ∷ without_pair j r xs) (without_pair j r xs)) + (cond c 1 0 + pair_times j r xs) ≡ row_times r (x ∷ xs)) (sym t.2)
      (subst (λ c. row_times r (without_pair j r xs) + (1 + pair_times j r xs) ≡ cond c 1 0 + row_times r xs) (sym (eq-eqb x.1 r t.1)) (omega arith)))
      (λ t. subst (λ c. row_times r (cond (not c) (x ∷ without_pair j r xs) (without_pair j r xs)) + (cond c 1 0 + pair_times j r xs) ≡ row_times r (x ∷ xs)) (sym t.1) (omega arith))
      (pair_is x.0 x.1 j r)

  pub row_else : (q : ℕ) (xs : List (ℕ × ℕ)) → q ≢ r → row_times q (without_pair j r xs) ≡ row_times q xs
  row_else q [] ne = refl
  row_else q (x ∷ xs) ne = ⊎_elim
      (λ t. let z : eqb x.1 q ≡ false = ne_eqb x.1 q (λ s. ne (sym s ∙ t.1)) in
      subst (λ c. row_times q (cond (not c) (x ∷ without_pair j r xs) (without_pair j r xs)) ≡ row_times q (x ∷ xs)) (sym t.2) (let o = row_else q xs ne in subst (λ c. row_times q (without_pair j r xs) ≡ cond c 1 0 + row_times q xs) (sym z) (omega arith)))
      (λ t. subst (λ c. row_times q (cond (not c) (x ∷ without_pair j r xs) (without_pair j r xs)) ≡ row_times q (x ∷ xs)) (sym t.1) (ap (λ k. cond (eqb x.1 q) 1 0 + k) (row_else q xs ne)))
      (pair_is x.0 x.1 j r)

  pub pair_among : (a b : ℕ) (xs : List (ℕ × ℕ)) → IsAmong (a, b) (without_pair j r xs) → IsAmong (a, b) xs × ((a ≡ j) → (b ≡ r) → ⊥)
  pair_among a b xs h = ⊎_elim
      (λ t. let s = pair_some a b (without_pair j r xs) h in let g = gone_pair xs in
      let g' : pair_times a b (without_pair j r xs) ≡ 0 = subst (λ (n : ℕ). pair_times n b (without_pair j r xs) ≡ 0) (sym t.0) (subst (λ (n : ℕ). pair_times j n (without_pair j r xs) ≡ 0) (sym t.1) g) in absurd (omega arith))
      (λ t. let s = pair_some a b (without_pair j r xs) h in let o = other_pair a b xs t.0 in (pair_in a b xs (omega arith), t.0))
      (pair_is a b j r)

  pub pair_kept : (a b : ℕ) (xs : List (ℕ × ℕ)) → IsAmong (a, b) xs → ((a ≡ j) → (b ≡ r) → ⊥) → IsAmong (a, b) (without_pair j r xs)
  pair_kept a b xs h ne = let s = pair_some a b xs h in let o = other_pair a b xs ne in pair_in a b (without_pair j r xs) (omega arith)

pub pair_push_same : (j r a b : ℕ) (xs : List (ℕ × ℕ)) → cond (eqb a j) (eqb b r) false ≡ true → pair_times j r (xs ++ (a, b) ∷ []) ≡ pair_times j r xs + 1
pair_push_same j r a b xs e = subst (λ c. pair_times j r (xs ++ (a, b) ∷ []) ≡ pair_times j r xs + cond c 1 0) e (pair_push j r a b xs)

pub pair_push_other : (j r a b : ℕ) (xs : List (ℕ × ℕ)) → cond (eqb a j) (eqb b r) false ≡ false → pair_times j r (xs ++ (a, b) ∷ []) ≡ pair_times j r xs
pair_push_other j r a b xs e = let t : pair_times j r (xs ++ (a, b) ∷ []) ≡ pair_times j r xs + 0 = subst (λ c. pair_times j r (xs ++ (a, b) ∷ []) ≡ pair_times j r xs + cond c 1 0) e (pair_push j r a b xs) in omega arith

pub times_cut : (f : ℕ → Bool) (r : ℕ) (xs : List ℕ) → times r (filter f xs) + times r (filter (λ x. not (f x)) xs) ≡ times r xs
times_cut f r [] = omega arith
times_cut f r (x ∷ xs) = let t = times_cut f r xs in elim (f x) as (λ b. times r (cond b (x ∷ filter f xs) (filter f xs)) + times r (cond (not b) (x ∷ filter (λ x. not (f x)) xs) (filter (λ x. not (f x)) xs)) ≡ cond (eqb x r) 1 0 + times r xs) [ true ↦ omega arith | false ↦ omega arith ]

pub row_cut : (f : ℕ × ℕ → Bool) (r : ℕ) (xs : List (ℕ × ℕ)) → row_times r (filter f xs) + row_times r (filter (λ x. not (f x)) xs) ≡ row_times r xs
row_cut f r [] = omega arith
row_cut f r (x ∷ xs) = let t = row_cut f r xs in elim (f x) as (λ b. row_times r (cond b (x ∷ filter f xs) (filter f xs)) + row_times r (cond (not b) (x ∷ filter (λ x. not (f x)) xs) (filter (λ x. not (f x)) xs)) ≡ cond (eqb x.1 r) 1 0 + row_times r xs) [ true ↦ omega arith | false ↦ omega arith ]

pub pair_cut : (f : ℕ × ℕ → Bool) (j r : ℕ) (xs : List (ℕ × ℕ)) → pair_times j r (filter f xs) + pair_times j r (filter (λ x. not (f x)) xs) ≡ pair_times j r xs
pair_cut f j r [] = omega arith
pair_cut f j r (x ∷ xs) = let t = pair_cut f j r xs in elim (f x) as (λ b. pair_times j r (cond b (x ∷ filter f xs) (filter f xs)) + pair_times j r (cond (not b) (x ∷ filter (λ x. not (f x)) xs) (filter (λ x. not (f x)) xs)) ≡ cond (cond (eqb x.0 j) (eqb x.1 r) false) 1 0 + pair_times j r xs) [ true ↦ omega arith | false ↦ omega arith ]

-- numbers in a row
pub run_out : (r n k : ℕ) → (r < n) ⊎ (n + k ≤ r) → times r (run n k) ≡ 0
run_out r n zero h = refl
run_out r n (suc k) h = let t = run_out r (suc n) k (⊎_elim (λ a. inl (omega arith)) (λ b. inr (omega arith)) h) in
    let ne : n ≢ r = λ e. ⊎_elim (λ a. omega arith) (λ b. omega arith) h in subst (λ b. cond b 1 0 + times r (run (suc n) k) ≡ 0) (sym (ne_eqb n r ne)) (omega arith)

pub run_in : (r n k : ℕ) → n ≤ r → r < n + k → times r (run n k) ≡ 1
run_in r n zero a b = absurd (omega arith)
run_in r n (suc k) a b = ⊎_elim
    (λ e. subst (λ c. cond c 1 0 + times r (run (suc n) k) ≡ 1) (sym (eq-eqb n r e)) (let t = run_out r (suc n) k (inl (omega arith)) in omega arith))
    (λ ne. subst (λ c. cond c 1 0 + times r (run (suc n) k) ≡ 1) (sym (ne_eqb n r ne)) (let t = run_in r (suc n) k (omega arith) (omega arith) in omega arith))
    (cases_eq n r)

pub run_length : (n k : ℕ) → length (run n k) ≡ k
run_length n zero = refl
run_length n (suc k) = ap suc (run_length (suc n) k)

pub row_in : (r : ℕ) (xs : List (ℕ × ℕ)) → 1 ≤ row_times r xs → (j : ℕ) × IsAmong (j, r) xs
row_in r [] h = absurd (omega arith)
row_in r (x ∷ xs) h = ⊎_elim
    (λ e. let y : ℕ × ℕ = (x.0, r) in let s : y ≡ x = ap (λ (n : ℕ). let z : ℕ × ℕ = (x.0, n) in z) (sym e) in (x.0, subst (λ z. IsAmong y (z ∷ xs)) s (here xs)))
    (λ ne. let t = row_in r xs (let h' : 1 ≤ 0 + row_times r xs = subst (λ b. 1 ≤ cond b 1 0 + row_times r xs) (ne_eqb x.1 r ne) h in omega arith) in (t.0, there x t.1))
    (cases_eq x.1 r)

-- stamps
pub stamp_both : (n : ℕ) (xs ys : List Event) → stamp_times n (xs ++ ys) ≡ stamp_times n xs + stamp_times n ys
stamp_both n [] ys = omega arith
stamp_both n (x ∷ xs) ys = let t = stamp_both n xs ys in omega arith

pub stamp_in : (n : ℕ) (xs : List Event) → 1 ≤ stamp_times n xs → (e : Event) × IsAmong e xs × (e.stamp ≡ n)
stamp_in n [] h = absurd (omega arith)
stamp_in n (x ∷ xs) h = ⊎_elim
    (λ e. (x, here xs, e))
    (λ ne. let t = stamp_in n xs (let h' : 1 ≤ 0 + stamp_times n xs = subst (λ b. 1 ≤ cond b 1 0 + stamp_times n xs) (ne_eqb x.stamp n ne) h in omega arith) in (t.0, there x t.1, t.2))
    (cases_eq x.stamp n)

pub stamp_some : (e : Event) (xs : List Event) → IsAmong e xs → 1 ≤ stamp_times e.stamp xs
stamp_some e [] m = absurd (among_nil m)
stamp_some e (x ∷ xs) m = ⊎_elim
    (λ s. subst (λ b. 1 ≤ cond b 1 0 + stamp_times e.stamp xs) (sym (eq-eqb x.stamp e.stamp (ap (λ (y : Event). y.stamp) (sym s)))) (omega arith))
    (λ n. let t = stamp_some e xs n in omega arith)
    (among_cons m)

pub stamp_push : (n : ℕ) (xs : List Event) (e : Event) → e.stamp ≢ n → stamp_times n (xs ++ e ∷ []) ≡ stamp_times n xs
stamp_push n xs e ne = stamp_both n xs (e ∷ []) ∙ (ap (λ b. stamp_times n xs + (cond b 1 0 + 0)) (ne_eqb e.stamp n ne) ∙ omega arith)

pub stamp_here : (xs : List Event) (e : Event) → stamp_times e.stamp (xs ++ e ∷ []) ≡ stamp_times e.stamp xs + 1
stamp_here xs e = stamp_both e.stamp xs (e ∷ []) ∙ ap (λ b. stamp_times e.stamp xs + (cond b 1 0 + 0)) (eq-eqb e.stamp e.stamp refl)
