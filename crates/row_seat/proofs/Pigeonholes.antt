-- At most b pairs on a row, where no pair stands twice and the streams are below b; and as many events as stamps, where no stamp stands twice.
use Rattle.std.proofs.Common.{◌≡◌, ◌≢◌, ℕ, zero, suc, ◌+◌, ◌<◌, ◌≤◌, Bool, false, cond, eqb, List, [], ◌∷◌, length, refl, sym, ap, ◌∙◌, subst, ⊎_elim, arith, ne_eqb, eq-eqb}
use Rattle.std.proofs.lemmas.Bool.{cases_eq}
use Rattle.res_ledger.specs.declared.event.Event.{Event}
use Rattle.row_seat.specs.Totals.{IsAt, pair_times, row_times, stamp_times, total}
use Rattle.chunk_core.specs.Lists.{IsAmong}
use Rattle.chunk_core.specs.Lists.IsAmong.{here, there}
use Rattle.row_seat.proofs.Times.{pair_is}

abbrev pub sum_to : (ℕ → ℕ) → ℕ → ℕ
sum_to f zero = 0
sum_to f (suc b) = f b + sum_to f b

sum_add : (f g : ℕ → ℕ) (b : ℕ) → sum_to (λ j. f j + g j) b ≡ sum_to f b + sum_to g b
sum_add f g zero = refl
sum_add f g (suc b) = let t = sum_add f g b in omega arith

sum_none : (f : ℕ → ℕ) (b : ℕ) → ((j : ℕ) → j < b → f j ≡ 0) → sum_to f b ≡ 0
sum_none f zero h = refl
sum_none f (suc b) h = let t = sum_none f b (λ j l. h j (omega arith)) in let s = h b (omega arith) in omega arith

sum_le : (f : ℕ → ℕ) (b : ℕ) → ((j : ℕ) → f j ≤ 1) → sum_to f b ≤ b
sum_le f zero h = omega arith
sum_le f (suc b) h = let t = sum_le f b h in let s = h b in omega arith

sum_one : (f : ℕ → ℕ) (b : ℕ) → ((j : ℕ) → j < b → f j ≡ 1) → sum_to f b ≡ b
sum_one f zero h = refl
sum_one f (suc b) h = let t = sum_one f b (λ j l. h j (omega arith)) in let s = h b (omega arith) in omega arith

sum_at : (f : ℕ → ℕ) (a b : ℕ) → a < b → ((j : ℕ) → j ≢ a → f j ≡ 0) → sum_to f b ≡ f a
sum_at f a zero l h = absurd (omega arith)
sum_at f a (suc b) l h = ⊎_elim
    (λ e. let t = sum_none f b (λ j m. h j (λ s. omega arith)) in let s : f b ≡ f a = ap f e in omega arith)
    (λ ne. let t = sum_at f a b (omega arith) h in let s = h b ne in omega arith)
    (cases_eq b a)

abbrev bit : Bool → ℕ
bit b = cond b 1 0

row_sum : (r b : ℕ) (xs : List (ℕ × ℕ)) → ((j : ℕ) → IsAmong (j, r) xs → j < b) → row_times r xs ≤ sum_to (λ j. pair_times j r xs) b
row_sum r b [] h = omega arith
row_sum r b (x ∷ xs) h =
    let t = row_sum r b xs (λ j m. h j (there x m)) in let s = sum_add (λ j. bit (cond (eqb x.0 j) (eqb x.1 r) false)) (λ j. pair_times j r xs) b in
    ⊎_elim
    (λ e. let y : ℕ × ℕ = (x.0, r) in let q : y ≡ x = ap (λ (n : ℕ). let z : ℕ × ℕ = (x.0, n) in z) (sym e) in
    let a = sum_at (λ j. bit (cond (eqb x.0 j) (eqb x.1 r) false)) x.0 b (h x.0 (subst (λ z. IsAmong y (z ∷ xs)) q (here xs))) (λ j ne. ⊎_elim (λ z. absurd (ne (sym z.0))) (λ z. subst (λ c. bit c ≡ 0) (sym z.1) refl) (pair_is x.0 x.1 j r)) in
    let o : bit (cond (eqb x.0 x.0) (eqb x.1 r) false) ≡ 1 = ⊎_elim (λ z. subst (λ c. bit c ≡ 1) (sym z.2) refl) (λ z. absurd (z.0 refl e)) (pair_is x.0 x.1 x.0 r) in
    let p = subst (λ c. bit c + row_times r xs ≤ 1 + row_times r xs) (sym (eq-eqb x.1 r e)) (let z : 1 + row_times r xs ≤ 1 + row_times r xs = omega arith in z) in omega arith)
    (λ ne. subst (λ c. bit c + row_times r xs ≤ sum_to (λ j. pair_times j r (x ∷ xs)) b) (sym (ne_eqb x.1 r ne)) (omega arith))
    (cases_eq x.1 r)

pub few_pairs : {V : Type 0} (f : V → List (ℕ × ℕ)) (r b : ℕ) (vs : List V) → ((i j : ℕ) (v : V) → IsAt vs i v → IsAmong (j, r) (f v) → j < b) → total (λ (v : V). row_times r (f v)) vs ≤ sum_to (λ j. total (λ (v : V). pair_times j r (f v)) vs) b
few_pairs f r b [] h = omega arith
few_pairs f r b (v ∷ vs) h = let t = few_pairs f r b vs (λ i j u g m. h (suc i) j u g m) in let s = row_sum r b (f v) (λ j m. h 0 j v refl m) in
    let a = sum_add (λ j. pair_times j r (f v)) (λ j. total (λ v. pair_times j r (f v)) vs) b in omega arith

pub pairs_below : {V : Type 0} (f : V → List (ℕ × ℕ)) (r b : ℕ) (vs : List V) → ((i j : ℕ) (v : V) → IsAt vs i v → IsAmong (j, r) (f v) → j < b) → ((j : ℕ) → total (λ (v : V). pair_times j r (f v)) vs ≤ 1) → total (λ (v : V). row_times r (f v)) vs ≤ b
pairs_below f r b vs h once = let a = few_pairs f r b vs h in let s = sum_le (λ j. total (λ v. pair_times j r (f v)) vs) b once in omega arith

stamp_sum : (b : ℕ) (xs : List Event) → ((e : Event) → IsAmong e xs → e.stamp < b) → sum_to (λ n. stamp_times n xs) b ≡ length xs
stamp_sum b [] h = sum_none (λ n. 0) b (λ j l. refl)
stamp_sum b (x ∷ xs) h = let t = stamp_sum b xs (λ e m. h e (there x m)) in let s = sum_add (λ n. bit (eqb x.stamp n)) (λ n. stamp_times n xs) b in
    let a = sum_at (λ n. bit (eqb x.stamp n)) x.stamp b (h x (here xs)) (λ j ne. subst (λ c. bit c ≡ 0) (sym (ne_eqb x.stamp j (λ e. ne (sym e)))) refl) in
    let o : bit (eqb x.stamp x.stamp) ≡ 1 = subst (λ c. bit c ≡ 1) (sym (eq-eqb x.stamp x.stamp refl)) refl in omega arith

-- all events of the views, by their stamps
stamps_sum : {V : Type 0} (f : V → List Event) (b : ℕ) (vs : List V) → ((i : ℕ) (v : V) (e : Event) → IsAt vs i v → IsAmong e (f v) → e.stamp < b) → sum_to (λ n. total (λ (v : V). stamp_times n (f v)) vs) b ≡ total (λ (v : V). length (f v)) vs
stamps_sum f b [] h = sum_none (λ n. 0) b (λ j l. refl)
stamps_sum f b (v ∷ vs) h = let t = stamps_sum f b vs (λ i u e g. h (suc i) u e g) in let s = stamp_sum b (f v) (λ e m. h 0 v e refl m) in
    let a = sum_add (λ n. stamp_times n (f v)) (λ n. total (λ v. stamp_times n (f v)) vs) b in omega arith

pub stamps_each : {V : Type 0} (f : V → List Event) (b : ℕ) (vs : List V) → ((i : ℕ) (v : V) (e : Event) → IsAt vs i v → IsAmong e (f v) → e.stamp < b) → ((n : ℕ) → n < b → total (λ (v : V). stamp_times n (f v)) vs ≡ 1) → total (λ (v : V). length (f v)) vs ≡ b
stamps_each f b vs h once = sym (stamps_sum f b vs h) ∙ sum_one (λ n. total (λ v. stamp_times n (f v)) vs) b once
