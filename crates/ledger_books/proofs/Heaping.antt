-- Knots of which none is greater than the one above it.
use Rattle.std.proofs.Common.{◌≡◌, ◌≢◌, ℕ, zero, suc, ◌<◌, ◌≤◌, ◌+◌, ◌-◌, ◌⊎◌, inl, inr, Bool, true, cond, List, [], ◌∷◌, ◌++◌, refl, sym, ap, ◌∙◌, subst, ⊎_elim, length, arith, replicate, get_or, set, take}
use Rattle.std.proofs.lemmas.List.{get_or-set_same, get_or-set_other}
use Rattle.ledger_books.specs.Peaks.{RisesBut}
use Rattle.ledger_books.proofs.Placed.{places}

-- a knot that is set to no less than the two below it
pub rises_mended : (xs : List ℕ) (h c at m : ℕ) → length xs ≡ h + h → 0 < at → at < h → (at + at ≡ c) ⊎ (suc (at + at) ≡ c) → get_or xs (at + at) 0 ≤ m → get_or xs (suc (at + at)) 0 ≤ m → RisesBut xs h c → RisesBut (set xs at m) h at
rises_mended xs h c at m long some below is left right f n o l a b = ⊎_elim
    (λ e.
    let x : get_or (set xs at m) n 0 ≡ m = subst (λ k. get_or (set xs at m) k 0 ≡ m) (sym e) (get_or-set_same xs at m 0 (omega arith)) in
    let y : get_or (set xs at m) (n + n) 0 ≡ get_or xs (at + at) 0 = get_or-set_other xs at (n + n) m 0 (λ z. omega arith) ∙ ap (λ k. get_or xs (k + k) 0) e in
    let z : get_or (set xs at m) (suc (n + n)) 0 ≡ get_or xs (suc (at + at)) 0 = get_or-set_other xs at (suc (n + n)) m 0 (λ z. omega arith) ∙ ap (λ k. get_or xs (suc (k + k)) 0) e in
    ((omega arith), (omega arith)))
    (λ d.
    let other : n ≢ at = λ e. ⊎_elim (λ w. omega arith) (λ w. omega arith) d in
    let x : get_or (set xs at m) n 0 ≡ get_or xs n 0 = get_or-set_other xs at n m 0 other in
    let y : get_or (set xs at m) (n + n) 0 ≡ get_or xs (n + n) 0 = get_or-set_other xs at (n + n) m 0 a in
    let z : get_or (set xs at m) (suc (n + n)) 0 ≡ get_or xs (suc (n + n)) 0 = get_or-set_other xs at (suc (n + n)) m 0 b in
    let t = f n o l (λ w. ⊎_elim (λ v. other (omega arith)) (λ v. absurd (omega arith)) is) (λ w. ⊎_elim (λ v. absurd (omega arith)) (λ v. other (omega arith)) is) in
    ((let u = t.0 in omega arith), (let u = t.1 in omega arith)))
    (places n at)

-- a knot of the last half is set
pub rises_set : (xs : List ℕ) (h c m : ℕ) → h ≤ c → RisesBut xs h 0 → RisesBut (set xs c m) h c
rises_set xs h c m l f n o b x y =
    let p : get_or (set xs c m) n 0 ≡ get_or xs n 0 = get_or-set_other xs c n m 0 (λ e. omega arith) in
    let q : get_or (set xs c m) (n + n) 0 ≡ get_or xs (n + n) 0 = get_or-set_other xs c (n + n) m 0 x in
    let r : get_or (set xs c m) (suc (n + n)) 0 ≡ get_or xs (suc (n + n)) 0 = get_or-set_other xs c (suc (n + n)) m 0 y in
    let t = f n o b (λ e. omega arith) (λ e. omega arith) in
    ((let u = t.0 in omega arith), (let u = t.1 in omega arith))

-- where the one above the top would be left out, none is
pub rises_top : (xs : List ℕ) (h c : ℕ) → c ≤ 1 → RisesBut xs h c → RisesBut xs h 0
rises_top xs h c l f n o b x y = f n o b (λ e. omega arith) (λ e. omega arith)

-- half of a number, rounded down
halved : (q : ℕ) → (p : ℕ) × ((p + p ≡ q) ⊎ (suc (p + p) ≡ q))
halved zero = (0, inl refl)
halved (suc q) = let t = halved q in ⊎_elim (λ e. (t.0, inr (omega arith))) (λ e. (suc t.0, inl (omega arith))) t.1

-- what bounds the knots at hand and those above the others bounds all
pub most_up : (xs : List ℕ) (h low high up down : ℕ) → RisesBut xs h 0 → 0 < low → high ≤ h + h → (up + up ≡ low + 1) ⊎ (suc (up + up) ≡ low + 1) → (down + down ≡ high) ⊎ (suc (down + down) ≡ high) → (m : ℕ) → get_or xs low 0 ≤ m → get_or xs (high - 1) 0 ≤ m → ((q : ℕ) → up ≤ q → q < down → get_or xs q 0 ≤ m) → (q : ℕ) → low ≤ q → q < high → get_or xs q 0 ≤ m
most_up xs h low high up down f o b u d m x y g q l k = ⊎_elim
    (λ e. subst (λ z. get_or xs z 0 ≤ m) (sym e) x)
    (λ e. ⊎_elim
    (λ a. subst (λ z. get_or xs z 0 ≤ m) (sym a) y)
    (λ a.
    let p = halved q in
    let lower : up ≤ p.0 = ⊎_elim (λ v. absurd (omega arith)) (λ v. ⊎_elim (λ w. ⊎_elim (λ z. omega arith) (λ z. omega arith) p.1) (λ w. ⊎_elim (λ z. omega arith) (λ z. omega arith) p.1) u) e in
    let upper : p.0 < down = ⊎_elim (λ v. ⊎_elim (λ w. ⊎_elim (λ z. omega arith) (λ z. omega arith) p.1) (λ w. ⊎_elim (λ z. omega arith) (λ z. omega arith) p.1) d) (λ v. absurd (omega arith)) a in
    let t = f p.0 (⊎_elim (λ z. omega arith) (λ z. omega arith) p.1) (⊎_elim (λ z. omega arith) (λ z. omega arith) p.1) (λ z. omega arith) (λ z. omega arith) in
    let n = g p.0 lower upper in
    ⊎_elim
    (λ z. subst (λ v. get_or xs v 0 ≤ m) z (let w = t.0 in omega arith))
    (λ z. subst (λ v. get_or xs v 0 ≤ m) z (let w = t.1 in omega arith))
    p.1)
    (places q (high - 1)))
    (places q low)

-- the same number everywhere
same_at : (z all i : ℕ) → get_or (replicate all z) i z ≡ z
same_at z zero i = refl
same_at z (suc all) zero = refl
same_at z (suc all) (suc i) = same_at z all i

pub rises_zeros : (all h c : ℕ) → RisesBut (replicate all 0) h c
rises_zeros all h c n o b x y = ((let a = same_at 0 all (n + n) in let d = same_at 0 all n in omega arith), (let a = same_at 0 all (suc (n + n)) in let d = same_at 0 all n in omega arith))

-- zeros behind nothing
abbrev zeros : ℕ → List ℕ
zeros n = replicate n 0

pub zeros_of : (n v : ℕ) (xs ys : List ℕ) (b : Bool) → b ≡ true → ys ≡ [] → v ≡ 0 → xs ≡ cond b (take n ys ++ replicate (n - v) 0) ys → xs ≡ replicate n 0
zeros_of n v xs ys b ok empty nought e = e ∙ ap (λ c. cond c (take n ys ++ zeros (n - v)) ys) ok ∙ ap (λ zs. zs ++ zeros (n - v)) (nothing n ys empty) ∙ ap zeros (let m : n - v ≡ n = omega arith in m)
  where
    nothing : (n : ℕ) (zs : List ℕ) → zs ≡ [] → take n zs ≡ []
    nothing zero zs d = refl
    nothing (suc n) [] d = refl
    nothing (suc n) (z ∷ zs) d = cc

pub zeros_long : (z n : ℕ) → length (replicate n z) ≡ n
zeros_long z zero = refl
zeros_long z (suc n) = ap suc (zeros_long z n)
