-- Lists that begin with others.
use Rattle.std.proofs.Common.{◌≡◌, ℕ, zero, suc, ◌*◌, ◌/◌, ◌<◌, ◌≤◌, List, [], ◌∷◌, ◌++◌, map, length, take, drop, refl, ap, sym, ◌∙◌, arith, append_assoc}
use Rattle.std.proofs.lemmas.List.{append-nil, map-append, take-append-drop, take-append-le, drop-append-le, take-take, length-drop}
use Rattle.std.proofs.lemmas.Nat.{le-div}
use Rattle.std.proofs.Math.Nat.{div-mul-le_self}
use Rattle.pull_nodes.specs.Laws.{IsFront}
use Rattle.pull_nodes.specs.Plain.{groups}

pub front_same : {A : Type 0} (xs : List A) → IsFront xs xs
front_same xs = ([], sym (append-nil xs))

pub front_of : {A : Type 0} (ys more zs : List A) → zs ≡ ys ++ more → IsFront ys zs
front_of ys more zs e = (more, e)

pub front_cons : {A : Type 0} (x : A) (ys zs : List A) → IsFront ys zs → IsFront (x ∷ ys) (x ∷ zs)
front_cons x ys zs f = (f.0, ap (λ l. x ∷ l) f.1)

pub front_map : {A B : Type 0} (g : A → B) (ys zs : List A) → IsFront ys zs → IsFront (map g ys) (map g zs)
front_map g ys zs f = (map g f.0, ap (map g) f.1 ∙ map-append g ys f.0)

pub front_append : {A : Type 0} (xs ys zs : List A) → IsFront ys zs → IsFront (xs ++ ys) (xs ++ zs)
front_append xs ys zs f = (f.0, ap (λ l. xs ++ l) f.1 ∙ sym (append_assoc xs ys f.0))

pub drop_front : {A : Type 0} (n : ℕ) (xs zs : List A) → IsFront (drop n xs) (drop n (xs ++ zs))
drop_front zero xs zs = (zs, refl)
drop_front (suc n) [] zs = (drop (suc n) zs, refl)
drop_front (suc n) (x ∷ xs) zs = drop_front n xs zs

pub take_front : {A : Type 0} (j k : ℕ) (xs zs : List A) → j ≤ k → j ≤ length xs → IsFront (take j xs) (take k (xs ++ zs))
take_front j k xs zs le within =
    let same : take j (take k (xs ++ zs)) ≡ take j xs = take-take j k (xs ++ zs) le ∙ take-append-le j xs zs within in
    (drop j (take k (xs ++ zs)), sym (take-append-drop j (take k (xs ++ zs))) ∙ ap (λ l. l ++ drop j (take k (xs ++ zs))) same)

-- a longer list has as many whole groups or more
pub more_groups : (n a b : ℕ) → 0 < n → a ≤ b → a / n ≤ b / n
more_groups n a b some le = le-div (a / n) b n some (omega (arith, div-mul-le_self a n))

-- fewer groups, which are whole, of a list that goes on
pub groups_front : {A : Type 0} (n j k : ℕ) (xs zs : List A) → j ≤ k → n * j ≤ length xs → IsFront (groups n j xs) (groups n k (xs ++ zs))
groups_front n zero k xs zs le within = (groups n k (xs ++ zs), refl)
groups_front n (suc j) zero xs zs le within = absurd (omega arith)
groups_front n (suc j) (suc k) xs zs le within =
    let first : n ≤ length xs = omega arith in
    let later : n * j ≤ length (drop n xs) = omega (arith, length-drop n xs) in
    let f = groups_front n j k (drop n xs) zs (omega arith) later in
    let more : groups n k (drop n (xs ++ zs)) ≡ groups n j (drop n xs) ++ f.0 = ap (groups n k) (drop-append-le n xs zs first) ∙ f.1 in
    (f.0, (λ i. take-append-le n xs zs first i ∷ more i))
