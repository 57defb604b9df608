-- Numbers that are read, and words that a text begins with.
use Rattle.std.proofs.Common.{◌≡◌, ◌≢◌, ℕ, ◌<◌, ◌≤◌, ◌^◌, Bool, true, false, cond, nat_eq, Result, Ok, Err, List, [], ◌∷◌, ◌++◌, All, length, get_or, decimal, refl, sym, ap, ◌∙◌, ⊎_elim, arith, lit<}
use Rattle.std.specs.Str.Parse.{digits_value, ParsesUnsigned}
use Rattle.std.proofs.lemmas.Bool.{false≢true, cases_eq, eq-eqb, ne_eqb}
use Rattle.std.proofs.lemmas.Str.Parse.{digit_at, parse_plain}
use Rattle.std.proofs.lemmas.Fmt.{decimal_digit, decimal_nonempty, first_decimal, digits_decimal, decimal-digits_value, decimal_injective, parse-decimal}
use Rattle.std.specs.Result.{OkIff, result_ok}
use Rattle.ledger_text.specs.Reading.{IsReadAs}
use Rattle.std.proofs.lemmas.List.Elements.{All-nil, All-cons}
use Rattle.res_ledger.proofs.Words.{own}

-- a number begins with a digit, and with `0` only where it is `0`
pub first_digit : (n : ℕ) → n < 2 ^ 64 → (0 < length (decimal n)) × (48 ≤ get_or (decimal n) 0 0) × (get_or (decimal n) 0 0 ≡ 48 → length (decimal n) ≡ 1)
first_digit n h =
    let full = decimal_nonempty n h in
    let d = digit_at (decimal n) 0 (digits_decimal own n h) full in
    (full, d.0, ⊎_elim (λ e. λ _. ap (λ k. length (decimal k)) e ∙ ap length (decimal_digit 0 (lit< tt))) (λ ne. λ z. let pos : 0 < n = omega arith in absurd (omega (arith, first_decimal n pos h))) (cases_eq n 0))

-- a number has no sign
pub not_signed : (n : ℕ) → n < 2 ^ 64 → get_or (decimal n) 0 0 ≢ 43
not_signed n h e = omega (arith, (first_digit n h).1)

-- what `parse` gives of a text without a sign and without leading zeros
pub parsed : {E : Type 0} (bs : List ℕ) (r : Result ℕ E) → ParsesUnsigned 64 10 bs r → get_or bs 0 0 ≢ 43 → (get_or bs 0 0 ≡ 48 → length bs ≡ 1)
    → IsReadAs (λ n. n < 2 ^ 64) decimal bs (result_ok r)
parsed {E} bs (Ok n) h apart one =
    let p = parse_plain own {E = E} 64 bs (Ok n) h apart in
    let is : decimal (digits_value 10 bs) ≡ bs = decimal-digits_value own bs p.0.0 p.0.1 one p.0.2 in
    (rw p.1 p.0.2, rw p.1 (sym is))
parsed bs (Err e) h apart one = λ n small q. let no = parse-decimal 64 n bs (Err e) small small q h in cc

-- a number that is read is the one that the text spells
pub narrowed : {E : Type 0} (bs : List ℕ) (n : ℕ) (r : Result ℕ E) → n < 2 ^ 64 → bs ≡ decimal n → OkIff r (n < 2 ^ 32) n → IsReadAs (λ m. m < 2 ^ 32) decimal bs (result_ok r)
narrowed bs n (Ok m) small is h = (rw h.1 h.0, rw h.1 is)
narrowed bs n (Err e) small is h = λ m low q. h (let w : m < 2 ^ 64 = omega arith in rw (decimal_injective n m small w (sym is ∙ q)) low)

-- whether the byte stands in no place of the list
abbrev lacks : ℕ → List ℕ → Bool
lacks c [] = true
lacks c (x ∷ xs) = cond (nat_eq x c) false (lacks c xs)

pub lacks_all : (c : ℕ) (xs : List ℕ) → lacks c xs ≡ true → All (λ x. x ≢ c) xs
lacks_all c [] h = All-nil (λ x. x ≢ c)
lacks_all c (x ∷ xs) h =
    ⊎_elim
    (λ e. let t : cond (nat_eq x c) false (lacks c xs) ≡ false = rw (eq-eqb x c e) refl in absurd (false≢true (sym t ∙ h)))
    (λ ne. let t : lacks c xs ≡ true = rw (ne_eqb x c ne) at h in All-cons (λ y. y ≢ c) x xs ne (lacks_all c xs t))
    (cases_eq x c)

-- whether the lists differ where both go on
abbrev pub differ : List ℕ → List ℕ → Bool
differ [] ys = false
differ (x ∷ xs) [] = false
differ (x ∷ xs) (y ∷ ys) = cond (nat_eq x y) (differ xs ys) true

-- one text doesn't begin with both
pub other : (p q xs ys : List ℕ) → differ p q ≡ true → p ++ xs ≡ q ++ ys → ⊥
other [] q xs ys d e = false≢true d
other (x ∷ p) [] xs ys d e = false≢true d
other (x ∷ p) (y ∷ q) xs ys d e =
    let h : x ≡ y = cc in
    let t : p ++ xs ≡ q ++ ys = cc in
    let g : differ p q ≡ true = rw (eq-eqb x y h) at d in
    other p q xs ys g t
