-- What is made of one number after another.
use Rattle.std.proofs.Common.{◌≡◌, ℕ, zero, suc, ◌+◌, List, [], ◌∷◌, ◌++◌, map, ap, ◌∙◌, arith}
use Rattle.std.specs.List.{flat_map, range_with_len}
use Rattle.std.proofs.lemmas.Grind.{flat_map-append}
use Rattle.std.proofs.lemmas.List.{append-nil}
use Rattle.std.proofs.lemmas.List.FromFn.{map-range_with_len_more}
use Rattle.run_rules.specs.Facts.{first_numbers}

range_next : (a n : ℕ) → range_with_len a (suc n) ≡ range_with_len a n ++ (a + n) ∷ []
range_next a zero = ap (λ x. x ∷ []) (omega arith)
range_next a (suc n) = ap (λ xs. a ∷ xs) (range_next (a + 1) n ∙ ap (λ x. range_with_len (a + 1) n ++ x ∷ []) (omega arith))

-- the last of the first numbers
pub number_next : (n : ℕ) → first_numbers (suc n) ≡ first_numbers n ++ n ∷ []
number_next n = range_next 0 n ∙ ap (λ x. range_with_len 0 n ++ x ∷ []) (omega arith)

number_more : (n : ℕ) → first_numbers (n + 1) ≡ first_numbers n ++ n ∷ []
number_more n = let e : n + 1 ≡ suc n = omega arith in ap (λ m. first_numbers m) e ∙ number_next n

-- the text of one number more
pub text_more : {A : Type 0} (f : ℕ → List A) (n : ℕ) → flat_map f (first_numbers (n + 1)) ≡ flat_map f (first_numbers n) ++ f n
text_more f n = ap (λ l. flat_map f l) (number_more n) ∙ (flat_map-append f (first_numbers n) (n ∷ []) ∙ ap (λ l. flat_map f (first_numbers n) ++ l) (append-nil (f n)))

-- the value of one number more
pub value_more : {A : Type 0} (f : ℕ → A) (n : ℕ) → map f (first_numbers (n + 1)) ≡ map f (first_numbers n) ++ f n ∷ []
value_more f n = map-range_with_len_more f 0 n n (omega arith)
