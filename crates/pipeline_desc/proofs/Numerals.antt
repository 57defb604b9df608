-- The number that one to nine digits write.
use Rattle.std.proofs.Common.{◌≡◌, ℕ, zero, suc, ◌+◌, ◌-◌, ◌*◌, ◌<◌, ◌≤◌, ◌^◌, ◌&&◌, true, List, [], ◌∷◌, length, get_or, take, nat_le, refl, arith}
use Rattle.std.specs.Char.{is_ascii_digit}
use Rattle.std.specs.List.{list_all}
use Rattle.std.specs.Str.Parse.{digits_value}
use Rattle.std.proofs.lemmas.Bool.{and_parts, and_from, leb-true, le-leb}
use Rattle.std.proofs.lemmas.Str.Parse.{IsDigitsTest, IsNumeralModel, numerals_by_value, digits_value-take-le, digits_value_short}
use Rattle.std.proofs.lemmas.Str.{digit_value_digit}
use Rattle.std.proofs.lemmas.Int.Digits.{digits_value_more}
use Rattle.pipeline_desc.specs.Steps.{is_number}

abbrev are_digits : List ℕ → Type 0
are_digits ds = list_all is_ascii_digit ds ≡ true

tells : IsDigitsTest are_digits
tells = record {
  empty = refl;
  parts = λ c cs e. let k = and_parts (is_ascii_digit c) (list_all is_ascii_digit cs) e in let m = and_parts (nat_le 48 c) (nat_le c 57) k.0 in ((leb-true 48 c m.0, leb-true c 57 m.1), k.1);
  more = λ c cs k e. and_from (is_ascii_digit c) (list_all is_ascii_digit cs) (and_from (nat_le 48 c) (nat_le c 57) (le-leb 48 c k.0) (le-leb c 57 k.1)) e;
}

-- each byte of digits is in their range
digit_range : (ds : List ℕ) (i : ℕ) → list_all is_ascii_digit ds ≡ true → i < length ds → (48 ≤ get_or ds i 0) × (get_or ds i 0 ≤ 57)
digit_range [] i e h = absurd (omega arith)
digit_range (d ∷ ds) zero e h = let one = (and_parts (is_ascii_digit d) (list_all is_ascii_digit ds) e).0 in
    let (low, high) = and_parts (nat_le 48 d) (nat_le d 57) one in (leb-true 48 d low, leb-true d 57 high)
digit_range (d ∷ ds) (suc i) e h = digit_range ds i (and_parts (is_ascii_digit d) (list_all is_ascii_digit ds) e).1 (omega arith)

own : IsNumeralModel are_digits (digits_value 10)
own = numerals_by_value are_digits tells

-- the digit at a place, and the number that it ends
pub record IsNextDigit (text : List ℕ) (i : ℕ) : Type 0 where
  pub low : 48 ≤ get_or text i 0
  pub value : 10 * digits_value 10 (take i text) + (get_or text i 0 - 48) ≡ digits_value 10 (take (i + 1) text)
  pub small : digits_value 10 (take (i + 1) text) < 10 ^ 9

pub next_digit : (text : List ℕ) (i : ℕ) → is_number text ≡ true → i < length text → IsNextDigit text i
next_digit text i e h =
    let (sizes, digits) = and_parts (nat_le 1 (length text) && nat_le (length text) 9) (list_all is_ascii_digit text) e in
    let (low, high) = and_parts (nat_le 1 (length text)) (nat_le (length text) 9) sizes in
    let whole : digits_value 10 text < 10 ^ 9 = digits_value_short own text 9 digits (leb-true (length text) 9 high) in
    let front : digits_value 10 (take (i + 1) text) ≤ digits_value 10 text = digits_value-take-le 10 text (i + 1) (omega arith) in
    let here = digit_range text i digits h in
    let more = digits_value_more 10 text i h in
    let digit = digit_value_digit (get_or text i 0) here in
    record { low = here.0; value = omega (arith, more, digit, here.0); small = omega (arith, whole, front) }
