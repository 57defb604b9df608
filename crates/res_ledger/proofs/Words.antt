-- Numbers and words in a text.
use Rattle.std.proofs.Common.{◌≡◌, ◌≢◌, ℕ, ◌<◌, ◌^◌, List, [], ◌∷◌, ◌++◌, All, length, get_or, decimal, refl, sym, ap, ◌∙◌, arith}
use Rattle.std.specs.Str.Parse.{AllDigits, digits_value}
use Rattle.std.proofs.lemmas.Str.Parse.{IsNumeralModel, numerals_by_value, tells_digits, not_in_digits}
use Rattle.std.proofs.lemmas.Fmt.{digits_decimal}
use Rattle.std.proofs.lemmas.List.{get_or_at, length-append}
use Rattle.std.specs.Int.{IsInRange}
use Rattle.std.proofs.lemmas.List.Elements.{All-from_get_or, All-tail, All-head}

pub own : IsNumeralModel (AllDigits 10) (digits_value 10)
own = numerals_by_value (AllDigits 10) tells_digits

-- an LF and a space are no digits
pub lf_apart : ¬ (IsInRange 48 57 10)
lf_apart r = omega (arith, r.0)

pub space_apart : ¬ (IsInRange 48 57 32)
space_apart r = omega (arith, r.0)

-- a byte that is no digit stands in no number
pub number_lacks : (c n : ℕ) → ¬ (IsInRange 48 57 c) → n < 2 ^ 64 → All (λ x. x ≢ c) (decimal n)
number_lacks c n out h = All-from_get_or (λ x. x ≢ c) (decimal n) 0 (λ i l. not_in_digits own (decimal n) c (digits_decimal own n h) out i l)

module _ (c : ℕ) where
  -- a text without the byte isn't cut there
  pub lacks_none : (xs us vs : List ℕ) → All (λ x. x ≢ c) xs → xs ≡ us ++ c ∷ vs → ⊥
  lacks_none xs us vs h e =
      let at = get_or_at us c vs 0 (length us) refl in
      let inside : length us < length xs = rw e (omega (arith, length-append us (c ∷ vs))) in
      h (length us) 0 inside (ap (λ l. get_or l (length us) 0) e ∙ at)

  -- a text is cut at a byte in one way
  pub cut_once : (xs us ys vs : List ℕ) → All (λ x. x ≢ c) xs → All (λ x. x ≢ c) us → xs ++ c ∷ ys ≡ us ++ c ∷ vs → (xs ≡ us) × (ys ≡ vs)
  cut_once [] [] ys vs h g e = (refl, cc)
  cut_once [] (u ∷ us) ys vs h g e = let q : c ≡ u = cc in absurd (All-head (λ x. x ≢ c) u us g (sym q))
  cut_once (x ∷ xs) [] ys vs h g e = let q : x ≡ c = cc in absurd (All-head (λ x. x ≢ c) x xs h q)
  cut_once (x ∷ xs) (u ∷ us) ys vs h g e =
      let q : x ≡ u = cc in
      let t : xs ++ c ∷ ys ≡ us ++ c ∷ vs = cc in
      let r = cut_once xs us ys vs (All-tail (λ x. x ≢ c) x xs h) (All-tail (λ x. x ≢ c) u us g) t in
      (rw (q, r.0) refl, r.1)
