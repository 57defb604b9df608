-- A number that `u64` reads, by tests.
use Rattle.std.proofs.Common.{◌≡◌, ◌^◌, ◌&&◌, ℕ, Bool, true, false, List, [], ◌∷◌, length, nat_lt, Option, None, Result, Ok, Err, refl}
use Rattle.std.specs.List.{list_all}
use Rattle.std.specs.Char.{digit_value}
use Rattle.std.specs.Result.{result_ok}
use Rattle.std.specs.Str.Parse.{AllDigits, ParsesUnsigned, without_leading_plus, digits_value}
use Rattle.std.proofs.lemmas.Bool.{and_parts, ltb-true, lt-ltb}
use Rattle.command_words.specs.Numbers.{is_numeral, number_of}

digits_pass : (ds : List ℕ) → AllDigits 10 ds → list_all (λ d. nat_lt (digit_value d) 10) ds ≡ true
digits_pass [] h = refl
digits_pass (d ∷ ds) h = rw (lt-ltb (digit_value d) 10 h.0) (digits_pass ds h.1)

digits_from : (ds : List ℕ) → list_all (λ d. nat_lt (digit_value d) 10) ds ≡ true → AllDigits 10 ds
digits_from [] e = tt
digits_from (d ∷ ds) e =
    let parts = and_parts (nat_lt (digit_value d) 10) (list_all (λ d. nat_lt (digit_value d) 10) ds) e in
    (ltb-true _ _ parts.0, digits_from ds parts.1)

abbrev fits : List ℕ → Bool
fits ds = is_numeral ds && nat_lt (digits_value 10 ds) (2 ^ 64)

-- what `parse` answers
pub number_read : {E : Type 0} (text : List ℕ) (r : Result ℕ E) → ParsesUnsigned 64 10 text r → result_ok r ≡ number_of text
number_read text (Ok n) h =
    let ds = without_leading_plus text in
    rw (lt-ltb 0 (length ds) h.0.0.0, digits_pass ds h.0.0.1, lt-ltb (digits_value 10 ds) (2 ^ 64) h.0.1, h.1)
number_read text (Err e) h = go (fits (without_leading_plus text)) refl
  where
    go : (b : Bool) → fits (without_leading_plus text) ≡ b → ◌≡◌ {A = Option ℕ} None (number_of text)
    go false t = rw t refl
    go true t =
        let outer = and_parts _ _ t in
        let inner = and_parts _ _ outer.0 in
        absurd (h ((ltb-true _ _ inner.0, digits_from (without_leading_plus text) inner.1), ltb-true _ _ outer.1))
