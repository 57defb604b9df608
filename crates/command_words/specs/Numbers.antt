-- Numbers among the words.
use Rattle.std.specs.Prelude.{ℕ, ◌^◌, ◌&&◌, Bool, List, length, nat_lt, nat_le, Option, Some, None, option_and_then, if◌then◌else◌}
use Rattle.std.specs.List.{list_all}
use Rattle.std.specs.Char.{digit_value}
use Rattle.std.specs.Str.Parse.{without_leading_plus, digits_value}

-- one decimal digit or more, and nothing else
abbrev pub is_numeral : List ℕ → Bool
is_numeral digits = nat_lt 0 (length digits) && list_all (λ d. nat_lt (digit_value d) 10) digits

-- what digits write, where that is below 2^64
abbrev pub number_of_digits : List ℕ → Option ℕ
number_of_digits digits = if is_numeral digits && nat_lt (digits_value 10 digits) (2 ^ 64) then Some (digits_value 10 digits) else None

-- the number that a text writes, where a plus may stand first
abbrev pub number_of : List ℕ → Option ℕ
number_of text = number_of_digits (without_leading_plus text)

-- the number that a text writes, where it is one from low to high
abbrev pub number_in_word : ℕ → ℕ → List ℕ → Option ℕ
number_in_word low high text = option_and_then (λ n. if nat_le low n && nat_le n high then Some n else None) (number_of text)
