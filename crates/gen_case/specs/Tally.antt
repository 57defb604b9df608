-- What frames add up to.
use Rattle.std.specs.Prelude.{ℕ, ◌-◌, ◌<◌, ◌^◌, List, length, if◌then◌else◌}
use Rattle.std.specs.Char.{is_ascii_digit}
use Rattle.std.specs.List.{AllByRecursion, sum_by}
use Rattle.chunk_core.specs.Texts.{Frame}
use Rattle.gen_case.specs.declared.tally.Tally.{Tally}

-- the value of a decimal digit, and 0 for any other byte
abbrev pub digit_value : ℕ → ℕ
digit_value b = if is_ascii_digit b then b - 48 else 0

-- the values of the digits in a text, added up
abbrev pub digit_sum : List ℕ → ℕ
digit_sum text = sum_by digit_value text

-- the numbers of the streams fit
abbrev pub AreNumbered : List Frame → Type 0
AreNumbered F = AllByRecursion (λ f. f.stream < 2 ^ 32) F

-- the lengths of their payloads, added up
abbrev pub bytes_in : List Frame → ℕ
bytes_in F = sum_by (λ f. length f.payload) F

-- the values of the digits in their payloads, added up
abbrev pub digits_in : List Frame → ℕ
digits_in F = sum_by (λ f. digit_sum f.payload) F

-- the number of the frames, and what their payloads add up to
abbrev pub tally_of : List Frame → Tally
tally_of F = record { frames = length F; bytes = bytes_in F; digits = digits_in F }
