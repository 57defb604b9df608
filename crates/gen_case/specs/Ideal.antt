-- What a whole run prints of a case.
use Rattle.std.specs.Prelude.{◌≡◌, ℕ, ◌*◌, ◌<◌, List, length, flat_map}
use Rattle.std.specs.List.{AllByRecursion, sum_by}
use Rattle.chunk_core.specs.Texts.{Frame, payloads_of}
use Rattle.run_rules.specs.Facts.{first_numbers}
use Rattle.gen_case.specs.Case.{number_on, row_text, stream_text}
use Rattle.gen_case.specs.Tally.{bytes_in, digit_sum, digits_in}
use Rattle.gen_case.specs.declared.case.Case.{Case}

-- stream k: the record of each number of its file
abbrev pub ideal_text : Case → ℕ → List ℕ
ideal_text c k = flat_map (λ i. row_text (number_on c k i)) (first_numbers c.lines)

-- the bytes of all streams
abbrev pub ideal_bytes : Case → ℕ
ideal_bytes c = sum_by (λ k. length (ideal_text c k)) (first_numbers c.streams)

-- the values of their digits, added up
abbrev pub ideal_digits : Case → ℕ
ideal_digits c = sum_by (λ k. digit_sum (ideal_text c k)) (first_numbers c.streams)

-- the frames are the case's, and those of each stream are together what it prints
pub record AreIdeal (c : Case) (F : List Frame) : Type 0 where
  pub ours : AllByRecursion (λ f. f.stream < c.streams) F
  pub whole : (k : ℕ) → k < c.streams → payloads_of k F ≡ ideal_text c k

-- whatever the order of the streams' frames, they add up to the same
abbrev pub IdealFramesAddUp : Type 0
IdealFramesAddUp = (c : Case) (F : List Frame) → AreIdeal c F → (bytes_in F ≡ ideal_bytes c) × (digits_in F ≡ ideal_digits c)

-- four bytes are read and six are printed for each line
abbrev pub LinesHaveTheirBytes : Type 0
LinesHaveTheirBytes = (c : Case) → ((k : ℕ) → length (stream_text c k) ≡ 4 * c.lines) × (ideal_bytes c ≡ 6 * c.lines * c.streams)
