-- What the frames of a case add up to.
use Rattle.std.proofs.Common.{◌≡◌, ℕ, ◌+◌, ◌*◌, ◌<◌, true, false, cond, nat_eq, List, [], ◌∷◌, ◌++◌, filter, flat_map, length, length-append, refl, sym, ap, ◌∙◌, zero-add, arith}
use Rattle.std.specs.List.{AllByRecursion, sum_by}
use Rattle.std.proofs.lemmas.List.Concat.{length-flat_map}
use Rattle.std.proofs.lemmas.List.Sums.{sum_by-append, sum_by-cons}
use Rattle.chunk_core.specs.Texts.{Frame, payloads_of}
use Rattle.run_rules.specs.Facts.{first_numbers}
use Rattle.gen_case.specs.Case.{number_line, number_on, records_text, row_text, stream_text}
use Rattle.gen_case.specs.Ideal.{AreIdeal, IdealFramesAddUp, LinesHaveTheirBytes, ideal_text}
use Rattle.gen_case.specs.Tally.{digit_sum, digit_value}
use Rattle.gen_case.specs.declared.case.Case.{Case}
use Rattle.gen_case.proofs.Sums.{only, only_one, sum_const, sum_plus, sum_same}

-- a measure of texts that adds up
module _ (g : List ℕ → ℕ) (none : g [] ≡ 0) (adds : (xs ys : List ℕ) → g (xs ++ ys) ≡ g xs + g ys) where
  -- what a frame adds to stream k
  added : (f : Frame) (F : List Frame) (k : ℕ) → g (payloads_of k (f ∷ F)) ≡ only f.stream (g f.payload) k + g (payloads_of k F)
  added f F k =
      let rest = filter (λ x. nat_eq x.stream k) F in
      elim (nat_eq f.stream k) as (λ b. g (flat_map (λ x. x.payload) (cond b (f ∷ rest) rest)) ≡ cond b (g f.payload) 0 + g (flat_map (λ x. x.payload) rest)) [
        | true ↦ adds f.payload (flat_map (λ x. x.payload) rest)
        | false ↦ sym (zero-add _)
      ]

  -- the frames of n streams, stream by stream
  pub by_stream : (n : ℕ) (F : List Frame) → AllByRecursion (λ f. f.stream < n) F → sum_by (λ f. g f.payload) F ≡ sum_by (λ k. g (payloads_of k F)) (first_numbers n)
  by_stream n [] h = let z : 0 * n ≡ 0 = omega arith in sym (sum_same (λ k. g []) (λ k. 0) n (λ k l. none) ∙ (sum_const 0 n ∙ z))
  by_stream n (f ∷ F) h =
      sum_by-cons (λ x. g x.payload) f F
      ∙ ((λ i. sym (only_one f.stream (g f.payload) n h.0) i + by_stream n F h.1 i)
      ∙ (sym (sum_plus (only f.stream (g f.payload)) (λ k. g (payloads_of k F)) n)
      ∙ sym (sum_same (λ k. g (payloads_of k (f ∷ F))) (λ k. only f.stream (g f.payload) k + g (payloads_of k F)) n (λ k l. added f F k))))

  pub ideal_sum : (c : Case) (F : List Frame) → AreIdeal c F → sum_by (λ f. g f.payload) F ≡ sum_by (λ k. g (ideal_text c k)) (first_numbers c.streams)
  ideal_sum c F h = by_stream c.streams F h.ours ∙ sum_same (λ k. g (payloads_of k F)) (λ k. g (ideal_text c k)) c.streams (λ k l. ap g (h.whole k l))

pub ideal_frames_add_up : IdealFramesAddUp
ideal_frames_add_up c F h =
    (ideal_sum (λ (xs : List ℕ). length xs) refl (λ xs ys. length-append xs ys) c F h, ideal_sum digit_sum refl (λ xs ys. sum_by-append digit_value xs ys) c F h)

row_bytes : (c : Case) (k : ℕ) → length (ideal_text c k) ≡ 6 * c.lines
row_bytes c k = length-flat_map (λ i. row_text (number_on c k i)) (first_numbers c.lines) ∙ sum_const 6 c.lines

pub line_bytes : (c : Case) (k : ℕ) → length (stream_text c k) ≡ 4 * c.lines
line_bytes c k = length-flat_map (λ i. number_line (number_on c k i)) (first_numbers c.lines) ∙ sum_const 4 c.lines

-- a record has six bytes
pub records_bytes : (n : ℕ) → length (records_text n) ≡ 6 * n
unfolding records_text
records_bytes n = length-flat_map row_text (first_numbers n) ∙ sum_const 6 n

pub lines_have_their_bytes : LinesHaveTheirBytes
lines_have_their_bytes c = (line_bytes c, sum_same (λ k. length (ideal_text c k)) (λ k. 6 * c.lines) c.streams (λ k l. row_bytes c k) ∙ sum_const (6 * c.lines) c.streams)
