-- What the code of a pipe of lines knows after each kind of step.
use Rattle.std.proofs.Common.{◌≡◌, ℕ, Bool, true, false, ◌==◌, ◌&&◌, List, [], ◌∷◌, ◌++◌, length, ◌+◌, ◌-◌, ◌^◌, min, ◌<◌, ◌≤◌, refl, ap, ◌∙◌, sym, arith, append_assoc, length-append}
use Rattle.std.proofs.lemmas.Bool.{and_parts, eqb-true}
use Rattle.std.proofs.lemmas.Bool.Decides.{nat_tests}
use Rattle.std.proofs.lemmas.List.{append-nil}
use Rattle.pull_nodes.specs.Lines.{IsFree, is_end, is_long}
use Rattle.text_pipes.specs.LinesState.{StandsAt, StandsAfter, lines_given, TakesBytes}
use Rattle.text_pipes.specs.declared.lines.LinesPipe.{LinesPipe}
use Rattle.text_pipes.proofs.LinesSteps.{line_step, skip_step, open_step, long_step}

-- too many bytes without a line end
pub long_from : (a : LinesPipe) (front : List ℕ) (n : ℕ) → IsFree front → 1048576 < n → n ≤ length a.held.items + length front → TakesBytes a front [] true a
long_from a front n f long le xs s = (long_step a.held.items a.after_cr xs front s f (grind (arith, nat_tests, length-append)), λ e. (cc))

abbrev pub SteppedTo : LinesPipe → List ℕ → List (List ℕ) → List (List ℕ) → List ℕ → Bool → List ℕ → Type 0
SteppedTo a bytes old new line cr left = (x : List ℕ) × (ms : List (List ℕ)) × (x ++ left ≡ bytes) × (length left < length bytes) × (new ≡ old ++ ms)
    × ((xs : List ℕ) → StandsAfter a xs → (lines_given (xs ++ x) ≡ ((lines_given xs).0 ++ ms, false)) × (false ≡ false → StandsAt line cr (xs ++ x)))

nil_from : (x : List ℕ) → (length x == 0) ≡ true → x ≡ []
nil_from [] h = refl
nil_from (c ∷ x) h = absurd (grind (arith, nat_tests, h))

pub skip_from : (a : LinesPipe) (bytes front more after : List ℕ) (e : ℕ) (lines : List (List ℕ)) → front ++ more ≡ bytes → more ≡ e ∷ after
    → ((a.after_cr && (length front == 0)) && (e == 10)) ≡ true → SteppedTo a bytes lines lines a.held.items false after
skip_from a bytes front more after e lines whole is p =
    let (q, ten) = and_parts (a.after_cr && (length front == 0)) (e == 10) p in
    let (cr, none) = and_parts a.after_cr (length front == 0) q in
    let front_is = nil_from front none in
    let e_is : e ≡ 10 = eqb-true e 10 ten in
    let all : 10 ∷ after ≡ bytes = rw (front_is, is, e_is) at whole in
    (10 ∷ [], [], all, rw (← all) (omega arith), sym (append-nil lines), λ xs s. let r = skip_step a.held.items a.after_cr xs s cr in (r.0, λ _. r.1))

short_from : (l x : List ℕ) (n : ℕ) → n ≤ 1048576 → n ≡ min (length l + length x) (2 ^ 64 - 1) → is_long (l ++ x) ≡ false
short_from l x n le is = grind (arith, nat_tests, length-append)

pub open_from : (a : LinesPipe) (bytes front more new_held : List ℕ) (n : ℕ) (lines : List (List ℕ)) → front ++ more ≡ bytes → length more ≡ 0 → 0 < length bytes → IsFree front
    → n ≤ 1048576 → n ≡ min (length a.held.items + length front) (2 ^ 64 - 1) → new_held ≡ a.held.items ++ front → SteppedTo a bytes lines lines new_held false more
open_from a bytes front more new_held n lines whole none some free le is held =
    let some_front : 0 < length front = omega (arith, ap length whole, length-append front more) in (
      front,
      [],
      whole,
      rw none some,
      sym (append-nil lines),
      λ xs s.
          let r = open_step a.held.items a.after_cr xs front s free some_front (short_from a.held.items front n le is) in (r.0, λ _. rw held r.1),
    )

pub line_from : (a : LinesPipe) (bytes front more after line new_held : List ℕ) (e n : ℕ) (old new : List (List ℕ)) → front ++ more ≡ bytes → more ≡ e ∷ after → is_end e ≡ true → IsFree front
    → ((a.after_cr && (length front == 0)) && (e == 10)) ≡ false → n ≤ 1048576 → n ≡ min (length a.held.items + length front) (2 ^ 64 - 1)
    → line ≡ a.held.items ++ front → new ≡ old ++ line ∷ [] → new_held ≡ [] → SteppedTo a bytes old new new_held (e == 13) after
line_from a bytes front more after line new_held e n old new whole is end free p le sum line_is new_is held =
    let all : (front ++ e ∷ []) ++ after ≡ bytes = append_assoc front (e ∷ []) after ∙ (rw is at whole) in
    let less : length after < length bytes = omega (arith, ap length whole, length-append front more, ap length is) in (
      front ++ e ∷ [],
      line ∷ [],
      all,
      less,
      new_is,
      λ xs s.
          let r = line_step a.held.items a.after_cr xs front e s free end p (short_from a.held.items front n le sum) in (rw line_is r.0, λ _. rw held r.1),
    )
