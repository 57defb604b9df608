use Rattle.std.proofs.Common.{◌≡◌, ◌<◌, ◌^◌, decimal, Some, ℕ, length, get_or, List, sym, ap, subst, arith, ◌∙◌}
use Rattle.std.proofs.lemmas.Option.{get_or_from_slice_get, slice_get_within}
use Rattle.std.proofs.lemmas.Str.{IsUtf8-from_ascii}
use Rattle.std.proofs.lemmas.Fmt.{IsAscii-decimal}
use Rattle.std.specs.Str.{IsUtf8}
use Rattle.std.specs.List.{slice_get}
use Rattle.cut_frames.specs.Heads.{IsReadAs}
use Rattle.cut_frames.proofs.Numbers.{first_digit, not_signed, parsed}
use Rattle.cut_frames.proofs.heads.number.Goals as goal
use Rattle.cut_frames.proofs.heads.number.Goals.{else-first-eq48-via-then-first-eq48+else-digits-gt1, else-first-eq48-via-else-first-eq48}

pub returns-in_err-first : goal.returns-in_err-first
returns-in_err-first c = subst (λ o. IsReadAs (λ n. n < 2 ^ 64) decimal c.args.digits.now o) (sym c.from_residual.ensures)
    (λ n small e. absurd (omega (arith, (first_digit n small).0, c.in_err-first.ensures.item.3, ap length e)))

pub returns-in_default : goal.returns-in_default
returns-in_default c = λ n small e. c.in_default.ensures.cases.0 (subst IsUtf8 (sym e) (IsUtf8-from_ascii (decimal n) (IsAscii-decimal n small)))

first_is : (bs : List ℕ) (first : ℕ) → Some first ≡ slice_get bs 0 → get_or bs 0 0 ≡ first
first_is bs first e = get_or_from_slice_get bs 0 first 0 (sym e)

pub returns-then-first-eq43 : goal.returns-then-first-eq43
returns-then-first-eq43 c = λ n small e.
    let at = first_is c.args.digits.now c.in_ok-first.field-0.now c.in_ok-first.ensures.value in
    not_signed n small (sym (ap (λ l. get_or l 0 0) e) ∙ at ∙ c.if-first-eq43.true)

pub returns-then-digits-gt1 : goal.returns-then-digits-gt1
returns-then-digits-gt1 c = λ n small e.
    let at = first_is c.args.digits.now c.in_ok-first.field-0.now c.in_ok-first.ensures.value in
    absurd (omega (arith, (first_digit n small).2 (sym (ap (λ l. get_or l 0 0) e) ∙ at ∙ c.if-first-eq48.true), ap length e, c.if-digits-gt1.true))

pub returns : goal.returns
returns c =
    let bs = c.args.digits.now in
    let at = first_is c.args.digits.now c.in_ok-first.field-0.now c.in_ok-first.ensures.value in
    let is = c.in-Ok.ensures.cases.0 in
    subst (λ o. IsReadAs (λ n. n < 2 ^ 64) decimal bs o) (sym c.ok.ensures.value)
    (parsed bs c.parse.result (rw is at c.parse.ensures.value.0) (λ z. c.if-first-eq43.false (sym at ∙ z))
    (λ z. elim c.else-first-eq48.branch [
      | else-first-eq48-via-then-first-eq48+else-digits-gt1 w ↦ omega (arith, slice_get_within bs 0 _ (sym c.in_ok-first.ensures.value))
      | else-first-eq48-via-else-first-eq48 w ↦ absurd (w.if-first-eq48.false (sym at ∙ z))
    ]))
