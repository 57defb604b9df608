use Rattle.std.proofs.Common.{◌≡◌, ◌+◌, ◌*◌, ◌∙◌, take, sym, arith}
use Rattle.std.specs.Str.Parse.{digits_value}
use Rattle.pipeline_desc.proofs.Numerals.{next_digit}
use Rattle.pipeline_desc.proofs.words.number.Goals as goal

pub overflow_mul-n : goal.overflow_mul-n
overflow_mul-n c =
    let next = next_digit c.args.text.now c.loop-digit.digit-index (sym c.is_number.ensures ∙ c.if-not-is_number.false) c.loop-digit-test.true in
    omega (arith, c.loop-digit.invariant, next.value, next.small)

pub overflow_add-n : goal.overflow_add-n
overflow_add-n c =
    let next = next_digit c.args.text.now c.loop-digit.digit-index (sym c.is_number.ensures ∙ c.if-not-is_number.false) c.loop-digit-test.true in
    omega (arith, c.loop-digit.invariant, next.value, next.small, c.from.ensures)

pub loop-digit-preserved : goal.loop-digit-preserved
loop-digit-preserved c =
    let next = next_digit c.args.text.now c.loop-digit.digit-index (sym c.is_number.ensures ∙ c.if-not-is_number.false) c.loop-digit-test.true in
    let one_more : 10 * c.loop-digit.n + c.from.result ≡ digits_value 10 (take (c.loop-digit.digit-index + 1) c.args.text.now) = omega (arith, c.loop-digit.invariant, next.value, c.from.ensures) in
    one_more
