use Rattle.std.proofs.Common.{MatchOption, Some, codes, sym, subst}
use Rattle.std.proofs.lemmas.Bool.Decides.{Decides-eqb}
use Rattle.std.proofs.lemmas.Slice.Eq.{strip_prefix_is}
use Rattle.cut_text.specs.Tails.{HasEndInFront, HasNoEnd}
use Rattle.cut_text.proofs.Tails.{has_word, no_lf}
use Rattle.cut_text.proofs.tail.behind_end.Goals as goal

pub returns-in_err-line : goal.returns-in_err-line
returns-in_err-line c = subst (λ o. MatchOption o (HasNoEnd c.args.text.now) (λ rest. HasEndInFront c.args.text.now rest.now)) (sym c.from_residual.ensures) (no_lf c.args.text.now c.in_err-line.ensures)

pub returns : goal.returns
returns c =
    let cut = c.in_ok-line.ensures in
    let is = strip_prefix_is Decides-eqb c.in_ok-line.line.now (codes "end ") (Some c.in_ok-strip_prefix.field-0) c.in_ok-strip_prefix.ensures.cases in
    has_word c.args.text.now c.in_ok-line.line.now c.in_ok-line.rest.now c.in_ok-strip_prefix.field-0.now cut.0 cut.1 is
