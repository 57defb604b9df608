use Rattle.std.proofs.Common.{◌≡◌, ◌∙◌, sym, ap, subst, length, get_or, arith, ◌≤◌, ◌+◌, suc}
use Rattle.std.proofs.lemmas.List.{length-set, get_or-set_other}
use Rattle.ledger_books.specs.Peaks.{RisesBut}
use Rattle.ledger_books.proofs.Heaping.{rises_mended}
use Rattle.ledger_books.proofs.peaks.mend.Goals as goal

pub returns-clause-long : goal.returns-clause-long
returns-clause-long c = ap length c.put.ensures ∙ length-set c.args.knots.now.items c.args.at c.raised-number.result

pub returns-clause-numbers : goal.returns-clause-numbers
returns-clause-numbers c = λ i l. ap (λ xs. get_or xs i 0) c.put.ensures ∙ get_or-set_other c.args.knots.now.items c.args.at i c.raised-number.result 0 (λ e. omega arith)

pub returns-clause-rises : goal.returns-clause-rises
returns-clause-rises c = λ h d long some below is f.
    let xs = c.args.knots.now.items in
    let m = c.raised-number.result in
    let low : get_or xs (c.args.at + c.args.at) 0 ≤ c.raised-left.result = subst (λ ys. get_or ys (c.args.at + c.args.at) 0 ≤ c.raised-left.result) c.as_slice.ensures.value c.raised-left.ensures.knot in
    let left : get_or xs (c.args.at + c.args.at) 0 ≤ m = (let b = c.raised-number.ensures.number in omega arith) in
    let one : c.args.at + c.args.at + 1 ≡ suc (c.args.at + c.args.at) = omega arith in
    let right : get_or xs (suc (c.args.at + c.args.at)) 0 ≤ m = subst (λ k. get_or xs k 0 ≤ m) one (subst (λ ys. get_or ys (c.args.at + c.args.at + 1) 0 ≤ m) c.as_slice-2.ensures.value c.raised-number.ensures.knot) in
    subst (λ ys. RisesBut ys h c.args.at) (sym c.put.ensures) (rises_mended xs h d c.args.at m long some below is left right f)
