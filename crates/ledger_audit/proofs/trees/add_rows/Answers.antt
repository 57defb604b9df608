use Rattle.std.proofs.Common.{◌≡◌, ◌<◌, ◌++◌, ap, sym, ◌∙◌, arith, Some, append_assoc, ◌∷◌, [], take, length, slice_get}
use Rattle.ledger_audit.proofs.Fronts.{take_more}
use Rattle.ledger_audit.proofs.trees.add_rows.Goals as goal

pub loop-n-preserved : goal.loop-n-preserved
loop-n-preserved c = λ xs h.
    let i = c.loop-n.invariant xs h in
    let n = c.loop-n.n in
    let l : n < length xs = (let e = c.count-count.ensures in let f = h.count in let t = c.loop-n-test.true in omega (arith, e, f, t)) in
    let s : slice_get xs n ≡ Some c.in-Some.row = sym (h.items n l) ∙ sym c.at.ensures ∙ c.in-Some.is in (
      omega (arith, l),
      c.in_ok-push.ensures.items ∙ ap (λ z. z ++ c.in-Some.row ∷ []) i.1 ∙ append_assoc c.args.out.now.items (take n xs) (c.in-Some.row ∷ []) ∙ ap (λ z. c.args.out.now.items ++ z) (sym (take_more xs n c.in-Some.row s)),
    )
