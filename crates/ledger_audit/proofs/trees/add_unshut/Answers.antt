use Rattle.std.proofs.Common.{◌≡◌, ◌<◌, ◌+◌, ◌-◌, ◌++◌, ap, sym, ◌∙◌, arith, Some, true, false, append_assoc, ◌∷◌, [], take, drop, filter, reverse, length, slice_get}
use Rattle.std.proofs.lemmas.Bool.{false≢true}
use Rattle.chunk_core.proofs.Bools.{fails, not_so}
use Rattle.ledger_audit.specs.Lists.{item_of}
use Rattle.ledger_audit.specs.Trees.{is_unshut}
use Rattle.ledger_audit.proofs.Fronts.{reverse_more, reverse_skip, unshut, unshut_so}
use Rattle.ledger_audit.proofs.trees.add_unshut.Goals as goal

pub loop-n-preserved-in-Continue-1 : goal.loop-n-preserved-in-Continue-1
loop-n-preserved-in-Continue-1 c = λ xs h.
    let i = c.loop-n.invariant xs h in
    let n = c.loop-n.n - 1 in
    let P = take c.args.place c.args.past.now in
    let p = is_unshut P c.args.by in
    let t = c.loop-n-test.true in
    let a = i.0 in
    let l : n < length xs = omega (arith, t, a) in
    let m : c.loop-n.n ≡ n + 1 = omega (arith, t) in
    let s : slice_get xs n ≡ Some c.in-Some.kid = sym (h.items n l) ∙ ap (λ k. item_of c.args.kids.now k c.args.scope n) (sym c.number-stream.ensures) ∙ sym c.at.ensures ∙ c.in-Some.is in
    let q : p c.in-Some.kid ≡ true = unshut c.args.past.now c.args.by c.in-Some.kid c.args.place c.requires.within (c.is_unclosed_before.ensures.0 c.if-is_unclosed_before.true) in (
      omega (arith, l),
      c.in_ok-push.ensures.items ∙ ap (λ z. z ++ c.in-Some.kid ∷ []) i.1 ∙ append_assoc c.args.out.now.items (reverse (filter p (drop c.loop-n.n xs))) (c.in-Some.kid ∷ [])
          ∙ ap (λ z. c.args.out.now.items ++ z) (sym (reverse_more p xs n c.loop-n.n c.in-Some.kid m s q)),
    )

pub loop-n-preserved : goal.loop-n-preserved
loop-n-preserved c = λ xs h.
    let i = c.loop-n.invariant xs h in
    let n = c.loop-n.n - 1 in
    let P = take c.args.place c.args.past.now in
    let p = is_unshut P c.args.by in
    let t = c.loop-n-test.true in
    let a = i.0 in
    let l : n < length xs = omega (arith, t, a) in
    let m : c.loop-n.n ≡ n + 1 = omega (arith, t) in
    let s : slice_get xs n ≡ Some c.in-Some.kid = sym (h.items n l) ∙ ap (λ k. item_of c.args.kids.now k c.args.scope n) (sym c.number-stream.ensures) ∙ sym c.at.ensures ∙ c.in-Some.is in
    let q : p c.in-Some.kid ≡ false = not_so (p c.in-Some.kid) (fails (p c.in-Some.kid) (λ g. false≢true (sym c.if-is_unclosed_before.false ∙ c.is_unclosed_before.ensures.1 (unshut_so c.args.past.now c.args.by c.in-Some.kid c.args.place c.requires.within g)))) in (
      omega (arith, l),
      i.1 ∙ ap (λ z. c.args.out.now.items ++ z) (sym (reverse_skip p xs n c.loop-n.n c.in-Some.kid m s q)),
    )
