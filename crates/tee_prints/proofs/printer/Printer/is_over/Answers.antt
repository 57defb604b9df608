use Rattle.std.proofs.Common.{not, ap, ◌∙◌, subst, arith}
use Rattle.chunk_core.specs.Totals.{IsAt}
use Rattle.tee_prints.proofs.Beginning.{at_index, none_of, told_more}
use Rattle.tee_prints.proofs.printer.Printer.is_over.Goals as goal

pub loop-i-init : goal.loop-i-init
loop-i-init c = λ i l. absurd (omega (arith, l))

pub returns-then-is_none-clause-open : goal.returns-then-is_none-clause-open
returns-then-is_none-clause-open c =
    let ends = c.args.self.now.ends in
    let ok = ends.ok.0 in
    let len = c.len-i-end.ensures in
    let below = c.loop-i-test.true in
    let none = none_of c.index.result.now (c.is_none.ensures ∙ ap not c.if-is_none.true) in
    (c.loop-i.i, subst (λ x. IsAt ends.items c.loop-i.i x) none (at_index ends.items c.loop-i.i c.index.result.now (omega arith) c.index.ensures))

pub loop-i-preserved : goal.loop-i-preserved
loop-i-preserved c =
    let ends = c.args.self.now.ends in
    let ok = ends.ok.0 in
    let len = c.len-i-end.ensures in
    let below = c.loop-i-test.true in
    told_more ends.items c.loop-i.i c.index.result.now c.loop-i.invariant (at_index ends.items c.loop-i.i c.index.result.now (omega arith) c.index.ensures) (c.is_none.ensures ∙ ap not c.if-is_none.false)

pub returns-clause-over : goal.returns-clause-over
returns-clause-over c =
    let ok = c.args.self.now.ends.ok.0 in
    let len = c.len-i-end.ensures in
    let past = c.loop-i-test.false in
    λ i l. c.loop-i.invariant i (omega (arith, l, ok, len, past))
