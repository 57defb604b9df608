use Rattle.std.proofs.Common.{◌-◌, ◌&&◌, ℕ, Bool, reverse, sym, ap, ◌∙◌, arith}
use Rattle.std.specs.List.{list_all as all}
use Rattle.chunk_core.specs.Lists.{has}
use Rattle.res_ledger.specs.Order.{covered}
use Rattle.ledger_audit.proofs.Standing.{stands_within, stands_last, stands_none, all_last}
use Rattle.ledger_audit.proofs.marks.are_covered.Goals as goal

pub returns-in_default : goal.returns-in_default
returns-in_default c = λ ys t.
    let i = c.loop-n.invariant ys t in
    let l = i.2 in
    let m = c.loop-n-test.true in
    absurd (stands_within c.args.torn.now c.args.from c.args.to ys (c.loop-n.n - 1) t (omega (arith, l, m)) (sym c.at.ensures ∙ c.in_default.is))

pub returns-then-not-branch : goal.returns-then-not-branch
returns-then-not-branch c = λ ys t.
    let may : ℕ → Bool = λ r. has r (covered c.args.past.now) in
    let i = c.loop-n.invariant ys t in
    let n = c.loop-n.n - 1 in
    let m = c.loop-n-test.true in
    let u = stands_last c.args.torn.now c.args.from c.loop-n.n i.0 n c.in-Some.row i.1 (omega (arith, m)) (omega (arith, m)) (sym c.at.ensures ∙ c.in-Some.is) in
    sym (i.3 ∙ all_last may i.0 u.0 c.in-Some.row u.1 ∙ ap (λ b. b && all may (reverse u.0)) (sym c.in_ok-is_covered.ensures ∙ c.if-not-branch.true))

pub loop-n-preserved : goal.loop-n-preserved
loop-n-preserved c = λ ys t.
    let may : ℕ → Bool = λ r. has r (covered c.args.past.now) in
    let i = c.loop-n.invariant ys t in
    let n = c.loop-n.n - 1 in
    let m = c.loop-n-test.true in
    let l = i.2 in
    let u = stands_last c.args.torn.now c.args.from c.loop-n.n i.0 n c.in-Some.row i.1 (omega (arith, m)) (omega (arith, m)) (sym c.at.ensures ∙ c.in-Some.is) in
    (u.0, u.2, (omega (arith, l, m)), i.3 ∙ all_last may i.0 u.0 c.in-Some.row u.1 ∙ ap (λ b. b && all may (reverse u.0)) (sym c.in_ok-is_covered.ensures ∙ c.if-not-branch.false))

pub returns : goal.returns
returns c = λ ys t.
    let may : ℕ → Bool = λ r. has r (covered c.args.past.now) in
    let i = c.loop-n.invariant ys t in
    let m = c.loop-n-test.false in
    sym (i.3 ∙ ap (λ z. all may (reverse z)) (stands_none c.args.torn.now c.args.from c.loop-n.n i.0 i.1 (omega (arith, m))))
