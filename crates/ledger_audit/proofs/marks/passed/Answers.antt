use Rattle.std.proofs.Common.{◌-◌, cond, ℕ, List, Bool, Option, None, Some, reverse, sym, ap, ◌∙◌, arith}
use Rattle.chunk_core.specs.Lists.{has}
use Rattle.res_ledger.specs.Order.{covered}
use Rattle.ledger_verdict.specs.Pending.{behind}
use Rattle.ledger_audit.proofs.Standing.{stands_within, stands_last, stands_none, behind_last, differs, same}
use Rattle.ledger_audit.proofs.marks.passed.Goals as goal

pub returns-in_default : goal.returns-in_default
returns-in_default c = λ ys t.
    let i = c.loop-n.invariant ys t in
    let l = i.2 in
    let m = c.loop-n-test.true in
    absurd (stands_within c.args.torn.now c.args.from c.args.to ys (c.loop-n.n - 1) t (omega (arith, l, m)) (sym c.at.ensures ∙ c.in_default.is))

pub returns-then-next-row : goal.returns-then-next-row
returns-then-next-row c = λ ys t.
    let may : ℕ → Bool = λ r. has r (covered c.args.past.now) in
    let i = c.loop-n.invariant ys t in
    let n = c.loop-n.n - 1 in
    let m = c.loop-n-test.true in
    let x = c.in-Some.next in
    let u = stands_last c.args.torn.now c.args.from c.loop-n.n i.0 n x i.1 (omega (arith, m)) (omega (arith, m)) (sym c.at.ensures ∙ c.in-Some.is) in
    (u.0, u.2, i.3 ∙ behind_last may c.args.row i.0 u.0 x u.1 ∙ ap (λ b. cond {A = Option (List ℕ)} b (Some (reverse u.0)) (cond (may x) (behind may c.args.row (reverse u.0)) None)) (same x c.args.row c.if-next-row.true))

pub returns-then-not-branch : goal.returns-then-not-branch
returns-then-not-branch c = λ ys t.
    let may : ℕ → Bool = λ r. has r (covered c.args.past.now) in
    let i = c.loop-n.invariant ys t in
    let n = c.loop-n.n - 1 in
    let m = c.loop-n-test.true in
    let x = c.in-Some.next in
    let u = stands_last c.args.torn.now c.args.from c.loop-n.n i.0 n x i.1 (omega (arith, m)) (omega (arith, m)) (sym c.at.ensures ∙ c.in-Some.is) in
    i.3 ∙ behind_last may c.args.row i.0 u.0 x u.1
    ∙ ap (λ b. cond {A = Option (List ℕ)} b (Some (reverse u.0)) (cond (may x) (behind may c.args.row (reverse u.0)) None)) (differs x c.args.row c.if-next-row.false)
    ∙ ap (λ b. cond {A = Option (List ℕ)} b (behind may c.args.row (reverse u.0)) None) (sym c.in_ok-is_covered.ensures ∙ c.if-not-branch.true)

pub loop-n-preserved : goal.loop-n-preserved
loop-n-preserved c = λ ys t.
    let may : ℕ → Bool = λ r. has r (covered c.args.past.now) in
    let i = c.loop-n.invariant ys t in
    let n = c.loop-n.n - 1 in
    let m = c.loop-n-test.true in
    let l = i.2 in
    let x = c.in-Some.next in
    let u = stands_last c.args.torn.now c.args.from c.loop-n.n i.0 n x i.1 (omega (arith, m)) (omega (arith, m)) (sym c.at.ensures ∙ c.in-Some.is) in (
      u.0,
      u.2,
      (omega (arith, l, m)),
      i.3 ∙ behind_last may c.args.row i.0 u.0 x u.1
          ∙ ap (λ b. cond {A = Option (List ℕ)} b (Some (reverse u.0)) (cond (may x) (behind may c.args.row (reverse u.0)) None)) (differs x c.args.row c.if-next-row.false)
          ∙ ap (λ b. cond {A = Option (List ℕ)} b (behind may c.args.row (reverse u.0)) None) (sym c.in_ok-is_covered.ensures ∙ c.if-not-branch.false),
    )

pub returns : goal.returns
returns c = λ ys t.
    let may : ℕ → Bool = λ r. has r (covered c.args.past.now) in
    let i = c.loop-n.invariant ys t in
    let m = c.loop-n-test.false in
    i.3 ∙ ap (λ z. behind may c.args.row (reverse z)) (stands_none c.args.torn.now c.args.from c.loop-n.n i.0 i.1 (omega (arith, m)))
