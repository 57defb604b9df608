use Rattle.std.proofs.Common.{◌≡◌, ◌≤◌, true, false, sym, ◌∙◌, arith}
use Rattle.scope_tree.specs.declared.branch.Branch.{Branch}
use Rattle.scope_tree.specs.Walks.Shaded.{own}
use Rattle.scope_tree.proofs.Walking.{so, clear_up, shade_up, shut_any, clear_zero}
use Rattle.chunk_core.proofs.Bools.{not_so}
use Rattle.scope_tree.proofs.walk.is_open.Goals.{then-up-test+else-not-branches-at, else-up-test}
use Rattle.scope_tree.proofs.walk.is_open.Goals as goal

pub up-preserved : goal.up-preserved
up-preserved c =
    let bs = c.args.branches.now in let at = c.up.at in let d : Branch = record { parent = 0; shut = false } in let l = c.up.invariant.within in
    let one : 1 ≤ at = let t = c.up-test.true in omega arith in let less = c.requires.parents at d one l in record {
      within = omega (arith, less, l);
      clear = λ x. c.up.invariant.clear (clear_up bs at d l one c.if-not-branches-at.true x);
      shaded = λ x. c.up.invariant.shaded (shade_up bs at d l one x);
    }

pub returns-clause-open : goal.returns-clause-open
returns-clause-open c = λ h.
    let bs = c.args.branches.now in let d : Branch = record { parent = 0; shut = false } in
    elim c.up-test.branch [
      | then-up-test+else-not-branches-at w ↦ absurd (let e : true ≡ false = sym w.if-not-branches-at.false ∙ not_so _ h in cc)
      | else-up-test w ↦ c.up.invariant.clear (clear_zero bs c.up.at d w.up-test.false c.up.invariant.within (not_so _ h))
    ]

pub returns-clause-shut : goal.returns-clause-shut
returns-clause-shut c = λ h.
    let d : Branch = record { parent = 0; shut = false } in
    c.up.invariant.shaded (own c.up.at (shut_any c.args.branches.now c.up.at d c.up.invariant.within true (so _ h)))
