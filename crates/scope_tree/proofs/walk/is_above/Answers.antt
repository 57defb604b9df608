use Rattle.std.proofs.Common.{◌≡◌, ◌≤◌, true, false, slice_index_or, sym, ◌∙◌, subst, ⊎_elim, arith, eq-eqb}
use Rattle.scope_tree.specs.declared.branch.Branch.{Branch}
use Rattle.scope_tree.specs.Walks.{StandsAbove}
use Rattle.scope_tree.specs.Walks.StandsAbove.{itself, further}
use Rattle.scope_tree.proofs.Parts.{eqb_eq}
use Rattle.scope_tree.proofs.Walking.{above_cases, above_le, parent_any}
use Rattle.scope_tree.proofs.walk.is_above.Goals as goal

pub up-preserved : goal.up-preserved
up-preserved c =
    let bs = c.args.branches.now in let at = c.up.at in let of = c.args.of in let d : Branch = record { parent = 0; shut = false } in let l = c.up.invariant.within in let test = c.up-test.true in
    let one : 1 ≤ at = omega (test, arith) in let less = c.requires.parents at d one l in let p = (slice_index_or bs at d).parent in record {
      within = omega (less, l, arith);
      up = λ x. c.up.invariant.up (further at p of one (parent_any bs at d l) x);
      down = λ x. ⊎_elim (λ e. absurd (omega (e, test, arith))) (λ t. subst (λ z. StandsAbove bs z of) (sym (t.2 d)) t.3) (above_cases (c.up.invariant.down x));
    }

pub returns-clause-above : goal.returns-clause-above
returns-clause-above c = λ h. c.up.invariant.up (subst (λ z. StandsAbove c.args.branches.now c.up.at z) (eqb_eq _ _ h) (itself c.up.at))

pub returns-clause-apart : goal.returns-clause-apart
returns-clause-apart c = λ h x.
    let at = c.up.at in let of = c.args.of in let g = above_le c.args.branches.now at of c.requires.parents c.up.invariant.within (c.up.invariant.down x) in let low = c.up-test.false in
    let e : at ≡ of = omega (g, low, arith) in let y : true ≡ false = sym (eq-eqb at of e) ∙ h in cc
