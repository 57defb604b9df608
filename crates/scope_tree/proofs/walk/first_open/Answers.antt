use Rattle.std.proofs.Common.{false, slice_index_or, arith}
use Rattle.scope_tree.specs.declared.branch.Branch.{Branch}
use Rattle.scope_tree.specs.Walks.Nearest.{this, next}
use Rattle.scope_tree.proofs.Walking.{parent_any, shaded_root}
use Rattle.scope_tree.proofs.walk.first_open.Goals as goal

pub up-preserved : goal.up-preserved
up-preserved c =
    let bs = c.args.branches.now in let at = c.up.at in let d : Branch = record { parent = 0; shut = false } in let l = c.up.invariant.within in
    let s = c.is_open.ensures.shut c.up-test.true in
    let one = shaded_root bs at c.requires.root s in let less = c.requires.parents at d one l in record {
      within = omega (arith, less, l);
      near = λ q n. c.up.invariant.near q (next at (slice_index_or bs at d).parent q s one (parent_any bs at d l) n);
    }

pub returns : goal.returns
returns c = c.up.invariant.near c.up.at (this c.up.at (c.is_open.ensures.open c.up-test.false))
