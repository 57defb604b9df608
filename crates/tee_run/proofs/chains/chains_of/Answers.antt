-- A chain for the steps of each branch.
use Rattle.std.proofs.Common.{ap, length, subst, sym, arith, length-append, [], ◌∷◌}
use Rattle.chunk_core.proofs.Each.{among_each}
use Rattle.chunk_core.specs.Totals.{IsAt}
use Rattle.tee_run.specs.Chains.{IsChain, meaning_of}
use Rattle.tee_run.proofs.ChainLaws.{all_pipes, first_more, is_meaning}
use Rattle.tee_run.proofs.Ends.{at_among, at_item}
use Rattle.tee_run.proofs.chains.chains_of.Goals as goal

pub loop-steps-preserved : goal.loop-steps-preserved
loop-steps-preserved c =
    let i = c.loop-steps.invariant in
    let p = c.push_reserved.ensures in
    let bs = c.args.branches.now in
    let s = c.steps-item.result in
    let stands_at = subst (λ l. IsAt l c.loop-steps.steps-index s) c.as_slice-items.ensures (at_item c.as_slice-items.result.now c.loop-steps.steps-index s c.loop-steps-test.true c.steps-item.is) in
    let fits = among_each IsChain s bs c.requires (at_among bs c.loop-steps.steps-index s stands_at) in
    let one = length-append c.loop-steps.chains.items (c.in_ok-new.field-0 ∷ []) in
    let all = ap length p.items in
    record {
      count = omega (arith, all, one, i.count);
      room = rw p.capacity i.room;
      each = rw p.items (first_more bs c.loop-steps.chains.items s c.in_ok-new.field-0 i.each (subst (λ k. IsAt bs k s) (sym i.count) stands_at) (c.in_ok-new.ensures (meaning_of s) (is_meaning s fits.0)));
    }

pub returns : goal.returns
returns c =
    let i = c.loop-steps.invariant in
    let many = ap length c.as_slice-items.ensures in
    all_pipes c.args.branches.now c.loop-steps.chains.items (omega (arith, i.count, many, c.loop-steps-test.false)) i.each
