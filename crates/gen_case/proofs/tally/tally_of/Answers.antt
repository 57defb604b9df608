use Rattle.std.proofs.Common.{refl, arith}
use Rattle.gen_case.proofs.Tallies.{next, stopped}
use Rattle.gen_case.proofs.tally.tally_of.Goals as goal

pub loop-payload-preserved : goal.loop-payload-preserved
loop-payload-preserved c =
    let i = c.loop-payload.invariant in
    let p = c.in-Some.ensures in
    record {
      frames = omega (arith, p.shorter);
      bytes = omega (arith, p.shorter);
      digits = omega (arith, c.digit_sum.ensures.small);
      goes_on = λ F n e. next c.loop-payload.tally F c.loop-payload.rest.now _ c.in-Some.payload.now c.in-Some.back.now p.parts (omega (arith, p.shorter)) refl refl (omega (arith, c.digit_sum.ensures.sum)) (i.goes_on F n e);
    }

pub returns : goal.returns
returns c = λ F n e. stopped c.loop-payload.tally F c.loop-payload.rest.now c.in_default.ensures.parts (c.loop-payload.invariant.goes_on F n e)
