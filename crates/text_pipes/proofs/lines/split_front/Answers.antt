use Rattle.std.proofs.Common.{length, arith, le_refl}
use Rattle.std.proofs.lemmas.List.{take_all}
use Rattle.pull_nodes.proofs.Texts.{free-take}
use Rattle.text_pipes.proofs.lines.split_front.Goals as goal

pub returns-in-Some-clause-free : goal.returns-in-Some-clause-free
returns-in-Some-clause-free c =
    rw c.split_at.ensures.front (free-take c.args.bytes.now c.in-Some.at (λ k l t. c.in-Some.ensures.0.before k (omega arith) l t))

pub returns-in-None-clause-free : goal.returns-in-None-clause-free
returns-in-None-clause-free c =
    let whole = take_all (length c.args.bytes.now) c.args.bytes.now (le_refl (length c.args.bytes.now)) in
    rw whole at (free-take c.args.bytes.now (length c.args.bytes.now) (λ k l t. c.in-None.ensures k (omega arith) l t))
