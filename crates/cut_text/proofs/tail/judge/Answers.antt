use Rattle.std.proofs.Common.{◌∷◌, ◌++◌, [], refl}
use Rattle.chunk_core.proofs.Each.{each_snoc}
use Rattle.cut_text.specs.Tails.{IsEndLike}
use Rattle.cut_text.proofs.Tails.{line_more, shorter}
use Rattle.cut_text.proofs.tail.judge.Goals as goal

pub ends-init : goal.ends-init
ends-init c = ([], tt, refl)

pub ends-preserved : goal.ends-preserved
ends-preserved c =
    let i = c.ends.invariant in
    let e = c.in-Some.ensures in
    (i.0 ++ e.0 ∷ [], each_snoc IsEndLike i.0 e.0 i.1 e.1, line_more _ _ _ i.0 i.2 e)

pub ends-smaller : goal.ends-smaller
ends-smaller c = shorter _ _ c.in-Some.ensures

pub returns : goal.returns
returns c = let i = c.ends.invariant in (i.0, _, i.1, i.2, c.in_default.ensures, c.judge_ledger.ensures)
