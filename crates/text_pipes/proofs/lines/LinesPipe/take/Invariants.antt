use Rattle.std.proofs.Common.{◌≡◌, ◌++◌, List, ℕ, false, length}
use Rattle.text_pipes.specs.LinesState.{TakesBytes}
use Rattle.text_pipes.proofs.lines.LinesPipe.take.Given as goal

abbrev pub invariant-steps : goal.invariant-steps
invariant-steps l = (x : List ℕ) × (x ++ l.left ≡ l.fn.bytes) × TakesBytes l.fn.self x l.lines.items false l.self

abbrev pub decreases-steps : goal.decreases-steps
decreases-steps l = length l.left
