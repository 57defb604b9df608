use Rattle.std.proofs.Common.{◌≡◌, ◌++◌, List, ℕ, length}
use Rattle.std.specs.List.{flat_map, AllByRecursion}
use Rattle.cut_text.specs.Tails.{IsEndLike}
use Rattle.cut_text.proofs.tail.judge.Given as goal

-- lines of ends stand before the rest
abbrev pub invariant-ends : goal.invariant-ends
invariant-ends l = (lines : List (List ℕ)) × AllByRecursion IsEndLike lines × (l.tail ≡ flat_map (λ x. x) lines ++ l.rest)

abbrev pub decreases-ends : goal.decreases-ends
decreases-ends l = length l.rest
