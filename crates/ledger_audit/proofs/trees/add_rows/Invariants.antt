use Rattle.std.proofs.Common.{◌≡◌, ◌≤◌, ◌++◌, ◌-◌, ℕ, List, length, take}
use Rattle.ledger_audit.specs.Lists.{IsList}
use Rattle.ledger_audit.proofs.trees.add_rows.Given as goal

abbrev pub invariant-loop-n : goal.invariant-loop-n
invariant-loop-n l = (xs : List ℕ) → IsList l.rows l.stream l.scope xs → (l.n ≤ length xs) × (l.out.items ≡ l.initial.out.items ++ take l.n xs)

abbrev pub decreases-loop-n : goal.decreases-loop-n
decreases-loop-n l = l.count - l.n
