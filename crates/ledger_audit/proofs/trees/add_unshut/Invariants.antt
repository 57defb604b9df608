use Rattle.std.proofs.Common.{◌≡◌, ◌≤◌, ◌++◌, ℕ, List, filter, length, reverse, take, drop}
use Rattle.ledger_books.specs.Keyed.{number_of}
use Rattle.ledger_audit.specs.Lists.{IsList}
use Rattle.ledger_audit.specs.Trees.{is_unshut}
use Rattle.ledger_audit.proofs.trees.add_unshut.Given as goal

abbrev pub invariant-loop-n : goal.invariant-loop-n
invariant-loop-n l = (xs : List ℕ) → IsList l.kids (number_of l.by) l.scope xs → (l.n ≤ length xs) × (l.out.items ≡ l.initial.out.items ++ reverse (filter (is_unshut (take l.place l.past) l.by) (drop l.n xs)))

abbrev pub decreases-loop-n : goal.decreases-loop-n
decreases-loop-n l = l.n
