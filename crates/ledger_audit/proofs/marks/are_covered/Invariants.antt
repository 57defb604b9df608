use Rattle.std.proofs.Common.{◌≡◌, ◌≤◌, ◌-◌, ℕ, List, reverse}
use Rattle.std.specs.List.{list_all as all}
use Rattle.chunk_core.specs.Lists.{has}
use Rattle.res_ledger.specs.Order.{covered}
use Rattle.ledger_audit.specs.Marks.{Stands}
use Rattle.ledger_audit.proofs.marks.are_covered.Given as goal

abbrev pub invariant-loop-n : goal.invariant-loop-n
invariant-loop-n l = (ys : List ℕ) → Stands l.torn l.from l.to ys → (zs : List ℕ) × Stands l.torn l.from l.n zs × (l.n ≤ l.to) × (all (λ r. has r (covered l.past)) (reverse ys) ≡ all (λ r. has r (covered l.past)) (reverse zs))

abbrev pub decreases-loop-n : goal.decreases-loop-n
decreases-loop-n l = l.n - l.from
