use Rattle.std.proofs.Common.{ℕ, ◌<◌, ◌≤◌, ◌+◌, get_or}
use Rattle.ledger_books.specs.Peaks.{RisesBut}
use Rattle.ledger_books.proofs.peaks.most_between.Given as goal

abbrev pub invariant-loop-low : goal.invariant-loop-low
invariant-loop-low l = (h m : ℕ) → RisesBut l.knots h 0 → 0 < l.from → l.to ≤ h + h → (0 < l.low) × (l.high ≤ h + h) × (l.most ≤ m → ((q : ℕ) → l.low ≤ q → q < l.high → get_or l.knots q 0 ≤ m) → (q : ℕ) → l.from ≤ q → q < l.to → get_or l.knots q 0 ≤ m)

abbrev pub decreases-loop-low : goal.decreases-loop-low
decreases-loop-low l = l.high
