use Rattle.std.proofs.Common.{◌≡◌, ℕ, ◌<◌, ◌≤◌, ◌+◌, length, get_or}
use Rattle.ledger_books.specs.Peaks.{RisesBut}
use Rattle.ledger_books.proofs.peaks.mend_above.Given as goal

abbrev pub invariant-loop-at : goal.invariant-loop-at
invariant-loop-at l = record {
  long : length l.knots.items ≡ length l.initial.knots.items;
  lower : l.at ≤ l.below;
  rises : (h : ℕ) → length l.initial.knots.items ≡ h + h → l.below < h + h → RisesBut l.initial.knots.items h l.below → RisesBut l.knots.items h l.at;
  numbers : (h i : ℕ) → l.below < h + h → h ≤ i → get_or l.knots.items i 0 ≡ get_or l.initial.knots.items i 0;
}

abbrev pub decreases-loop-at : goal.decreases-loop-at
decreases-loop-at l = l.at
