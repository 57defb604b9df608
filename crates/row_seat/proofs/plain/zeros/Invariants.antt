use Rattle.std.proofs.Common.{◌≡◌, ℕ, length, slice_index_or}
use Rattle.row_seat.proofs.plain.zeros.Given as goal

abbrev pub invariant-loop : goal.invariant-loop
invariant-loop l = (length l.words.items ≡ l.counter) × ((r : ℕ) → slice_index_or l.words.items r 0 ≡ 0)
