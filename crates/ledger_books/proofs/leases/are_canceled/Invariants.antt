use Rattle.std.proofs.Common.{◌<◌, ℕ, get_or}
use Rattle.res_ledger.specs.Ledger.{IsCanceled}
use Rattle.ledger_books.proofs.leases.are_canceled.Given as goal

abbrev pub invariant-loop-stream : goal.invariant-loop-stream
invariant-loop-stream l = (i : ℕ) → i < l.stream-index → IsCanceled l.past (get_or l.streams i 0)
