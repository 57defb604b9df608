use Rattle.std.proofs.Common.{◌≡◌}
use Rattle.join_report.proofs.Listing.{ends_below}
use Rattle.join_report.proofs.accounts.Accounts.new.Given as goal

abbrev pub invariant-loop-k : goal.invariant-loop-k
invariant-loop-k l = l.ends.items ≡ ends_below l.k
