-- Where the row of a lease stands while its ledger grows.
use Rattle.std.specs.Prelude.{take}
use Rattle.res_ledger.specs.Standing.{HasStanding}
use Rattle.res_ledger.specs.Standing.Standing.{Open, Awaiting, Handed, Finalized}
use Rattle.ledger_laws.specs.Worked.{row_kept_by_a_lease}

-- the table's row is open, awaits its lease from the Close on, is handed by the Cancel, and is final
abbrev pub KeptRowGoesForward : Type 0
KeptRowGoesForward = HasStanding (take 2 row_kept_by_a_lease) 0 Open × HasStanding (take 3 row_kept_by_a_lease) 0 Awaiting × HasStanding (take 7 row_kept_by_a_lease) 0 Handed × HasStanding row_kept_by_a_lease 0 Finalized

-- the stream's own row, which no lease covers, is handed by its Close
abbrev pub OwnRowGoesForward : Type 0
OwnRowGoesForward = HasStanding (take 4 row_kept_by_a_lease) 1 Open × HasStanding (take 5 row_kept_by_a_lease) 1 Handed × HasStanding (take 6 row_kept_by_a_lease) 1 Finalized
