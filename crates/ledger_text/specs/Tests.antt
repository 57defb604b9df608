-- The tests of the rules and the lists that they are told by are exact.
use Rattle.std.specs.Prelude.{◌≡◌, ◌↔◌, ℕ, true, List}
use Rattle.chunk_core.specs.Lists.{has}
use Rattle.res_ledger.specs.declared.event.StreamNo.{StreamNo}
use Rattle.res_ledger.specs.declared.event.Event.{Event}
use Rattle.res_ledger.specs.Ledger.{IsClosed, IsCoveredBy, Covers, IsLegal}
use Rattle.res_ledger.specs.Own.{own, is_closed, leased_rows}
use Rattle.res_ledger.specs.Order.{covered, covered_by, is_ordered, IsOrdered}
use Rattle.res_ledger.specs.Whole.{IsComplete}
use Rattle.res_ledger.specs.Judge.{is_legal, is_complete}

-- the test passes exactly the legal ledgers
abbrev pub LegalTestIsExact : Type 0
LegalTestIsExact = (L : List Event) → (is_legal L ≡ true) ↔ IsLegal L

-- of the legal ledgers the test passes exactly the complete ones
abbrev pub CompleteTestIsExact : Type 0
CompleteTestIsExact = (L : List Event) → IsLegal L → (is_complete L ≡ true) ↔ IsComplete L

-- in a legal ledger the test finds exactly the scopes that are closed
abbrev pub ClosedTestIsExact : Type 0
ClosedTestIsExact = (L : List Event) → IsLegal L → (k : StreamNo) (s : ℕ) → (is_closed (own k L) s ≡ true) ↔ IsClosed L k s

-- in a legal ledger the list has exactly the rows that a lease on s would cover
abbrev pub LeasedRowsAreExact : Type 0
LeasedRowsAreExact = (L : List Event) → IsLegal L → (k : StreamNo) (s r : ℕ) → (has r (leased_rows (own k L) s) ≡ true) ↔ IsCoveredBy L k s r

-- in a legal ledger the list has exactly the rows that the lease for j covers
abbrev pub CoveredByIsExact : Type 0
CoveredByIsExact = (L : List Event) → IsLegal L → (j r : ℕ) → (has r (covered_by L j) ≡ true) ↔ ((k : StreamNo) × Covers L j k r)

-- in a legal ledger the list has exactly the rows that some lease covers
abbrev pub CoveredIsExact : Type 0
CoveredIsExact = (L : List Event) → IsLegal L → (r : ℕ) → (has r (covered L) ≡ true) ↔ ((j : ℕ) × (k : StreamNo) × Covers L j k r)

-- the test passes exactly the ordered ledgers
abbrev pub OrderTestIsExact : Type 0
OrderTestIsExact = (L : List Event) → (is_ordered L ≡ true) ↔ IsOrdered L
