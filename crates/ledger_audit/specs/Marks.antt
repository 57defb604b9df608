-- What is kept of what a stream's last Close or Cancel still has to come.
use Rattle.std.specs.Prelude.{◌≡◌, ◌≤◌, ◌+◌, ℕ, Bool, true, false, if◌then◌else◌, List, [], ◌++◌, length, reverse, take, Option, None}
use Rattle.chunk_core.specs.declared.code.Exit.{Exit}
use Rattle.res_ledger.specs.declared.event.StreamNo.{StreamNo}
use Rattle.res_ledger.specs.declared.event.What.TheVariants.{Lease}
use Rattle.res_ledger.specs.declared.event.Event.{Event}
use Rattle.res_ledger.specs.Own.{own, rows, picked, reaches}
use Rattle.res_ledger.specs.Order.{same_exit}
use Rattle.ledger_verdict.specs.Pending.{Due, passes, behind, go_on}
use Rattle.ledger_books.specs.Keyed.{NotesAt}
use Rattle.ledger_audit.specs.declared.marks.Mark.{Mark}
use Rattle.ledger_audit.specs.declared.marks.Mark.TheVariants.{Nothing, Closed, Canceled}

-- ys stands in xs from place i to place j
abbrev pub Stands : List ℕ → ℕ → ℕ → List ℕ → Type 0
Stands xs i j ys = (front back : List ℕ) × (xs ≡ front ++ (ys ++ back)) × (length front ≡ i) × (i + length ys ≡ j)

-- the rows that a lease on s by q at place i covers and that were acquired in front of place n, the latest first
abbrev pub covered_until : List Event → StreamNo → ℕ → ℕ → ℕ → List ℕ
covered_until L q i s n = reverse (picked (reaches (own q (take i L)) s) (rows (own q (take n L))))

-- the mark tells what is due; torn has the rows that were taken down
abbrev pub Tells : List Event → List ℕ → Mark → Due → Type 0
Tells L torn Nothing d = (d.strict ≡ false) × (d.rows ≡ [])
Tells L torn (Closed x i j) d = (d.exit ≡ x) × (d.strict ≡ true) × ((ys : List ℕ) × Stands torn i j ys × (d.rows ≡ reverse ys))
Tells L torn (Canceled x i n) d = (d.exit ≡ x) × (d.strict ≡ false) × ((q : StreamNo) × (j s : ℕ) × NotesAt L i q (Lease j s) × (n ≤ i) × (d.rows ≡ covered_until L q i s n))

-- what is due after a Final of r with this exit; None where it may not come there
abbrev pub after_final : (ℕ → Bool) → Due → ℕ → Exit → Option Due
after_final may d r y = if same_exit y d.exit then go_on d.exit d.strict (behind (passes may d) r d.rows) else None
