-- By when the rows of each stream are final, told ahead.
use Rattle.std.specs.Prelude.{◌≤◌, ℕ, List}
use Rattle.res_ledger.specs.declared.event.StreamNo.{StreamNo}
use Rattle.res_ledger.specs.declared.event.What.TheVariants.{Acquire}
use Rattle.res_ledger.specs.declared.event.Event.{Event}
use Rattle.res_ledger.specs.Ledger.{Notes}
use Rattle.ledger_books.specs.declared.ends.Ends.{Ends}
use Rattle.ledger_books.specs.declared.index.Index.{Index}
use Rattle.ledger_books.specs.Ends.{final_of}
use Rattle.ledger_books.specs.Keyed.{number_of}
use Rattle.ledger_books.specs.Untils.{latest_of}

-- the rows that k acquired are final by the place that is kept of k
abbrev pub HasLasts : Index → Ends → List Event → Type 0
HasLasts x y P = (k : StreamNo) (r s : ℕ) → Notes P k (Acquire r s) → final_of y r ≤ latest_of x (number_of k)
