-- What a Close takes down, in a legal ledger.
use Rattle.std.specs.Prelude.{ℕ, nat_eq, ◌↔◌, List}
use Rattle.std.specs.List.{IsDistinct}
use Rattle.chunk_core.specs.Lists.{IsAmong}
use Rattle.res_ledger.specs.declared.event.Event.{Event}
use Rattle.res_ledger.specs.declared.event.StreamNo.{StreamNo}
use Rattle.res_ledger.specs.declared.event.What.TheVariants.{Acquire}
use Rattle.res_ledger.specs.Ledger.{IsClosed, IsLegal, IsRowClosed, LiesWithin, Notes}
use Rattle.res_ledger.specs.Own.{own, teardown}

-- the rows that a Close of the open scope s takes down are those that the stream acquired in an open scope within s
abbrev pub TornRowsAreExact : Type 0
TornRowsAreExact = (L : List Event) (k : StreamNo) (s r : ℕ) → IsLegal L → ¬ (IsClosed L k s) → IsAmong r (teardown (own k L) s) ↔ ((t : ℕ) × Notes L k (Acquire r t) × LiesWithin L k t s × ¬ (IsClosed L k t))

-- none of them was closed before
abbrev pub TornRowsAreOpen : Type 0
TornRowsAreOpen = (L : List Event) (k : StreamNo) (s r : ℕ) → IsLegal L → ¬ (IsClosed L k s) → IsAmong r (teardown (own k L) s) → ¬ (IsRowClosed L r)

-- each is taken down once
abbrev pub TornRowsAreDistinct : Type 0
TornRowsAreDistinct = (L : List Event) (k : StreamNo) (s : ℕ) → IsLegal L → IsDistinct nat_eq (teardown (own k L) s)
