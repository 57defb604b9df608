-- Which events can stand in one ledger.
use Rattle.std.specs.Prelude.{◌<◌, ◌^◌, List, length}
use Rattle.std.specs.List.{AllByRecursion}
use Rattle.res_ledger.specs.declared.event.StreamNo.{StreamNo}
use Rattle.res_ledger.specs.declared.event.StreamNo.TheVariants.{Outer, Inner}
use Rattle.res_ledger.specs.declared.event.What.{What}
use Rattle.res_ledger.specs.declared.event.What.TheVariants.{Open, Acquire, Lease, Cancel, Close, Final}
use Rattle.res_ledger.specs.declared.event.Event.{Event}
use Rattle.res_ledger.specs.Ledger.{IsStamped}

-- the number of the stream is below 2^32
abbrev pub IsSmallStream : StreamNo → Type 0
IsSmallStream Outer = Unit {0}
IsSmallStream (Inner k) = k < 2 ^ 32

-- each number of what was done is below 2^32
abbrev pub IsSmallWhat : What → Type 0
IsSmallWhat (Open s p) = (s < 2 ^ 32) × (p < 2 ^ 32)
IsSmallWhat (Acquire r s) = (r < 2 ^ 32) × (s < 2 ^ 32)
IsSmallWhat (Lease j s) = (j < 2 ^ 32) × (s < 2 ^ 32)
IsSmallWhat (Cancel j x) = j < 2 ^ 32
IsSmallWhat (Close s x) = s < 2 ^ 32
IsSmallWhat (Final r x ok) = r < 2 ^ 32

-- each number of the event but its stamp is below 2^32
abbrev pub IsSmallEvent : Event → Type 0
IsSmallEvent e = IsSmallStream e.by × IsSmallWhat e.what

-- the events can stand in one ledger: in their places, with numbers and a length that fit
abbrev pub IsLedger : List Event → Type 0
IsLedger L = IsStamped L × AllByRecursion IsSmallEvent L × (length L < 2 ^ 64)
