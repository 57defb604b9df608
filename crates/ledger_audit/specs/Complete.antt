-- What has to stand in a legal ledger for each event.
use Rattle.std.specs.Prelude.{List}
use Rattle.res_ledger.specs.declared.event.StreamNo.{StreamNo}
use Rattle.res_ledger.specs.declared.event.What.{What}
use Rattle.res_ledger.specs.declared.event.What.TheVariants.{Open, Acquire, Lease}
use Rattle.res_ledger.specs.declared.event.Event.{Event}
use Rattle.res_ledger.specs.Ledger.{IsCanceled, IsClosed, IsFinalized}

-- an opened scope is closed; an acquired row is final, and the root of its stream is closed; a lease is canceled
abbrev pub IsAnswered : List Event → StreamNo → What → Type 0
IsAnswered L k (Open s p) = IsClosed L k s
IsAnswered L k (Acquire r s) = IsFinalized L r × IsClosed L k 0
IsAnswered L k (Lease j s) = IsCanceled L j
IsAnswered L k w = Unit {0}
