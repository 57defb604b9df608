-- Closes of roots, and a front of the ledger.
use Rattle.std.specs.Prelude.{◌≡◌, ℕ, ◌<◌, ◌≤◌, List}
use Rattle.chunk_core.specs.Lists.{IsAmong}
use Rattle.chunk_core.specs.declared.code.Exit.{Exit}
use Rattle.res_ledger.specs.declared.event.Event.{Event}
use Rattle.res_ledger.specs.declared.event.StreamNo.{StreamNo}
use Rattle.res_ledger.specs.declared.event.What.TheVariants.{Close}

-- j closed its root among the first n events
abbrev pub ClosedWithin : List Event → StreamNo → ℕ → Type 0
ClosedWithin L j n = (e : Event) × (x : Exit) × IsAmong e L × (e.by ≡ j) × (e.what ≡ Close 0 x) × (e.stamp < n)

-- where k closed its root, it did so behind these
abbrev pub ClosesBehind : List Event → StreamNo → ℕ → Type 0
ClosesBehind L k n = (e : Event) (x : Exit) → IsAmong e L → e.by ≡ k → e.what ≡ Close 0 x → n ≤ e.stamp
