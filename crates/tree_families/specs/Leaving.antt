-- In which order a stream leaves.
use Rattle.std.specs.Prelude.{◌≡◌, ℕ}
use Rattle.chunk_core.specs.declared.code.Exit.{Exit}
use Rattle.chunk_core.specs.Lists.{IsAmong}
use Rattle.res_ledger.specs.declared.event.Event.{Event}
use Rattle.res_ledger.specs.declared.event.What.TheVariants.{Cancel, Close}
use Rattle.scope_tree.specs.Calls.{Seen}
use Rattle.tree_families.specs.Pace.{NotesBelow}

-- the tree had noted the Close of its root when it noted a Cancel
abbrev pub LeavesLast : {P : Type 0} → Seen P → Type 0
LeavesLast y = (e : Event) (j : ℕ) (x : Exit) → IsAmong e y.seat.events → e.by ≡ y.seat.by → e.what ≡ Cancel j x → (z : Exit) × NotesBelow e.stamp y.seat.events y.seat.by (Close 0 z)
