-- Closes of the root, and a front of the ledger.
use Rattle.std.specs.Prelude.{◌≡◌, ℕ, ◌≤◌}
use Rattle.chunk_core.specs.Lists.{IsAmong}
use Rattle.chunk_core.specs.declared.code.Exit.{Exit}
use Rattle.res_ledger.specs.declared.event.Event.{Event}
use Rattle.res_ledger.specs.declared.event.What.TheVariants.{Close}
use Rattle.row_seat.specs.declared.view.View.{View}

-- where the seat's own stream closed its root, it did so behind the first n events
abbrev pub ClosesRootBehind : {P : Type 0} → View P → ℕ → Type 0
ClosesRootBehind v n = (e : Event) (x : Exit) → IsAmong e v.events → e.by ≡ v.by → e.what ≡ Close 0 x → n ≤ e.stamp
