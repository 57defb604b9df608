-- The rows of tables.
use Rattle.std.specs.Prelude.{◌≡◌, ◌↔◌, ℕ, suc, ◌+◌, ◌-◌, ◌<◌, Bool, List, [], ◌∷◌, ◌++◌, length, map, Result}
use Rattle.std.specs.List.{AllByRecursion}
use Rattle.chunk_core.specs.declared.code.Exit.{Exit}
use Rattle.chunk_core.specs.Lists.{IsAmong}
use Rattle.device_port.specs.Device.{DeviceTold}
use Rattle.res_ledger.specs.declared.event.Event.{Event}
use Rattle.res_ledger.specs.declared.event.What.{What}
use Rattle.res_ledger.specs.declared.event.What.TheVariants.{Acquire}
use Rattle.row_seat.specs.Views.{IsWithin, paid, run}
use Rattle.scope_tree.specs.Calls.{KeepsScopes, Seen, TakesRoom}
use Rattle.scope_tree.specs.Trace.{owed}
use Rattle.tree_laws.specs.Called.{Called}
use Rattle.outer_tables.specs.declared.not_read.NotRead.{NotRead}
use Rattle.outer_tables.specs.Whole.{ReadsWhole}

-- so many rows are acquired in the scope s, from the row r on
abbrev pub acquires : ℕ → ℕ → ℕ → List What
acquires s r n = map (λ q. Acquire q s) (run r n)

-- each of these events has a greater stamp than each of those
abbrev pub AreLater : List Event → List Event → Type 0
AreLater L M = (e f : Event) → IsAmong e L → IsAmong f M → f.stamp < e.stamp

-- of two rows the one that was acquired later is the greater one
abbrev pub AcquireUpwards : List Event → Type 0
AcquireUpwards L = (e f : Event) (r s q t : ℕ) → IsAmong e L → IsAmong f L → e.what ≡ Acquire r s → f.what ≡ Acquire q t → f.stamp < e.stamp → q < r

module _ {P : Type 0} where
  -- the payloads in the rows from r on
  abbrev pub rows_from : ℕ → List P → List (ℕ × P)
  rows_from r [] = []
  rows_from r (p ∷ ps) = (r, p) ∷ rows_from (suc r) ps

  -- The rows from r on were acquired in the scope s with these payloads, by calls of the tree. Their Acquires were noted in order, behind all that was noted before, and they are empty no more.
  pub record AcquiresRows (ends : P → Exit → Bool → P → Type 0) (s r : ℕ) (ps : List P) (a b : Seen P) : Type 0 where
    pub events : List Event
    pub noted : map (λ e. e.what) events ≡ acquires s r (length ps)
    pub own : AllByRecursion (λ e. e.by ≡ a.seat.by) events
    pub later : AreLater events a.seat.events
    pub rise : AcquireUpwards events
    pub tree : b ≡ record a { seat = record a.seat { empty = b.seat.empty; opened = a.seat.opened ++ rows_from r ps; events = a.seat.events ++ events; spare = a.seat.spare - length ps } }
    pub empty : (q : ℕ) → IsAmong q b.seat.empty ↔ (IsAmong q a.seat.empty × ¬ (IsWithin r (r + length ps) q))
    pub calls : Called ends a [] b
    pub scopes : KeepsScopes a b
    pub room : TakesRoom 0 (length ps) a b
    pub owed : owed b.seat ≡ owed a.seat + length ps

  -- the device in the row r was read, and the row has it still
  pub record ReadsRow (told : P → DeviceTold) (r : ℕ) (a b : Seen P) (result : Result (List ℕ) NotRead) : Type 0 where
    pub before : P
    pub after : P
    pub held : IsAmong (r, before) a.seat.opened
    pub read : ReadsWhole (told before) (told after) result
    pub tree : b ≡ record a { seat = paid a.seat r after }
