-- One row is acquired with an open device, which is read there.
use Rattle.std.proofs.Common.{◌≡◌, ℕ, ◌+◌, Bool, List, [], ◌∷◌, Option, Result, refl, sym, ◌∙◌, ap, subst, arith}
use Rattle.chunk_core.specs.declared.code.Exit.{Exit}
use Rattle.chunk_core.specs.Lists.{IsAmong}
use Rattle.chunk_core.proofs.Members.{among_last}
use Rattle.device_port.specs.Device.{DeviceTold}
use Rattle.device_port.specs.Depot.{Files}
use Rattle.row_seat.specs.Views.{HasRow}
use Rattle.scope_tree.specs.declared.branch.Branch.{Branch}
use Rattle.scope_tree.specs.declared.branch.AcquiredRow.{AcquiredRow}
use Rattle.scope_tree.specs.Calls.{AcquiresRow as Acquired, IsOpenScope, KeepsScopes, Seen, TakesRoom}
use Rattle.scope_tree.specs.Kept.{Kept}
use Rattle.scope_tree.specs.Trace.{owed}
use Rattle.scope_tree.proofs.Rooms.{open_taken}
use Rattle.outer_tables.specs.declared.not_read.NotRead.{NotRead}
use Rattle.outer_tables.specs.Devices.{new_device, when_open}
use Rattle.outer_tables.specs.Rows.{AcquiresRows, ReadsRow}
use Rattle.outer_tables.specs.Whole.{IsReadable, ReadsWhole}
use Rattle.outer_tables.proofs.Acquiring.{acquires_changed, acquires_one, the_last}

-- a device that was just opened can be read
pub new_readable : (files : Option Files) (n : ℕ) (path : List ℕ) (d : DeviceTold) → d ≡ when_open (new_device files n path) → IsReadable d
new_readable files n path d e = subst (λ t. IsReadable t) (sym e) (record { is_open = refl; mode = refl; room = omega arith })

module _ {V : Type 0} (told : V → DeviceTold) (ends : V → Exit → Bool → V → Type 0) (a b : Seen V) (s r : ℕ) (p d : V) (bs : List Branch) (hs : List AcquiredRow) (kept : Kept a.seat bs hs) (root : IsOpenScope a s) (empty : IsAmong r a.seat.empty) (acquires : Acquired a s r p b) (scopes : KeepsScopes a b) (room : TakesRoom 0 1 a b) (owes : owed b.seat ≡ owed a.seat + 1) (is : p ≡ d) where
  one : AcquiresRows ends s r (p ∷ []) a b
  one = acquires_one ends a b s r p (record { scope = root; row = empty }) acquires scopes room owes

  new : ¬ (HasRow a.seat.opened r)
  new h = open_taken a.seat bs hs kept r h empty

  pub is_there : HasRow b.seat.opened r
  is_there = (p, subst (λ l. IsAmong (r, p) l) (sym (ap (λ v. v.opened) acquires.seat)) (among_last a.seat.opened (r, p)))

  -- the row has that device
  pub is_it : (q : V) → IsAmong (r, q) b.seat.opened → q ≡ d
  is_it q m = the_last ends s r p q a b one new m ∙ is

  -- and once it was read, the row was acquired with the device as it is then
  pub row_read : (c : Seen V) (x : Result (List ℕ) NotRead) → ReadsRow told r b c x → (e : V) × ReadsWhole (told d) (told e) x × AcquiresRows ends s r (e ∷ []) a c
  row_read c x w = (w.after, subst (λ q. ReadsWhole (told q) (told w.after) x) (is_it w.before w.held) w.read, acquires_changed ends a b s r p w.after one new c w.tree)
