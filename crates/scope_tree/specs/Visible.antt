-- What callers see of a lease and of a room.
use Rattle.std.specs.Prelude.{ℕ, List}
use Rattle.scope_tree.specs.declared.leases.Lease.{Lease}
use Rattle.scope_tree.specs.declared.room.Room.{Room}

-- the stream that the lease was made for
abbrev pub lessee : Lease → ℕ
lessee l = l.stream

-- the rows that it covers, in the order in which they were acquired
abbrev pub rows_covered : Lease → List ℕ
rows_covered l = l.rows.items

module _ {P : Type 0} where
  -- for how many scopes the room is
  abbrev pub scope_room : Room P → ℕ
  scope_room room = room.scopes

  -- for how many rows
  abbrev pub row_room : Room P → ℕ
  row_room room = room.rows
