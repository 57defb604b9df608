-- Where a rotation begins and ends.
use Rattle.std.specs.Prelude.{◌≡◌, ◌<◌, ◌≤◌, ℕ, []}
use Rattle.chunk_core.specs.Lists.{IsAmong}
use Rattle.res_ledger.specs.declared.event.StreamNo.TheVariants.{Inner}
use Rattle.scope_tree.specs.Calls.{AtStart, IsOpenScope, Seen, used}
use Rattle.scope_tree.specs.Trace.{owed}
use Rattle.tree_laws.specs.Alone.{HasNoOthers}

-- nothing was done with this tree of stream 0, which has room for a file to be read and for all files
pub record IsUnused {P : Type 0} (a : Seen P) : Type 0 where
  pub start : AtStart a.seat
  pub others : HasNoOthers a.seat
  pub named : a.seat.by ≡ Inner 0
  pub shelf : a.shelf ≡ []
  pub root : IsOpenScope a 0
  pub empty : (r : ℕ) → r < 1025 → IsAmong r a.seat.empty
  pub used : used a ≡ 0
  pub owed : owed a.seat ≡ 1
  pub spare : 4099 ≤ a.seat.spare
  pub scopes : a.scopes ≡ 1025
  pub rows : a.rows ≡ 1025
