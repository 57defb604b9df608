-- What the tree of a stream does, from the split of its seat to the end.
use Rattle.std.specs.Prelude.{◌≡◌, ◌↔◌, ℕ, Bool, false, List, [], ◌∷◌}
use Rattle.chunk_core.specs.declared.code.Exit.{Exit}
use Rattle.chunk_core.specs.Lists.{IsAmong}
use Rattle.res_ledger.specs.declared.event.StreamNo.TheVariants.{Inner}
use Rattle.res_ledger.specs.Ledger.{IsAcquired}
use Rattle.row_seat.specs.declared.view.View.{View}
use Rattle.scope_tree.specs.Calls.{AtStart, IsClosedScope, Seen}
use Rattle.tree_laws.specs.Called.{Called}

module _ {P : Type 0} where
  -- nothing is open or handed, and no empty row was acquired: what the end of a tree leaves
  abbrev pub HasNothingOpen : View P → Type 0
  HasNothingOpen v = (v.opened ≡ []) × (v.handed ≡ []) × (v.taken ≡ []) × ((r : ℕ) → IsAmong r v.empty → ¬ (IsAcquired v.events r))

  -- the seat of the stream j was just split off with the floor n, and keeps one Lease, its own, with leases on the rows T
  pub record IsNewGuest (v : View P) (j n : ℕ) (T : List ℕ) : Type 0 where
    pub start : AtStart v
    pub by : v.by ≡ Inner j
    pub main : v.main ≡ false
    pub had : v.had ≡ []
    pub floor : v.floor ≡ n
    pub kept : (i : ℕ) → IsAmong i v.kept ↔ (i ≡ j)
    pub pairs : (i r : ℕ) → IsAmong (i, r) v.pairs ↔ ((i ≡ j) × IsAmong r T)

  -- all that the tree of such a seat did, to y: of leases it cancelled its own alone, and it closed its root
  pub record Visits (ends : P → Exit → Bool → P → Type 0) (j n : ℕ) (T : List ℕ) (y : Seen P) : Type 0 where
    pub first : Seen P
    pub guest : IsNewGuest first.seat j n T
    pub calls : Called ends first ((j, T) ∷ []) y
    pub root : IsClosedScope y 0
