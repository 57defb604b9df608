-- The seats of two streams, one of which took over the lease of a row of the other.
use Rattle.std.specs.Prelude.{◌≡◌, ℕ, Bool, true, List, [], ◌∷◌}
use Rattle.chunk_core.specs.declared.code.Exit.TheVariants.{Succeeded, Errored}
use Rattle.res_ledger.specs.declared.event.StreamNo.TheVariants.{Inner, Outer}
use Rattle.res_ledger.specs.declared.event.What.TheVariants.{Acquire, Cancel, Close, Final}
use Rattle.res_ledger.specs.Ledger.{Notes}
use Rattle.res_ledger.specs.Order.{finals}
use Rattle.row_seat.specs.declared.view.View.{View}
use Rattle.scope_tree.specs.Calls.{AtStart}
use Rattle.scope_tree.specs.Trace.{trace}

module _ {P : Type 0} where
  -- the root of the main seat is closed as succeeded, and the seat of the stream 5 is out with all that was leased
  pub record IsHost (v : View P) : Type 0 where
    pub main : v.main ≡ true
    pub by : v.by ≡ Outer
    pub closed : Notes v.events v.by (Close 0 Succeeded)
    pub pairs : v.pairs ≡ []
    pub kept : v.kept ≡ []
    pub out : v.out ≡ 5 ∷ []

  -- the seat of the stream 5 has the row 1, empty, and its lease of the row 0
  pub record IsGuest (v : View P) : Type 0 where
    pub start : AtStart v
    pub by : v.by ≡ Inner 5
    pub empty : v.empty ≡ 1 ∷ []
    pub pairs : v.pairs ≡ (5, 0) ∷ []
    pub kept : v.kept ≡ 5 ∷ []
    pub out : v.out ≡ []
    pub spare : v.spare ≡ 5

  -- the stream acquired the row 1, closed its root as errored, with which the row ended, and cancelled its lease as errored
  abbrev pub HasVisited : View P → Type 0
  HasVisited v = (ok : Bool) × (fs : List (ℕ × Bool)) × (trace v ≡ Acquire 1 0 ∷ Close 0 Errored ∷ Final 1 Errored ok ∷ Cancel 5 Errored ∷ finals Errored fs)
