-- A main seat with rows one after another: each in a scope of its own, and leased to a stream of its own.
use Rattle.std.specs.Prelude.{◌≡◌, ℕ, ◌+◌, ◌*◌, ◌<◌, ◌≤◌, true, [], ◌∷◌}
use Rattle.chunk_core.specs.Lists.{IsAmong}
use Rattle.res_ledger.specs.declared.event.Event.{Event}
use Rattle.res_ledger.specs.declared.event.StreamNo.TheVariants.{Outer}
use Rattle.res_ledger.specs.declared.event.What.TheVariants.{Acquire, Lease, Open}
use Rattle.res_ledger.specs.Ledger.{Notes}
use Rattle.row_seat.specs.declared.view.View.{View}
use Rattle.shared_scripts.specs.Rows.{IsPast}

module _ {P : Type 0} where
  -- the seat noted such events alone, the rows from a to `to` - 1 are empty, no row is handed to it, and no seat was split off
  pub record IsAt (v : View P) (o a l c to : ℕ) : Type 0 where
    pub past : (e : Event) → IsAmong e v.events → IsPast o a l c e.what
    pub empty : (r : ℕ) → a ≤ r → r < to → IsAmong r v.empty
    pub handed : v.handed ≡ []
    pub taken : v.taken ≡ []
    pub had : v.had ≡ []

  -- all rows below n have ended, and there is room for seven events of each further row
  pub record IsIdle (v : View P) (n to : ℕ) : Type 0 where
    pub at : IsAt v n n n n to
    pub opened : v.opened ≡ []
    pub pairs : v.pairs ≡ []
    pub kept : v.kept ≡ []
    pub room : 7 * to ≤ v.spare + 7 * n

  -- the seat is the main one
  pub record IsMain (v : View P) : Type 0 where
    pub main : v.main ≡ true
    pub by : v.by ≡ Outer

  -- the row n is open in the scope n + 1
  pub record IsOpen (v : View P) (n to : ℕ) : Type 0 where
    pub at : IsAt v (n + 1) (n + 1) n n to
    pub pay : P
    pub opened : v.opened ≡ (n, pay) ∷ []
    pub pairs : v.pairs ≡ []
    pub kept : v.kept ≡ []
    pub scope : Notes v.events v.by (Open (n + 1) 0)
    pub row : Notes v.events v.by (Acquire n (n + 1))
    pub room : 7 * to ≤ v.spare + 7 * n + 2

  -- and its scope is leased for the stream n
  pub record IsLent (v : View P) (n to : ℕ) : Type 0 where
    pub at : IsAt v (n + 1) (n + 1) (n + 1) n to
    pub pay : P
    pub opened : v.opened ≡ (n, pay) ∷ []
    pub pairs : v.pairs ≡ (n, n) ∷ []
    pub kept : v.kept ≡ n ∷ []
    pub scope : Notes v.events v.by (Open (n + 1) 0)
    pub row : Notes v.events v.by (Acquire n (n + 1))
    pub lease : Notes v.events v.by (Lease n (n + 1))
    pub room : 7 * to ≤ v.spare + 7 * n + 3

  -- the row n is closed, and the lease for the stream n stands
  pub record IsShut (v : View P) (n to : ℕ) : Type 0 where
    pub at : IsAt v (n + 1) (n + 1) (n + 1) (n + 1) to
    pub opened : v.opened ≡ []
    pub pairs : v.pairs ≡ (n, n) ∷ []
    pub kept : v.kept ≡ n ∷ []
    pub room : 7 * to ≤ v.spare + 7 * n + 5

  -- the main seat noted nothing and leased nothing; the streams from j on had no seat, the rows from a to `to` - 1 are empty, and it may split off so many seats with so many events
  pub record IsHost (v : View P) (j a to most seats : ℕ) : Type 0 where
    pub is : IsMain v
    pub events : v.events ≡ []
    pub pairs : v.pairs ≡ []
    pub kept : v.kept ≡ []
    pub had : (i : ℕ) → IsAmong i v.had → i < j
    pub empty : (r : ℕ) → a ≤ r → r < to → IsAmong r v.empty
    pub room : most ≤ v.spare
    pub splits : seats ≤ v.splits
