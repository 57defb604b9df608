-- Two seats with one row: the main seat closes it, and the seat of the stream 1 lets go of its last lease.
use Rattle.std.specs.Prelude.{◌≡◌, ℕ, ◌≤◌, Bool, true, [], ◌∷◌}
use Rattle.chunk_core.specs.declared.code.Exit.TheVariants.{Succeeded}
use Rattle.res_ledger.specs.declared.event.StreamNo.TheVariants.{Inner, Outer}
use Rattle.res_ledger.specs.declared.event.What.TheVariants.{Acquire, Final}
use Rattle.res_ledger.specs.Ledger.{IsUsable, Notes}
use Rattle.row_seat.specs.declared.view.View.{View}
use Rattle.row_seat.specs.Views.{noted, took}

module _ {P : Type 0} where
  -- the payload of the row r was taken, and how its finalizer ended is noted
  abbrev pub IsEnded : View P → ℕ → Bool → View P → Type 0
  IsEnded v r ok w = (n : ℕ) × (w ≡ noted (took v r) (record { stamp = n; by = v.by; what = Final r Succeeded ok }))

  -- the main seat has the row 0 open, and the seat of the stream 1 is out with its lease
  pub record IsOwner (v : View P) : Type 0 where
    pub main : v.main ≡ true
    pub by : v.by ≡ Outer
    pub empty : v.empty ≡ []
    pub pay : P
    pub opened : v.opened ≡ (0, pay) ∷ []
    pub pairs : v.pairs ≡ []
    pub kept : v.kept ≡ []
    pub handed : v.handed ≡ []
    pub taken : v.taken ≡ []
    pub out : v.out ≡ 1 ∷ []
    pub spare : 2 ≤ v.spare
    pub acquired : Notes v.events v.by (Acquire 0 0)
    pub usable : IsUsable v.events v.by 0

  -- the row is closed, and nothing of the main seat is open or handed
  pub record HasClosed (v : View P) : Type 0 where
    pub main : v.main ≡ true
    pub by : v.by ≡ Outer
    pub empty : v.empty ≡ []
    pub opened : v.opened ≡ []
    pub pairs : v.pairs ≡ []
    pub kept : v.kept ≡ []
    pub handed : v.handed ≡ []
    pub taken : v.taken ≡ []
    pub out : v.out ≡ 1 ∷ []

  -- the seat of the stream 1 has its lease of the row 0, and noted nothing
  pub record IsLessee (v : View P) : Type 0 where
    pub by : v.by ≡ Inner 1
    pub empty : v.empty ≡ []
    pub opened : v.opened ≡ []
    pub pairs : v.pairs ≡ (1, 0) ∷ []
    pub kept : v.kept ≡ 1 ∷ []
    pub handed : v.handed ≡ []
    pub taken : v.taken ≡ []
    pub events : v.events ≡ []
    pub spare : 2 ≤ v.spare

  -- the lease is gone, and nothing is left to the seat
  pub record HasLeft (v : View P) : Type 0 where
    pub by : v.by ≡ Inner 1
    pub empty : v.empty ≡ []
    pub opened : v.opened ≡ []
    pub pairs : v.pairs ≡ []
    pub kept : v.kept ≡ []
    pub handed : v.handed ≡ []
    pub taken : v.taken ≡ []
