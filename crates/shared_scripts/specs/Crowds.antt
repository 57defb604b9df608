-- A main seat with 8 rows that 8 streams lease, each of which has 64 rows of its own.
use Rattle.std.specs.Prelude.{◌≡◌, ℕ, zero, suc, ◌+◌, ◌-◌, ◌*◌, ◌<◌, ◌≤◌, true, false, List, [], ◌∷◌}
use Rattle.chunk_core.specs.Lists.{IsAmong}
use Rattle.res_ledger.specs.declared.event.StreamNo.TheVariants.{Inner, Outer}
use Rattle.res_ledger.specs.declared.event.What.TheVariants.{Acquire, Open}
use Rattle.res_ledger.specs.Ledger.{IsAcquired, IsFinalized, Notes, NotesCancel}
use Rattle.row_seat.specs.declared.view.View.{View}
use Rattle.row_seat.specs.Views.{AtRest, run}
use Rattle.std.specs.Map.{keys_of}
use Rattle.shared_scripts.specs.Rows.{AllPast}

-- the leases for the stream j on k rows from m on
abbrev pub lent : ℕ → ℕ → ℕ → List (ℕ × ℕ)
lent j m zero = []
lent j m (suc k) = (j, m) ∷ lent j (suc m) k

module _ {P : Type 0} where
  -- with leases of the first m rows for the stream j, and no other
  abbrev pub with_lent : View P → ℕ → ℕ → View P
  with_lent v j m = record v { pairs = lent j 0 m }

  -- no row to which the seat has the right was acquired
  abbrev pub IsFreshBelow : View P → Type 0
  IsFreshBelow v = (r : ℕ) → IsAmong r v.empty → ¬ (IsAcquired v.events r)

  -- of the rows 0 to 7 the main seat opened those below m, and closed those below k; the streams from j to 8 are to come, each with 64 rows; the seats of the streams `out` are out
  pub record IsHost (v : View P) (out : List ℕ) (m k j : ℕ) : Type 0 where
    pub main : v.main ≡ true
    pub by : v.by ≡ Outer
    pub past : AllPast v m m j k
    pub rows : (r : ℕ) → k ≤ r → r < m → Notes v.events v.by (Open (r + 1) 0) × Notes v.events v.by (Acquire r (r + 1))
    pub opened : keys_of v.opened ≡ run k (m - k)
    pub pairs : v.pairs ≡ []
    pub kept : v.kept ≡ []
    pub handed : v.handed ≡ []
    pub taken : v.taken ≡ []
    pub fresh : IsFreshBelow v
    pub common : (r : ℕ) → m ≤ r → r < 8 → IsAmong r v.empty
    pub empty : (r : ℕ) → 64 * j ≤ r + 56 → r < 520 → IsAmong r v.empty
    pub had : (i : ℕ) → IsAmong i v.had → i < j
    pub outs : (i : ℕ) → IsAmong i v.out → i < j
    pub out_is : v.out ≡ out
    pub room : 2 * (8 - m) + 2 * (8 - k) + 266 * (9 - j) ≤ v.spare
    pub splits : 9 - j ≤ v.splits

  -- the stream j lived through its rows below n, and has its leases of the 8 rows
  pub record IsLiving (v : View P) (j n : ℕ) : Type 0 where
    pub from : 8 ≤ n
    pub side : v.main ≡ false
    pub by : v.by ≡ Inner j
    pub past : AllPast v n n 0 n
    pub opened : v.opened ≡ []
    pub pairs : v.pairs ≡ lent j 0 8
    pub kept : v.kept ≡ j ∷ []
    pub handed : v.handed ≡ []
    pub taken : v.taken ≡ []
    pub fresh : IsFreshBelow v
    pub empty : (r : ℕ) → n ≤ r → r < 64 * j + 8 → IsAmong r v.empty
    pub final : (r s : ℕ) → Notes v.events v.by (Acquire r s) → IsFinalized v.events r
    pub room : 4 * (64 * j + 8) + 9 ≤ v.spare + 4 * n

  -- the stream j cancelled its lease, and let go of the rows below m
  pub record IsQuitting (v : View P) (j m : ℕ) : Type 0 where
    pub side : v.main ≡ false
    pub by : v.by ≡ Inner j
    pub opened : v.opened ≡ []
    pub pairs : v.pairs ≡ lent j m (8 - m)
    pub kept : v.kept ≡ []
    pub handed : v.handed ≡ []
    pub taken : v.taken ≡ []
    pub fresh : IsFreshBelow v
    pub canceled : NotesCancel v.events v.by j
    pub room : 8 ≤ v.spare + m

  -- the seat of the stream j may be taken in
  pub record IsRested (v : View P) (j : ℕ) : Type 0 where
    pub side : v.main ≡ false
    pub by : v.by ≡ Inner j
    pub rest : AtRest v

  -- nothing is left to the main seat but the seats that are out
  pub record IsGathered (v : View P) (out : List ℕ) : Type 0 where
    pub main : v.main ≡ true
    pub by : v.by ≡ Outer
    pub rest : AtRest v
    pub out_is : v.out ≡ out
