-- How what a tree keeps agrees with the view of its seat.
use Rattle.std.specs.Prelude.{◌≡◌, ◌⊎◌, ℕ, suc, ◌<◌, ◌≤◌, List, [], ◌∷◌, length, drop, slice_index_or, nat_eq}
use Rattle.chunk_core.specs.Lists.{IsAmong, has}
use Rattle.res_ledger.specs.declared.event.StreamNo.TheVariants.{Inner}
use Rattle.res_ledger.specs.declared.event.What.{What}
use Rattle.res_ledger.specs.declared.event.What.TheVariants.{Lease}
use Rattle.res_ledger.specs.Ledger.{Notes, IsClosed, IsAcquired}
use Rattle.res_ledger.specs.Order.{firsts}
use Rattle.res_ledger.specs.Own.{opens, rows, closes}
use Rattle.row_seat.specs.declared.view.View.{View}
use Rattle.row_seat.specs.Views.{HasRow}
use Rattle.scope_tree.specs.declared.branch.Branch.{Branch}
use Rattle.scope_tree.specs.declared.branch.AcquiredRow.{AcquiredRow}
use Rattle.scope_tree.specs.declared.branch.Spent.{Spent}
use Rattle.scope_tree.specs.Rows.{Once}
use Rattle.std.specs.List.{IsDistinct}
use Rattle.res_ledger.specs.Rising.{Rises}
use Rattle.res_ledger.specs.Streams.{by_stream}
use Rattle.scope_tree.specs.Released.{MayWait, said}
use Rattle.scope_tree.specs.Trace.{trace, owed, ended_rows}

-- the scopes from n on, each with its parent
abbrev pub marks : ℕ → List Branch → List (ℕ × ℕ)
marks n [] = []
marks n (b ∷ bs) = (n, b.parent) ∷ marks (suc n) bs

-- the rows that a tree holds
abbrev pub acquisition_rows : List AcquiredRow → List ℕ
acquisition_rows [] = []
acquisition_rows (h ∷ hs) = h.row ∷ acquisition_rows hs

-- the same with their scopes
abbrev pub acquisition_pairs : List AcquiredRow → List (ℕ × ℕ)
acquisition_pairs [] = []
acquisition_pairs (h ∷ hs) = (h.row, h.scope) ∷ acquisition_pairs hs

-- the branches are the scopes that E opened, each with whether it has a Close of its own, and the acquired rows are those that E acquired, each with its scope
pub record Mirrors (E : List What) (bs : List Branch) (hs : List AcquiredRow) : Type 0 where
  pub size : 1 ≤ length bs
  pub opens : opens E ≡ marks 1 (drop 1 bs)
  pub shut : (c : ℕ) (d : Branch) → c < length bs → (slice_index_or bs c d).shut ≡ has c (closes E)
  pub ended : (s : ℕ) → IsAmong s (closes E) → s < length bs
  pub rows : rows E ≡ acquisition_pairs hs
  pub parents : (c : ℕ) (d : Branch) → 1 ≤ c → c < length bs → (slice_index_or bs c d).parent < c
  pub distinct : IsDistinct nat_eq (acquisition_rows hs)
  pub ranged : (r t : ℕ) → IsAmong (r, t) (acquisition_pairs hs) → t < length bs

module _ {P : Type 0} where
  -- the open rows are the acquired rows of the scopes that aren't closed
  pub record HoldsRows (v : View P) (hs : List AcquiredRow) : Type 0 where
    pub live : (r t : ℕ) → IsAmong (r, t) (acquisition_pairs hs) → ¬ (IsClosed v.events v.by t) → HasRow v.opened r
    pub only : (r : ℕ) → HasRow v.opened r → (t : ℕ) × IsAmong (r, t) (acquisition_pairs hs) × ¬ (IsClosed v.events v.by t)
    pub once : Once v.opened

  -- no lease stands on an empty row, and of each on an open row the Lease is noted
  pub record Lends (v : View P) : Type 0 where
    pub pairs : (j r : ℕ) → IsAmong (j, r) v.pairs → HasRow v.opened r → (s : ℕ) × Notes v.events v.by (Lease j s)
    pub bare : (j r : ℕ) → IsAmong (j, r) v.pairs → ¬ (IsAmong r v.empty)

  -- no row is handed, no empty row is acquired, and there is room for what is owed
  pub record Rests (v : View P) : Type 0 where
    pub handed : v.handed ≡ []
    pub taken : v.taken ≡ []
    pub empty : (r : ℕ) → IsAmong r v.empty → ¬ (IsAcquired v.events r)
    pub spare : owed v ≤ v.spare

  -- what a tree keeps agrees with the view of its seat
  pub record Kept (v : View P) (bs : List Branch) (hs : List AcquiredRow) : Type 0 where
    pub mirrors : Mirrors (trace v) bs hs
    pub holds : HoldsRows v hs
    pub lends : Lends v
    pub rests : Rests v

  -- the shelf has the rows whose Finals the stream noted, and none of them is open, leased or empty here
  pub record Shelved (v : View P) (hs : List AcquiredRow) (xs : List (Spent P)) : Type 0 where
    pub said_are : ended_rows (trace v) ≡ said xs
    pub distinct : IsDistinct nat_eq (firsts (said xs))
    pub opened : (r : ℕ) → HasRow v.opened r → ¬ (IsAmong r (firsts (said xs)))
    pub pairs : (j r : ℕ) → IsAmong (j, r) v.pairs → ¬ (IsAmong r (firsts (said xs)))
    pub empty : (r : ℕ) → IsAmong r v.empty → ¬ (IsAmong r (firsts (said xs)))
    -- a lease here is of the seat's own stream, or its Lease was noted
    pub leased : (j r : ℕ) → IsAmong (j, r) v.pairs → (v.by ≡ Inner j) ⊎ ((s : ℕ) × Notes v.events v.by (Lease j s))
    -- each acquired row that isn't open has ended, or may wait
    pub ended : (r t : ℕ) → IsAmong (r, t) (acquisition_pairs hs) → HasRow v.opened r ⊎ (IsAmong r (firsts (said xs)) ⊎ MayWait v r)
    pub rises : Rises (by_stream v.by v.events)
