-- What the calls of a tree do, as callers see it.
use Rattle.std.specs.Prelude.{◌≡◌, ◌≢◌, ◌⊎◌, ℕ, ◌+◌, ◌≤◌, Bool, List, [], ◌∷◌, ◌++◌, length, reverse}
use Rattle.chunk_core.specs.declared.code.Exit.{Exit}
use Rattle.chunk_core.specs.Lists.{IsAmong}
use Rattle.res_ledger.specs.declared.event.StreamNo.TheVariants.{Inner}
use Rattle.res_ledger.specs.declared.event.What.TheVariants.{Close}
use Rattle.res_ledger.specs.Ledger.{IsClosed, IsOpened, IsUsable, LiesWithin}
use Rattle.res_ledger.specs.Order.{finals, firsts}
use Rattle.res_ledger.specs.Own.{opens, rows, teardown, leased_rows}
use Rattle.row_seat.specs.declared.view.View.{View}
use Rattle.row_seat.specs.Views.{noted, placed, IsFreshStamp, MayStay}
use Rattle.scope_tree.specs.declared.branch.Spent.{Spent}
use Rattle.scope_tree.specs.Rows.{strangers}
use Rattle.scope_tree.specs.Leased.{leased_all}
use Rattle.scope_tree.specs.Released.{Releases, said}
use Rattle.scope_tree.specs.Released.Holder.{owner, lease}
use Rattle.scope_tree.specs.Walks.{FirstOpen}
use Rattle.scope_tree.specs.Trace.{trace, own_rows, opening, acquiring, leasing, canceling, shutting}

-- what callers see of a tree: the seat's view, the rows that ended, and the scopes and rows that there is room for
pub record Seen (P : Type 0) : Type 0 where
  pub seat : View P
  pub shelf : List (Spent P)
  pub scopes : ℕ
  pub rows : ℕ

module _ {P : Type 0} where
  -- the seat has noted nothing and has nothing open or handed; its leases are those of its own stream, on rows that are not its
  pub record AtStart (v : View P) : Type 0 where
    pub events : v.events ≡ []
    pub opened : v.opened ≡ []
    pub handed : v.handed ≡ []
    pub taken : v.taken ≡ []
    pub bare : (j r : ℕ) → IsAmong (j, r) v.pairs → ¬ (IsAmong r v.empty)
    pub leased : (j r : ℕ) → IsAmong (j, r) v.pairs → v.by ≡ Inner j
    pub spare : 1 ≤ v.spare

  -- the scope s is open
  abbrev pub IsOpenScope : Seen P → ℕ → Type 0
  IsOpenScope a s = IsUsable a.seat.events a.seat.by s

  -- the scope s is the root or was opened
  abbrev pub WasOpened : Seen P → ℕ → Type 0
  WasOpened a s = (s ≡ 0) ⊎ IsOpened a.seat.events a.seat.by s

  -- the scope s is closed
  abbrev pub IsClosedScope : Seen P → ℕ → Type 0
  IsClosedScope a s = IsClosed a.seat.events a.seat.by s

  -- what is open stays open, and what is closed stays closed
  pub record KeepsScopes (a b : Seen P) : Type 0 where
    pub usable : (s : ℕ) → IsOpenScope a s → IsOpenScope b s
    pub closed : (s : ℕ) → IsClosedScope a s → IsClosedScope b s

  -- the rows that are used: those that the tree acquired, and each other row on its shelf
  abbrev pub used : Seen P → ℕ
  used a = length (rows (trace a.seat)) + strangers (own_rows a.seat) (firsts (said a.shelf))

  -- of the same room so many scopes and so many rows more are used, and no row became a stranger
  pub record TakesRoom (m n : ℕ) (a b : Seen P) : Type 0 where
    pub opens : length (opens (trace b.seat)) ≡ length (opens (trace a.seat)) + m
    pub used : used b ≡ used a + n
    pub own : (T : List ℕ) → strangers (own_rows b.seat) T ≤ strangers (own_rows a.seat) T
    pub scopes : b.scopes ≡ a.scopes
    pub rows : b.rows ≡ a.rows

  -- the scope c, the next number, was opened as a child of the first open scope from at upward
  pub record OpensScope (a : Seen P) (at c : ℕ) (b : Seen P) : Type 0 where
    pub stamp : ℕ
    pub parent : ℕ
    pub nearest : FirstOpen a.seat.events a.seat.by at parent
    pub fresh : IsFreshStamp a.seat stamp
    pub number : c ≡ length (opens (trace a.seat)) + 1
    pub seat : b.seat ≡ noted a.seat (opening a.seat c parent stamp)
    pub shelf : b.shelf ≡ a.shelf
    pub scopes : b.scopes ≡ a.scopes
    pub rows : b.rows ≡ a.rows

  -- the row r was acquired in the scope s with the payload p
  pub record AcquiresRow (a : Seen P) (s r : ℕ) (p : P) (b : Seen P) : Type 0 where
    pub stamp : ℕ
    pub fresh : IsFreshStamp a.seat stamp
    pub seat : b.seat ≡ placed (noted a.seat (acquiring a.seat r s stamp)) r p
    pub shelf : b.shelf ≡ a.shelf
    pub scopes : b.scopes ≡ a.scopes
    pub rows : b.rows ≡ a.rows

  -- the scope s was leased for the stream j: the rows T that the Lease covers are leased, and then it is noted
  pub record Leases (a : Seen P) (s j : ℕ) (T : List ℕ) (b : Seen P) : Type 0 where
    pub covered : T ≡ leased_rows (trace a.seat) s
    pub stamp : ℕ
    pub fresh : IsFreshStamp a.seat stamp
    pub seat : b.seat ≡ noted (leased_all a.seat j T) (leasing a.seat j s stamp)
    pub shelf : b.shelf ≡ a.shelf
    pub scopes : b.scopes ≡ a.scopes
    pub rows : b.rows ≡ a.rows

  -- the Lease for j was cancelled with the exit x: its Cancel is noted, and then its rows are left, latest acquired first
  pub record Cancels (ends : P → Exit → Bool → P → Type 0) (a : Seen P) (j : ℕ) (T : List ℕ) (x : Exit) (b : Seen P) : Type 0 where
    pub stamp : ℕ
    pub fresh : IsFreshStamp a.seat stamp
    pub left : Releases ends x (lease j) (reverse T) (noted a.seat (canceling a.seat j x stamp)) a.shelf b.shelf b.seat
    pub scopes : b.scopes ≡ a.scopes
    pub rows : b.rows ≡ a.rows

  -- the scope s was closed with the exit x: its Close is noted, and then its teardown is closed
  pub record ClosesScope (ends : P → Exit → Bool → P → Type 0) (a : Seen P) (s : ℕ) (x : Exit) (b : Seen P) : Type 0 where
    pub stamp : ℕ
    pub fresh : IsFreshStamp a.seat stamp
    pub torn : Releases ends x owner (teardown (trace a.seat) s) (shutting a.seat s x stamp) a.shelf b.shelf b.seat
    pub scopes : b.scopes ≡ a.scopes
    pub rows : b.rows ≡ a.rows

  -- the close of s leaves open what was open and doesn't lie within s, and so the root where s is another scope
  pub record LeavesOpen (a : Seen P) (s : ℕ) (b : Seen P) : Type 0 where
    pub usable : (t : ℕ) → IsOpenScope a t → ¬ (LiesWithin a.seat.events a.seat.by t s) → IsOpenScope b t
    pub root : s ≢ 0 → IsOpenScope b 0

  -- no lease keeps one of the rows T where the seat closes it
  abbrev pub NoneStays : View P → List ℕ → Type 0
  NoneStays v T = (r : ℕ) → IsAmong r T → ¬ (MayStay v r)

  -- the close of s with the exit x ended exactly the rows T, in this order: they came on the shelf, and their Finals stand behind the Close
  pub record EndsRows (T : List ℕ) (a : Seen P) (s : ℕ) (x : Exit) (b : Seen P) : Type 0 where
    pub ended : List (Spent P)
    pub shelf : b.shelf ≡ a.shelf ++ ended
    pub rows : firsts (said ended) ≡ T
    pub noted : trace b.seat ≡ trace a.seat ++ Close s x ∷ finals x (said ended)
