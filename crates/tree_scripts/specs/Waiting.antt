-- A tree of which only a lease is left.
use Rattle.std.specs.Prelude.{◌≡◌, ◌≢◌, ℕ, map, ◌+◌, ◌≤◌, Bool, true, List, [], ◌∷◌, ◌++◌, length, reverse}
use Rattle.chunk_core.specs.declared.code.Exit.{Exit}
use Rattle.chunk_core.specs.Lists.{IsAmong}
use Rattle.res_ledger.specs.declared.event.Event.{Event}
use Rattle.res_ledger.specs.declared.event.StreamNo.{StreamNo}
use Rattle.res_ledger.specs.declared.event.StreamNo.TheVariants.{Inner}
use Rattle.res_ledger.specs.declared.event.What.{What}
use Rattle.res_ledger.specs.declared.event.What.TheVariants.{Cancel}
use Rattle.res_ledger.specs.Ledger.{stamped}
use Rattle.res_ledger.specs.Order.{finals, firsts}
use Rattle.row_seat.specs.declared.view.View.{View}
use Rattle.scope_tree.specs.declared.branch.Spent.{Spent}
use Rattle.scope_tree.specs.Calls.{ClosesScope, IsClosedScope, Leases, Seen}
use Rattle.scope_tree.specs.Leased.{pairs_for}
use Rattle.scope_tree.specs.Released.{said}
use Rattle.scope_tree.specs.Trace.{own_rows, trace}

-- k noted each of these
abbrev pub noted_by : StreamNo → List What → List (StreamNo × What)
noted_by k E = map (λ w. (k, w)) E

module _ {P : Type 0} where
  -- each event of the seat is of its own stream
  abbrev pub NotesAlone : View P → Type 0
  NotesAlone v = (e : Event) → IsAmong e v.events → e.by ≡ v.by

  -- the seat is the main one, and no other stream has a lease, a seat or an event
  pub record IsAlone (v : View P) : Type 0 where
    pub main : v.main ≡ true
    pub pairs : v.pairs ≡ []
    pub kept : v.kept ≡ []
    pub out : v.out ≡ []
    pub events : NotesAlone v

  -- the scope s was leased for the stream j, and then the root was closed with the exit x
  abbrev pub LeasesAndCloses : (P → Exit → Bool → P → Type 0) → Seen P → ℕ → ℕ → List ℕ → Exit → Seen P → Type 0
  LeasesAndCloses ends a s j T x b = (m : Seen P) × Leases a s j T m × ClosesScope ends m 0 x b

  -- the root is closed, and only the rows T of the lease for j, acquired here, are left
  pub record WaitsForCancel (a : Seen P) (j : ℕ) (T : List ℕ) : Type 0 where
    pub main : a.seat.main ≡ true
    pub by : a.seat.by ≢ Inner j
    pub closed : IsClosedScope a 0
    pub pairs : a.seat.pairs ≡ pairs_for j T
    pub kept : a.seat.kept ≡ j ∷ []
    pub out : a.seat.out ≡ []
    pub events : NotesAlone a.seat
    pub rows : (r : ℕ) → IsAmong r T → IsAmong r (own_rows a.seat)
    pub spare : length T + 1 ≤ a.seat.spare

  -- the lease for j was cancelled with the exit x, each of its rows T ended with that exit, latest acquired first, and with the payload that was left in it, and L is the whole ledger
  pub record CancelsAndFinishes (ends : P → Exit → Bool → P → Type 0) (a : Seen P) (j : ℕ) (T : List ℕ) (x : Exit) (L : List Event) (shelf : List (Spent P)) : Type 0 where
    pub last : List (Spent P)
    pub shelf_is : shelf ≡ a.shelf ++ last
    pub rows : firsts (said last) ≡ reverse T
    pub pays : (y : Spent P) → IsAmong y last → (p : P) × ((q : P) → IsAmong (y.row, q) a.seat.left → q ≡ p) × (y.exit ≡ x) × ends p x y.ok y.pay
    pub ledger : L ≡ stamped 0 (noted_by a.seat.by (trace a.seat ++ Cancel j x ∷ finals x (said last)))

  -- the root was closed with the exit x, and L is the whole ledger
  pub record FinishesLedger (ends : P → Exit → Bool → P → Type 0) (a : Seen P) (x : Exit) (L : List Event) (shelf : List (Spent P)) : Type 0 where
    pub last : Seen P
    pub closes : ClosesScope ends a 0 x last
    pub shelf_is : shelf ≡ last.shelf
    pub ledger : L ≡ stamped 0 (noted_by a.seat.by (trace last.seat))
