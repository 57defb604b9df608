-- Three rows in three scopes, each below the other.
use Rattle.std.specs.Prelude.{◌≡◌, ℕ, Bool, List, [], ◌∷◌}
use Rattle.chunk_core.specs.declared.code.Exit.{Exit}
use Rattle.chunk_core.specs.declared.code.Exit.TheVariants.{Errored, Canceled}
use Rattle.res_ledger.specs.declared.event.Event.{Event}
use Rattle.res_ledger.specs.Ledger.{stamped}
use Rattle.res_ledger.specs.declared.event.StreamNo.TheVariants.{Outer}
use Rattle.res_ledger.specs.declared.event.What.TheVariants.{Acquire, Cancel, Close, Final, Lease, Open}
use Rattle.row_seat.specs.Views.{noted, placed, start}
use Rattle.scope_tree.specs.declared.branch.Spent.{Spent}
use Rattle.scope_tree.specs.Calls.{IsOpenScope, Seen}
use Rattle.tree_scripts.specs.Waiting.{IsAlone, noted_by}
use Rattle.scope_tree.specs.Trace.{acquiring, opening, trace}

module _ {P : Type 0} where
  -- the row r is acquired in the scope s with p
  abbrev pub after_acquire : Seen P → ℕ → ℕ → ℕ → P → Seen P
  after_acquire a r s n p = record a { seat = placed (noted a.seat (acquiring a.seat r s n)) r p }

  -- the scope c is opened under p
  abbrev pub after_open : Seen P → ℕ → ℕ → ℕ → Seen P
  after_open a c p n = record a { seat = noted a.seat (opening a.seat c p n) }

  -- the seat may split off so many
  abbrev pub at_first : ℕ → Seen P
  at_first splits = record { seat = start Outer 3 16 splits; shelf = []; scopes = 4; rows = 3 }

  -- the row 0 in the root, the row 1 in the scope 1 below it, the row 2 in the scope 2 below that
  abbrev pub three : P → P → P → ℕ → ℕ → ℕ → ℕ → ℕ → ℕ → Seen P
  three p q r splits n1 n2 n3 n4 n5 = after_acquire (after_open (after_acquire (after_open (after_acquire (at_first splits) 0 0 n1 p) 1 0 n2) 1 1 n3 q) 2 1 n4) 2 2 n5 r

  -- a tree stands so
  abbrev pub IsThree : Seen P → P → P → P → Type 0
  IsThree a p q r = (splits n1 n2 n3 n4 n5 : ℕ) × (a ≡ three p q r splits n1 n2 n3 n4 n5)

  -- so, with some payloads
  abbrev pub IsThreeOfSome : Seen P → Type 0
  IsThreeOfSome a = (p : P) × (q : P) × (r : P) × IsThree a p q r

  -- each row was finished once, with its payload, the lowest first: it ended with the root, as errored, and the two that the lease of the root covered when the lease was cancelled, as canceled
  pub record IsRootLeased (ends : P → Exit → Bool → P → Type 0) (p q r : P) (L : List Event) (shelf : List (Spent P)) : Type 0 where
    pub low : Spent P
    pub middle : Spent P
    pub upper : Spent P
    pub rows : (low.row ≡ 2) × (middle.row ≡ 1) × (upper.row ≡ 0)
    pub exits : (low.exit ≡ Errored) × (middle.exit ≡ Canceled) × (upper.exit ≡ Canceled)
    pub finished : ends r Errored low.ok low.pay × ends q Canceled middle.ok middle.pay × ends p Canceled upper.ok upper.pay
    pub shelf_is : shelf ≡ low ∷ middle ∷ upper ∷ []
    pub ledger : L ≡ stamped 0 (noted_by Outer (Acquire 0 0 ∷ Open 1 0 ∷ Acquire 1 1 ∷ Open 2 1 ∷ Acquire 2 2 ∷ Lease 5 0 ∷ Close 0 Errored ∷ Final 2 Errored low.ok ∷ Cancel 5 Canceled ∷ Final 1 Canceled middle.ok ∷ Final 0 Canceled upper.ok ∷ []))

  -- the scope 1 was closed with its rows, as errored, and the scope 3 opened under the root
  pub record IsReopened (a : Seen P) : Type 0 where
    pub low : Bool
    pub middle : Bool
    pub trace_is : trace a.seat ≡ Acquire 0 0 ∷ Open 1 0 ∷ Acquire 1 1 ∷ Open 2 1 ∷ Acquire 2 2 ∷ Close 1 Errored ∷ Final 2 Errored low ∷ Final 1 Errored middle ∷ Open 3 0 ∷ []
    pub root : IsOpenScope a 0
    pub alone : IsAlone a.seat
