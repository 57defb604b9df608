-- What is held by a rotating resource.
use Rattle.std.specs.Prelude.{◌≡◌, ◌⊎◌, ◌≤◌, ◌+◌, ℕ, Bool, List, [], ◌∷◌, ◌++◌, length, Option, None, Some}
use Rattle.chunk_core.specs.Lists.{IsAmong}
use Rattle.chunk_core.specs.declared.code.Exit.{Exit}
use Rattle.chunk_core.specs.declared.code.Exit.TheVariants.{Succeeded}
use Rattle.res_ledger.specs.declared.event.What.{What}
use Rattle.res_ledger.specs.declared.event.What.TheVariants.{Open, Acquire, Close}
use Rattle.res_ledger.specs.Order.{finals}
use Rattle.res_ledger.specs.Own.{opens, closes, rows, latest}
use Rattle.row_seat.specs.declared.view.View.{View}
use Rattle.row_seat.specs.Views.{without_row}
use Rattle.scope_tree.specs.declared.branch.Spent.{Spent}
use Rattle.scope_tree.specs.Calls.{Seen}
use Rattle.scope_tree.specs.Released.{said}
use Rattle.scope_tree.specs.Trees.{Fits, seen}
use Rattle.scope_tree.specs.Trace.{trace}
use Rattle.hot_swap.specs.declared.swap.Held.{Held}
use Rattle.hot_swap.specs.declared.swap.Hotswap.{Hotswap}

module _ {S P D : Type 0} where
  -- what callers see of its tree
  abbrev pub seen_tree : (S → View P) → Hotswap S P D → Seen P
  seen_tree view h = seen view h.tree

  abbrev pub held : Hotswap S P D → Option Held
  held h = h.held

  -- its tree is in order, and its seat and the desk come from one maker
  abbrev pub FitsSwap : (S → View P) → (S → D → Type 0) → Hotswap S P D → D → Type 0
  FitsSwap view fits h d = Fits view fits h.tree d

-- the scope c is held
abbrev pub IsHeld : Option Held → ℕ → Type 0
IsHeld None c = ⊥
IsHeld (Some h) c = h.scope ≡ c

-- the row that is held
abbrev pub held_row : Option Held → List ℕ
held_row None = []
held_row (Some h) = h.row ∷ []

module _ {P : Type 0} where
  -- each scope was opened below the root and is closed, but for the root and the one that is held, which is the last one and has one row; each row was acquired in the root or in one of these scopes
  pub record IsHolding (a : Seen P) (h : Option Held) : Type 0 where
    pub flat : (c p : ℕ) → IsAmong (c, p) (opens (trace a.seat)) → (p ≡ 0) × (1 ≤ c) × (c ≤ length (opens (trace a.seat)))
    pub root : ¬ (IsAmong 0 (closes (trace a.seat)))
    pub shut : (c p : ℕ) → IsAmong (c, p) (opens (trace a.seat)) → IsAmong c (closes (trace a.seat)) ⊎ IsHeld h c
    pub held : (c : ℕ) → IsHeld h c → ((p : ℕ) × IsAmong (c, p) (opens (trace a.seat))) × ¬ (IsAmong c (closes (trace a.seat)))
    pub last : (k : Held) → h ≡ Some k → (os : List (ℕ × ℕ)) × (opens (trace a.seat) ≡ os ++ (k.scope, 0) ∷ []) × ((c p : ℕ) → IsAmong (c, p) os → IsAmong c (closes (trace a.seat)))
    pub known : (r c : ℕ) → IsAmong (r, c) (rows (trace a.seat)) → c ≤ length (opens (trace a.seat))
    pub row : (k : Held) → h ≡ Some k → latest (rows (trace a.seat)) k.scope ≡ k.row ∷ []

  -- no lease may keep a row of the seat
  abbrev pub IsUnleased : View P → Type 0
  IsUnleased v = (v.pairs ≡ []) × (v.out ≡ [])

  -- of these open rows those of T ended one after the other with the exit x, each with the payload that it had, and the others are left
  abbrev pub EndInTurn : (P → Exit → Bool → P → Type 0) → Exit → List ℕ → List (ℕ × P) → List (Spent P) → List (ℕ × P) → Type 0
  EndInTurn ends x [] open_rows [] left = left ≡ open_rows
  EndInTurn ends x [] open_rows (y ∷ ys) left = ⊥
  EndInTurn ends x (r ∷ T) open_rows [] left = ⊥
  EndInTurn ends x (r ∷ T) open_rows (y ∷ ys) left = (y.row ≡ r) × (y.exit ≡ x) × ((p : P) × IsAmong (r, p) open_rows × ends p x y.ok y.pay) × EndInTurn ends x T (without_row r open_rows) ys left

  -- what is noted where what was held is let go
  abbrev pub letting_go : Option Held → List (Spent P) → List What
  letting_go None ended = []
  letting_go (Some g) ended = Close g.scope Succeeded ∷ finals Succeeded (said ended)

  -- The row r, with the payload p, took the place of what was held: a scope was opened below the root and the row acquired there, and then the scope of what was held was closed as
  -- succeeded, and its row ended.
  pub record TakesPlace (ends : P → Exit → Bool → P → Type 0) (a : Seen P) (h : Option Held) (r : ℕ) (p : P) (b : Seen P) (k : Held) : Type 0 where
    pub row : k.row ≡ r
    pub scope : k.scope ≡ length (opens (trace a.seat)) + 1
    pub ended : List (Spent P)
    pub rows : EndInTurn ends Succeeded (held_row h) (a.seat.opened ++ (r, p) ∷ []) ended b.seat.opened
    pub shelf : b.shelf ≡ a.shelf ++ ended
    pub noted : trace b.seat ≡ trace a.seat ++ Open k.scope 0 ∷ Acquire r k.scope ∷ letting_go h ended

  -- the root was closed: what is held ended, and then the root's own rows, latest acquired first
  pub record EndsAll (ends : P → Exit → Bool → P → Type 0) (a : Seen P) (h : Option Held) (x : Exit) (b : Seen P) : Type 0 where
    pub ended : List (Spent P)
    pub rows : EndInTurn ends x (held_row h ++ latest (rows (trace a.seat)) 0) a.seat.opened ended b.seat.opened
    pub shelf : b.shelf ≡ a.shelf ++ ended
    pub noted : trace b.seat ≡ trace a.seat ++ Close 0 x ∷ finals x (said ended)
