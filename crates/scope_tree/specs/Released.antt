-- How rows are let go one after the other, and what that does to the view of a seat.
use Rattle.std.specs.Prelude.{◌≡◌, ℕ, ◌≤◌, suc, Bool, true, cond, nat_eq, false, List, [], ◌∷◌, ◌++◌, length}
use Rattle.chunk_core.specs.declared.code.Exit.{Exit}
use Rattle.chunk_core.specs.Lists.{IsAmong}
use Rattle.res_ledger.specs.declared.event.What.TheVariants.{Final}
use Rattle.res_ledger.specs.Ledger.{Covers}
use Rattle.row_seat.specs.declared.view.Left.{Left}
use Rattle.row_seat.specs.declared.view.Left.TheVariants.{Stays, Yours}
use Rattle.row_seat.specs.declared.view.View.{View}
use Rattle.row_seat.specs.Views.{CanClose, CanLeave, ClosesRow, IsFreshStamp, LeavesRow, noted, took}
use Rattle.scope_tree.specs.declared.branch.Spent.{Spent}
use Rattle.std.specs.List.{IsDistinct}

-- who lets go of a row: its owner, who closes it, or a lease for the stream j, which is left
pub data Holder : Type 0 where
  owner : Holder
  lease : ℕ → Holder

module _ {P : Type 0} where
  -- the row r is open here
  abbrev pub is_here : ℕ → List (ℕ × P) → Bool
  is_here r [] = false
  is_here r (x ∷ xs) = cond (nat_eq x.0 r) true (is_here r xs)

  -- how many of the rows T are not open here
  abbrev pub away : List ℕ → List (ℕ × P) → ℕ
  away [] o = 0
  away (r ∷ T) o = cond (is_here r o) (away T o) (suc (away T o))

  -- the row r can be let go
  abbrev pub CanLetGo : Holder → View P → ℕ → Type 0
  CanLetGo owner v r = CanClose v r
  CanLetGo (lease j) v r = CanLeave v j r

  -- the row r was let go with this answer
  abbrev pub LetsGo : Holder → View P → ℕ → Left → View P → Type 0
  LetsGo owner v r a w = ClosesRow v r a w
  LetsGo (lease j) v r a w = LeavesRow v j r a w

  -- at most so many of the rows T end as they are let go: with a lease none that is open here
  abbrev pub most_let_go : Holder → List ℕ → View P → ℕ
  most_let_go owner T v = length T
  most_let_go (lease j) T v = away T v.opened

  -- the rows T can be let go
  pub record CanRelease (h : Holder) (T : List ℕ) (v : View P) : Type 0 where
    pub distinct : IsDistinct nat_eq T
    pub rows : (r : ℕ) → IsAmong r T → CanLetGo h v r
    pub handed : v.handed ≡ []
    pub taken : v.taken ≡ []
    pub spare : most_let_go h T v ≤ v.spare

  -- the row of y, which was handed to the seat, is taken, and its end is noted with the stamp n
  abbrev pub finalized : Exit → View P → Spent P → ℕ → View P
  finalized x v y n = noted (took v y.row) (record { stamp = n; by = v.by; what = Final y.row x y.ok })

  -- the finalizer of y, told the exit x, took the payload that was handed over with its row, and n is a stamp for its end
  pub record IsFinished (ends : P → Exit → Bool → P → Type 0) (x : Exit) (v : View P) (y : Spent P) (n : ℕ) : Type 0 where
    pub pay : P
    pub given : IsAmong (y.row, pay) v.given
    pub only : (q : P) → IsAmong (y.row, q) v.given → q ≡ pay
    pub exit : y.exit ≡ x
    pub finish : ends pay x y.ok y.pay
    pub fresh : IsFreshStamp v n

  -- the row r, which was handed to the seat, is ended and put on the shelf
  abbrev pub Finalizes : (P → Exit → Bool → P → Type 0) → Exit → ℕ → View P → List (Spent P) → List (Spent P) → View P → Type 0
  Finalizes ends x r v old new w = (y : Spent P) × (n : ℕ) × (y.row ≡ r) × (new ≡ old ++ y ∷ []) × IsFinished ends x v y n × (w ≡ finalized x v y n)

  -- from v to w the rows T are let go in this order; ys are those that were handed over, each taken, finished and noted before the next
  pub data Released (ends : P → Exit → Bool → P → Type 0) (x : Exit) (h : Holder) : List ℕ → View P → List (Spent P) → View P → Type 0 where
    done : (v : View P) → Released ends x h [] v [] v
    stays : {T : List ℕ} {w : View P} {ys : List (Spent P)} (v u : View P) (r : ℕ) → LetsGo h v r Stays u → Released ends x h T u ys w → Released ends x h (r ∷ T) v ys w
    ends_so : {T : List ℕ} {w : View P} {ys : List (Spent P)} (v u : View P) (y : Spent P) (n : ℕ) → LetsGo h v y.row Yours u → IsFinished ends x u y n → Released ends x h T (finalized x u y n) ys w → Released ends x h (y.row ∷ T) v (y ∷ ys) w

  -- the rows T are let go, and those that ended are put on the shelf
  abbrev pub Releases : (P → Exit → Bool → P → Type 0) → Exit → Holder → List ℕ → View P → List (Spent P) → List (Spent P) → View P → Type 0
  Releases ends x h T v old new w = (ys : List (Spent P)) × (new ≡ old ++ ys) × Released ends x h T v ys w

  -- the rows that ended, and whether their finalizers succeeded
  abbrev pub said : List (Spent P) → List (ℕ × Bool)
  said [] = []
  said (y ∷ ys) = (y.row, y.ok) ∷ said ys

  -- a row that was closed may wait for a lease: the seat is the main one, and a Lease of its own covers the row
  abbrev pub MayWait : View P → ℕ → Type 0
  MayWait v r = (v.main ≡ true) × ((j : ℕ) × Covers v.events j v.by r)
