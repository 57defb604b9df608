-- What a ledger says of one stream that has come to its end.
use Rattle.std.specs.Prelude.{◌≡◌, ℕ, Bool, List, ◌∷◌, ◌++◌}
use Rattle.chunk_core.specs.declared.code.Exit.{Exit}
use Rattle.res_ledger.specs.declared.event.StreamNo.{StreamNo}
use Rattle.res_ledger.specs.declared.event.What.TheVariants.{Open, Acquire, Lease, Final}
use Rattle.res_ledger.specs.declared.event.Event.{Event}
use Rattle.res_ledger.specs.Ledger.{Covers, IsCanceled, IsClosed, IsLegal, IsRowClosed, Notes}
use Rattle.res_ledger.specs.Order.{IsInOrder, IsOrdered}
use Rattle.res_ledger.specs.Whole.{IsComplete, cancel_count, final_count}

-- each row that k acquired has one Final; each Final that k noted stands behind the Close of its row and the Cancels of its leases; each Lease that k noted has one Cancel; each scope that k opened is closed, and its root if it acquired a row
pub record IsCompleteFor (L : List Event) (k : StreamNo) : Type 0 where
  pub finalized_once : (r s : ℕ) → Notes L k (Acquire r s) → final_count r L ≡ 1
  pub after_close : (A B : List Event) (e : Event) (r : ℕ) (x : Exit) (ok : Bool) → L ≡ A ++ e ∷ B → e.by ≡ k → e.what ≡ Final r x ok → IsRowClosed A r
  pub after_leases : (A B : List Event) (e : Event) (r : ℕ) (x : Exit) (ok : Bool) → L ≡ A ++ e ∷ B → e.by ≡ k → e.what ≡ Final r x ok → (j : ℕ) (q : StreamNo) → Covers L j q r → IsCanceled A j
  pub canceled_once : (j s : ℕ) → Notes L k (Lease j s) → cancel_count j L ≡ 1
  pub scopes_closed : (s p : ℕ) → Notes L k (Open s p) → IsClosed L k s
  pub roots_closed : (r s : ℕ) → Notes L k (Acquire r s) → IsClosed L k 0

-- the ledger is legal, and complete and in order for k
pub record IsWholeFor (L : List Event) (k : StreamNo) : Type 0 where
  pub legal : IsLegal L
  pub order : IsInOrder L k
  pub complete : IsCompleteFor L k

-- it is legal, complete and in order
pub record IsWholeLedger (L : List Event) : Type 0 where
  pub legal : IsLegal L
  pub complete : IsComplete L
  pub order : IsOrdered L
