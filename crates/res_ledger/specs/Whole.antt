-- A ledger of a run that returned: nothing is left open, leased or without its end.
use Rattle.std.specs.Prelude.{◌≡◌, ℕ, Bool, false, nat_eq, List, ◌∷◌, ◌++◌, count_by}
use Rattle.chunk_core.specs.declared.code.Exit.{Exit}
use Rattle.res_ledger.specs.declared.event.StreamNo.{StreamNo}
use Rattle.res_ledger.specs.declared.event.What.{What}
use Rattle.res_ledger.specs.declared.event.What.TheVariants.{Open, Acquire, Lease, Cancel, Final}
use Rattle.res_ledger.specs.declared.event.Event.{Event}
use Rattle.res_ledger.specs.Ledger.{Notes, IsClosed, IsRowClosed, IsCanceled, Covers}

-- it is a Final of the row r
abbrev pub is_final : ℕ → What → Bool
is_final r (Final q x ok) = nat_eq q r
is_final r w = false

-- it is a Cancel of the lease for j
abbrev pub is_cancel : ℕ → What → Bool
is_cancel j (Cancel i x) = nat_eq i j
is_cancel j w = false

-- how many Finals of the row r there are
abbrev pub final_count : ℕ → List Event → ℕ
final_count r L = count_by (λ e. is_final r e.what) L

-- how many Cancels of the lease for j there are
abbrev pub cancel_count : ℕ → List Event → ℕ
cancel_count j L = count_by (λ e. is_cancel j e.what) L

-- each row has one Final, behind its Close and the Cancels of its leases; each lease has one Cancel; each opened scope is closed, and the root of each stream that acquired a row
pub record IsComplete (L : List Event) : Type 0 where
  pub finalized_once : (k : StreamNo) (r s : ℕ) → Notes L k (Acquire r s) → final_count r L ≡ 1
  pub after_close : (P Q : List Event) (e : Event) (r : ℕ) (x : Exit) (ok : Bool) → L ≡ P ++ e ∷ Q → e.what ≡ Final r x ok → IsRowClosed P r
  pub after_leases : (P Q : List Event) (e : Event) (r : ℕ) (x : Exit) (ok : Bool) → L ≡ P ++ e ∷ Q → e.what ≡ Final r x ok → (j : ℕ) (k : StreamNo) → Covers L j k r → IsCanceled P j
  pub canceled_once : (k : StreamNo) (j s : ℕ) → Notes L k (Lease j s) → cancel_count j L ≡ 1
  pub scopes_closed : (k : StreamNo) (s p : ℕ) → Notes L k (Open s p) → IsClosed L k s
  pub roots_closed : (k : StreamNo) (r s : ℕ) → Notes L k (Acquire r s) → IsClosed L k 0
