-- What isn't among events of rows and scopes up to a number.
use Rattle.std.proofs.Common.{◌≡◌, ℕ, zero, suc, ◌+◌, ◌<◌, ◌≤◌, ◌⊎◌, List, [], ◌∷◌, ◌++◌, inl, inr, refl, sym, subst, ◌∙◌, ⊎_elim, arith}
use Rattle.chunk_core.specs.Lists.{IsAmong}
use Rattle.chunk_core.specs.Lists.IsAmong.{here, there}
use Rattle.chunk_core.proofs.Members.{among_left, among_snoc}
use Rattle.res_ledger.specs.declared.event.Event.{Event}
use Rattle.res_ledger.specs.declared.event.StreamNo.{StreamNo}
use Rattle.res_ledger.specs.declared.event.What.{What}
use Rattle.res_ledger.specs.declared.event.What.TheVariants.{Acquire, Close, Lease, Open}
use Rattle.res_ledger.specs.Ledger.{IsAcquired, IsClosed, IsCoveredBy, IsLeased, IsOpened, LiesWithin, Notes}
use Rattle.res_ledger.specs.Ledger.LiesWithin.{same, below}
use Rattle.row_seat.specs.Views.{run}
use Rattle.shared_scripts.specs.Rows.{IsPast}

pub widen : {o a l c : ℕ} (q b m d : ℕ) → o ≤ q → a ≤ b → l ≤ m → c ≤ d → (w : What) → IsPast o a l c w → IsPast q b m d w
widen q b m d x y z u (Open s p) t = let k = t.1 in (t.0, omega arith, t.2)
widen q b m d x y z u (Acquire r s) t = let k = t.0 in (omega arith, t.1)
widen q b m d x y z u (Lease j s) t = omega arith
widen q b m d x y z u (Close s how) t = let k = t.1 in (t.0, omega arith)
widen q b m d x y z u w t = tt

module _ {o a l c : ℕ} (L : List Event) (h : (e : Event) → IsAmong e L → IsPast o a l c e.what) where
  pub past_note : (k : StreamNo) (w : What) → Notes L k w → IsPast o a l c w
  past_note k w n = subst (λ z. IsPast o a l c z) n.3 (h n.0 n.1)

  up_to : {k : StreamNo} {s t : ℕ} → LiesWithin L k s t → (t ≡ s) ⊎ (t ≡ 0)
  up_to (same s) = inl refl
  up_to {k = k} (below s p t n w) = inr (⊎_elim (λ e. e ∙ (past_note k (Open s p) n).2) (λ z. z) (up_to w))

  pub root_open : (k : StreamNo) → ¬ (IsClosed L k 0)
  root_open k x = let b = past_note k (Close x.0 x.2.0) x.2.1 in let p = b.0 in ⊎_elim (λ e. omega arith) (λ e. omega arith) (up_to x.1)

  pub not_closed : (k : StreamNo) (s : ℕ) → c < s → ¬ (IsClosed L k s)
  not_closed k s more x = let b = past_note k (Close x.0 x.2.0) x.2.1 in let p = b.0 in let q = b.1 in ⊎_elim (λ e. omega arith) (λ e. omega arith) (up_to x.1)

  pub not_opened : (k : StreamNo) (s : ℕ) → o < s → ¬ (IsOpened L k s)
  not_opened k s more x = let q = (past_note k (Open s x.0) x.1).1 in omega arith

  pub not_acquired : (r : ℕ) → a ≤ r → ¬ (IsAcquired L r)
  not_acquired r more x = let q = (past_note x.0 (Acquire r x.1) x.2).0 in omega arith

  pub not_leased : (j : ℕ) → l ≤ j → ¬ (IsLeased L j)
  not_leased j more x = let q = past_note x.0 (Lease j x.1) x.2 in omega arith

  pub covered : (k : StreamNo) (n r : ℕ) → IsCoveredBy L k (n + 1) r → r ≡ n
  covered k n r x = let q = (past_note k (Acquire r x.0) x.1).1 in ⊎_elim
      (λ e. let z = (past_note k (Open x.0 (n + 1)) e).2 in absurd (omega arith))
      (λ w. ⊎_elim (λ e. omega arith) (λ e. absurd (omega arith)) (up_to w))
      x.2

  pub grow : (q b m d : ℕ) → o ≤ q → a ≤ b → l ≤ m → c ≤ d → (e : Event) → IsPast q b m d e.what → (x : Event) → IsAmong x (L ++ e ∷ []) → IsPast q b m d x.what
  grow q b m d s t u w e new x i = ⊎_elim (λ j. widen q b m d s t u w x.what (h x j)) (λ is. subst (λ (z : Event). IsPast q b m d z.what) (sym is) new) (among_snoc L x e i)

pub more_notes : {L : List Event} {k : StreamNo} {w : What} (M : List Event) → Notes L k w → Notes (L ++ M) k w
more_notes M n = (n.0, among_left M n.1, n.2, n.3)

-- each number of a run is in it, and no other
pub among_run : (k from r : ℕ) → from ≤ r → r < from + k → IsAmong r (run from k)
among_run zero from r a b = absurd (omega arith)
among_run (suc k) from r a b = ⊎_elim (λ e. subst (λ x. IsAmong x (run from (suc k))) e (here (run (suc from) k))) (λ l. there from (among_run k (suc from) r (omega arith) (omega arith))) (nat_cases from r a)
  where
    nat_cases : (x y : ℕ) → x ≤ y → (x ≡ y) ⊎ (x < y)
    nat_cases x y p = grind arith
