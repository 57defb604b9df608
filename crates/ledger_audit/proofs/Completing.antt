-- A legal ledger in which all was ended.
use Rattle.std.proofs.Common.{◌≡◌, ◌++◌, ◌∷◌, ℕ, Bool, List, refl, sym, ◌∙◌, subst, ⊎_elim}
use Rattle.chunk_core.specs.Lists.{IsAmong}
use Rattle.chunk_core.specs.declared.code.Exit.{Exit}
use Rattle.res_ledger.specs.declared.event.StreamNo.{StreamNo}
use Rattle.res_ledger.specs.declared.event.What.{What}
use Rattle.res_ledger.specs.declared.event.What.TheVariants.{Open, Acquire, Lease, Cancel, Close, Final}
use Rattle.res_ledger.specs.declared.event.Event.{Event}
use Rattle.res_ledger.specs.Ledger.{Notes, Covers, IsRowClosed, IsLegal, MayFollow}
use Rattle.res_ledger.specs.Whole.{IsComplete, is_final, is_cancel}
use Rattle.res_ledger.proofs.Noted.{is_final_shape, is_cancel_shape}
use Rattle.res_ledger.proofs.Prefixes.{front_legal, front_row_closed, row_scope_closed, split_append}
use Rattle.ledger_verdict.proofs.Settled.{counted}
use Rattle.ledger_audit.specs.Complete.{IsAnswered}
use Rattle.ledger_audit.proofs.Counts.{final_once, cancel_once}

-- a lease that covers a final row was made in front of its Final
covers_before : (L P Q : List Event) (e : Event) (r : ℕ) (x : Exit) (ok : Bool) → IsLegal L → L ≡ P ++ e ∷ Q → e.what ≡ Final r x ok → (j : ℕ) (k : StreamNo) → Covers L j k r → Covers P j k r
covers_before L P Q e r x ok legal cut is j k c =
    let may = subst (MayFollow P e.by) is (legal P Q e cut) in
    ⊎_elim
    (λ s. (c.0, s.0, c.2, c.3, s.1, c.5, c.6, c.7))
    (λ s. absurd (
    let legal_A : IsLegal c.0 = front_legal c.0 (c.2 ∷ c.1) (subst IsLegal c.4 legal) in
    let closed : IsRowClosed c.0 r = subst (λ l. IsRowClosed l r) (sym s.1) (front_row_closed s.0 may.0.0) in
    c.7.3 (row_scope_closed c.0 c.0 legal_A (λ q w h. h) r k c.7.0 c.7.1 closed)))
    (split_append P (e ∷ Q) c.0 c.1 c.2 (sym cut ∙ c.4))

module _ (L : List Event) (legal : IsLegal L) where
  -- all was ended where what each event began was
  pub complete_where : ((e : Event) → IsAmong e L → IsAnswered L e.by e.what) → IsComplete L
  complete_where f =
      let at = λ (k : StreamNo) (w : What) (n : Notes L k w). subst (λ v. IsAnswered L k v) n.3 (subst (λ q. IsAnswered L q n.0.what) n.2 (f n.0 n.1)) in
      record {
        finalized_once = λ k r s n. final_once L r legal (at k (Acquire r s) n).0;
        after_close = λ P Q e r x ok q w. (subst (MayFollow P e.by) w (legal P Q e q)).0.0;
        after_leases = λ P Q e r x ok q w j k c. (subst (MayFollow P e.by) w (legal P Q e q)).0.1 j k (covers_before L P Q e r x ok legal q w j k c);
        canceled_once = λ k j s n. cancel_once L j legal (at k (Lease j s) n);
        scopes_closed = λ k s p n. at k (Open s p) n;
        roots_closed = λ k r s n. (at k (Acquire r s) n).1;
      }

  answered : IsComplete L → (k : StreamNo) (w : What) → Notes L k w → IsAnswered L k w
  answered c k (Open s p) n = c.scopes_closed k s p n
  answered c k (Acquire r s) n =
      let t = counted (λ e. is_final r e.what) L (c.finalized_once k r s n) in
      let f = is_final_shape r t.0.what t.2 in
      ((t.0.by, f.1, (f.0, (t.0, t.1, refl, f.2))), c.roots_closed k r s n)
  answered c k (Lease j s) n =
      let t = counted (λ e. is_cancel j e.what) L (c.canceled_once k j s n) in
      let f = is_cancel_shape j t.0.what t.2 in
      (t.0.by, (f.0, (t.0, t.1, refl, f.1)))
  answered c k (Cancel j x) n = tt
  answered c k (Close s x) n = tt
  answered c k (Final r x ok) n = tt

  pub each_answered : IsComplete L → (e : Event) → IsAmong e L → IsAnswered L e.by e.what
  each_answered c e m = answered c e.by e.what (e, m, refl, refl)
