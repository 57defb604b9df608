-- When a legal ledger is complete for a stream.
use Rattle.std.proofs.Common.{◌≡◌, ℕ, suc, zero, ◌≤◌, ◌⊎◌, Bool, List, ◌∷◌, ◌++◌, length, length-append, inl, inr, sym, ap, subst, ⊎_elim, arith}
use Rattle.chunk_core.specs.declared.code.Exit.{Exit}
use Rattle.chunk_core.specs.Lists.{IsAmong}
use Rattle.chunk_core.proofs.Cuts.{among_parts}
use Rattle.chunk_core.proofs.Members.{among_left}
use Rattle.res_ledger.specs.declared.event.Event.{Event}
use Rattle.res_ledger.specs.declared.event.StreamNo.{StreamNo}
use Rattle.res_ledger.specs.declared.event.What.TheVariants.{Acquire, Final, Lease, Open}
use Rattle.res_ledger.specs.Ledger.{Covers, IsCanceled, IsClosed, IsFinalized, IsHanded, IsLegal, IsOpened, IsUsable, LiesWithin, MayFollow, Notes}
use Rattle.res_ledger.specs.Ledger.LiesWithin.{same, below}
use Rattle.res_ledger.proofs.Prefixes.{acquired_once, front_closed, front_legal, front_notes, front_within, split_append}
use Rattle.tree_laws.specs.Whole.{IsCompleteFor}
use Rattle.tree_laws.proofs.Counts.{cancel_once, final_once}

within_trans : {L : List Event} {k : StreamNo} {s t a : ℕ} → LiesWithin L k s t → LiesWithin L k t a → LiesWithin L k s a
within_trans (same s) w = w
within_trans (below s p t n u) w = below s p _ n (within_trans u w)

-- each scope of a legal list lies below the root
under_root : (n : ℕ) (L : List Event) → length L ≤ n → IsLegal L → (k : StreamNo) (s : ℕ) → (s ≡ 0) ⊎ IsOpened L k s → LiesWithin L k s 0
under_root n L l legal k s (inl z) = subst (λ x. LiesWithin L k x 0) (sym z) (same 0)
under_root zero L l legal k s (inr o) = let t = among_parts o.1.0 L o.1.1 in absurd (let a = ap length t.2 in let b = length-append t.0 (o.1.0 ∷ t.1) in omega arith)
under_root (suc n) L l legal k s (inr o) =
    let t = among_parts o.1.0 L o.1.1 in
    let u : IsUsable t.0 k o.0 = (subst (λ b. MayFollow t.0 b (Open s o.0)) o.1.2 (subst (λ w. MayFollow t.0 o.1.0.by w) o.1.3 (legal t.0 t.1 o.1.0 t.2))).2 in
    let a = ap length t.2 in
    let b = length-append t.0 (o.1.0 ∷ t.1) in
    let w = under_root n t.0 (omega arith) (front_legal t.0 (o.1.0 ∷ t.1) (subst IsLegal t.2 legal)) k o.0 u.0 in
    below s o.0 0 o.1 (subst (λ x. LiesWithin x k o.0 0) (sym t.2) (front_within (o.1.0 ∷ t.1) w))

-- where the root is closed, each scope is
root_closes : (L : List Event) (k : StreamNo) (s p : ℕ) → IsLegal L → IsClosed L k 0 → Notes L k (Open s p) → IsClosed L k s
root_closes L k s p legal c n = (c.0, within_trans (under_root (length L) L (omega arith) legal k s (inr (p, n))) c.1, c.2)

-- what stands before a Final
handed_at : (L A B : List Event) (e : Event) (r : ℕ) (x : Exit) (ok : Bool) → IsLegal L → L ≡ A ++ e ∷ B → e.what ≡ Final r x ok → IsHanded A r
handed_at L A B e r x ok legal is w = (subst (λ y. MayFollow A e.by y) w (legal A B e is)).0

-- a lease that covers a row of a closed scope was made before the Close
covers_front : (A B : List Event) (r j : ℕ) (q : StreamNo) → IsLegal (A ++ B) → IsHanded A r → Covers (A ++ B) j q r → Covers A j q r
covers_front A B r j q legal h v =
    let P = v.0 in let Q = v.1 in let e = v.2 in let s = v.3 in
    let c = h.0 in
    ⊎_elim
    (λ f. (P, f.0, e, s, f.1, v.5, v.6, v.7))
    (λ f.
    let n : Notes (A ++ B) c.0 (Acquire r c.1) = front_notes B c.2 in
    let m : Notes (A ++ B) q (Acquire r v.7.0) = (v.7.1.0, subst (λ l. IsAmong v.7.1.0 l) (sym v.4) (among_left (e ∷ Q) v.7.1.1), v.7.1.2, v.7.1.3) in
    let u = acquired_once (A ++ B) legal r c.0 q c.1 v.7.0 n m in
    let d : IsClosed P c.0 c.1 = subst (λ l. IsClosed l c.0 c.1) (sym f.1) (front_closed f.0 c.3) in
    absurd (v.7.3 (subst (λ x. IsClosed P q x) u.1 (subst (λ x. IsClosed P x c.1) u.0 d))))
    (split_append A B P Q e v.4)

pub complete_for : (L : List Event) (k : StreamNo) → IsLegal L → IsClosed L k 0 → ((r s : ℕ) → Notes L k (Acquire r s) → IsFinalized L r) → ((j s : ℕ) → Notes L k (Lease j s) → IsCanceled L j) → IsCompleteFor L k
complete_for L k legal root final canceled = record {
  finalized_once = λ r s n. final_once L r legal (final r s n);
  after_close = λ A B e r x ok is by w. (handed_at L A B e r x ok legal is w).0;
  after_leases = λ A B e r x ok is by w j q c. (let h = handed_at L A B e r x ok legal is w in h.1 j q (covers_front A (e ∷ B) r j q (subst IsLegal is legal) h (subst (λ l. Covers l j q r) is c)));
  canceled_once = λ j s n. cancel_once L j legal (canceled j s n);
  scopes_closed = λ s p n. root_closes L k s p legal root n;
  roots_closed = λ r s n. root;
}
