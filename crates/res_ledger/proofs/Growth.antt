-- What one more event leaves as it was.
use Rattle.std.proofs.Common.{◌≡◌, ℕ, Bool, List, [], ◌∷◌, ◌++◌, ◌⊎◌, length, inl, inr, refl, sym, ap, ◌∙◌, subst, ⊎_elim}
use Rattle.chunk_core.specs.declared.code.Exit.{Exit}
use Rattle.res_ledger.specs.declared.event.Event.{Event}
use Rattle.res_ledger.specs.declared.event.What.TheVariants.{Final}
use Rattle.res_ledger.specs.Ledger.{IsClosed, IsFinalized, IsLegal, IsRowClosed, IsStamped, LiesWithin, MayFollow, Notes}
use Rattle.res_ledger.specs.declared.event.StreamNo.{StreamNo}
use Rattle.res_ledger.specs.declared.event.What.{What}
use Rattle.chunk_core.proofs.Members.{among_last, among_left, among_snoc}
use Rattle.res_ledger.specs.Ledger.LiesWithin.{below, same}
use Rattle.chunk_core.proofs.Cuts.{split_snoc}

pub legal_snoc : (L : List Event) (e : Event) → IsLegal L → MayFollow L e.by e.what → IsLegal (L ++ e ∷ [])
legal_snoc L e legal meets P Q x h =
    ⊎_elim (λ s. subst (λ M. MayFollow M x.by x.what) s.0 (subst (λ y. MayFollow L y.by y.what) s.1 meets)) (λ s. legal P s.0 x s.1) (split_snoc L P Q e x h)

pub stamped_snoc : (L : List Event) (e : Event) → IsStamped L → e.stamp ≡ length L → IsStamped (L ++ e ∷ [])
stamped_snoc L e stamped is P Q x h =
    ⊎_elim (λ s. ap (λ y. y.stamp) (sym s.1) ∙ is ∙ ap length s.0) (λ s. stamped P s.0 x s.1) (split_snoc L P Q e x h)

module _ (L : List Event) (e : Event) where
  pub noted_more : {k : StreamNo} {w : What} → Notes L k w → Notes (L ++ e ∷ []) k w
  noted_more n = (n.0, among_left (e ∷ []) n.1, n.2, n.3)

  pub noted_new : Notes (L ++ e ∷ []) e.by e.what
  noted_new = (e, among_last L e, refl, refl)

  pub noted_snoc : (k : StreamNo) (w : What) → Notes (L ++ e ∷ []) k w → Notes L k w ⊎ ((e.by ≡ k) × (e.what ≡ w))
  noted_snoc k w n = ⊎_elim (λ m. inl (n.0, m, n.2, n.3)) (λ s. inr (ap (λ y. y.by) (sym s) ∙ n.2, ap (λ y. y.what) (sym s) ∙ n.3)) (among_snoc L n.0 e n.1)

  pub within_more : {k : StreamNo} {s a : ℕ} → LiesWithin L k s a → LiesWithin (L ++ e ∷ []) k s a
  within_more (same s) = same s
  within_more (below s p a n w) = below s p a (noted_more n) (within_more w)

  pub closed_more : {k : StreamNo} {s : ℕ} → IsClosed L k s → IsClosed (L ++ e ∷ []) k s
  closed_more c = (c.0, within_more c.1, (c.2.0, noted_more c.2.1))

  pub row_closed_more : {r : ℕ} → IsRowClosed L r → IsRowClosed (L ++ e ∷ []) r
  row_closed_more c = (c.0, c.1, noted_more c.2, closed_more c.3)

  pub finalized_more : {r : ℕ} → IsFinalized L r → IsFinalized (L ++ e ∷ []) r
  finalized_more f = (f.0, f.1, (f.2.0, noted_more f.2.1))

  pub finalized_snoc : (r : ℕ) → IsFinalized (L ++ e ∷ []) r → IsFinalized L r ⊎ ((x : Exit) × (ok : Bool) × (e.what ≡ Final r x ok))
  finalized_snoc r f = ⊎_elim (λ m. inl (f.0, f.1, (f.2.0, m))) (λ s. inr (f.2.0, f.1, s.1)) (noted_snoc f.0 (Final r f.2.0 f.1) f.2.1)
