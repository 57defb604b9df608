-- A row is open where it is acquired.
use Rattle.std.proofs.Common.{◌≡◌, ℕ, List, [], ◌∷◌, ◌++◌, refl, sym, ◌∙◌, subst, ⊎_elim}
use Rattle.chunk_core.proofs.Members.{among_last}
use Rattle.res_ledger.specs.declared.event.StreamNo.{StreamNo}
use Rattle.res_ledger.specs.declared.event.What.TheVariants.{Acquire, Close, Final, Open as opened}
use Rattle.res_ledger.specs.declared.event.Event.{Event}
use Rattle.res_ledger.specs.Ledger.{Notes, LiesWithin, IsClosed, IsAcquired, IsFinalized, IsRowClosed, IsLegal, MayFollow}
use Rattle.res_ledger.specs.Ledger.LiesWithin.{same, below}
use Rattle.ledger_text.specs.Standings.{StandingBeginsOpen}
use Rattle.res_ledger.proofs.Apart.{apart}
use Rattle.res_ledger.proofs.Growth.{noted_snoc, finalized_snoc}
use Rattle.res_ledger.proofs.Ledgers.{at_noted}
use Rattle.res_ledger.proofs.Prefixes.{front_legal, row_scope_closed}

-- a row with a Final was acquired
finalized_acquired : (P : List Event) (r : ℕ) → IsLegal P → IsFinalized P r → IsAcquired P r
finalized_acquired P r l f =
    let t = at_noted P f.0 (Final r f.2.0 f.1) l f.2.1 in
    let c = t.1.0.0 in
    (c.0, c.1, (c.2.0, t.2 c.2.0 c.2.1, c.2.2, c.2.3))

module _ (P : List Event) (e : Event) (r s : ℕ) (is : e.what ≡ Acquire r s) where
  within_old : {k : StreamNo} {t a : ℕ} → LiesWithin (P ++ e ∷ []) k t a → LiesWithin P k t a
  within_old (same t) = same t
  within_old {k = k} (below t p a n w) = below t p a (⊎_elim (λ o. o) (λ o. absurd (apart (sym is ∙ o.1) refl)) (noted_snoc P e k (opened t p) n)) (within_old w)

  closed_old : (k : StreamNo) (t : ℕ) → IsClosed (P ++ e ∷ []) k t → IsClosed P k t
  closed_old k t c = (c.0, within_old c.1, (c.2.0, ⊎_elim (λ o. o) (λ o. absurd (apart (sym is ∙ o.1) refl)) (noted_snoc P e k (Close c.0 c.2.0) c.2.1)))

  not_finalized : IsLegal P → ¬ (IsAcquired P r) → ¬ (IsFinalized (P ++ e ∷ []) r)
  not_finalized l new f = ⊎_elim (λ o. new (finalized_acquired P r l o)) (λ o. apart (sym is ∙ o.2) refl) (finalized_snoc P e r f)

  here : Notes (P ++ e ∷ []) e.by (Acquire r s)
  here = (e, among_last P e, refl, is)

  not_closed : IsLegal (P ++ e ∷ []) → ¬ (IsClosed P e.by s) → ¬ (IsRowClosed (P ++ e ∷ []) r)
  not_closed l unclosed c =
      unclosed (closed_old e.by s (row_scope_closed (P ++ e ∷ []) (P ++ e ∷ []) l (λ q w n. n) r e.by s here c))

pub begins_open : StandingBeginsOpen
begins_open P e r s l is =
    let m : MayFollow P e.by (Acquire r s) = subst (λ w. MayFollow P e.by w) is (l P [] e refl) in
    ((e.by, s, here P e r s is), (not_finalized P e r s is (front_legal P (e ∷ []) l) m.0, not_closed P e r s is l m.1.1))
