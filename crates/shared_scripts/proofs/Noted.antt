-- What one more event changes in what the events of a seat tell.
use Rattle.std.proofs.Common.{◌≡◌, ℕ, false, nat_eq, ◌⊎◌, List, [], ◌∷◌, ◌++◌, inl, inr, sym, ap, ◌∙◌, ⊎_elim}
use Rattle.chunk_core.specs.Lists.{IsAmong}
use Rattle.chunk_core.proofs.Members.{among_left, among_snoc}
use Rattle.res_ledger.specs.declared.event.Event.{Event}
use Rattle.res_ledger.specs.declared.event.StreamNo.{StreamNo}
use Rattle.res_ledger.specs.declared.event.What.{What}
use Rattle.res_ledger.specs.declared.event.What.TheVariants.{Acquire}
use Rattle.res_ledger.specs.Ledger.{IsAcquired, IsFinalized, Notes}
use Rattle.res_ledger.proofs.Apart.{apart, kind}

module _ (L : List Event) (e : Event) where
  pub note_cases : (k : StreamNo) (w : What) → Notes (L ++ e ∷ []) k w → Notes L k w ⊎ (e.what ≡ w)
  note_cases k w n = ⊎_elim (λ m. inl (n.0, m, n.2, n.3)) (λ is. inr (ap (λ (z : Event). z.what) (sym is) ∙ n.3)) (among_snoc L n.0 e n.1)

  -- an event of another kind was noted before
  pub note_before : (k : StreamNo) (w : What) → Notes (L ++ e ∷ []) k w → nat_eq (kind e.what) (kind w) ≡ false → Notes L k w
  note_before k w n other = ⊎_elim (λ m. m) (λ is. absurd (apart is other)) (note_cases k w n)

  -- an event that is no Acquire acquires nothing
  pub acquired_before : (r : ℕ) → IsAcquired (L ++ e ∷ []) r → nat_eq (kind e.what) (kind (Acquire r 0)) ≡ false → IsAcquired L r
  acquired_before r a other = (a.0, a.1, note_before a.0 (Acquire r a.1) a.2 other)

  pub finalized_more : (r : ℕ) → IsFinalized L r → IsFinalized (L ++ e ∷ []) r
  finalized_more r f = let n = f.2.1 in (f.0, f.1, (f.2.0, (n.0, among_left (e ∷ []) n.1, n.2, n.3)))
