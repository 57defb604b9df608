-- Which Closes a tree has after a scope was closed.
use Rattle.std.proofs.Common.{◌≡◌, ◌⊎◌, Bool, ℕ, [], ◌∷◌, ◌++◌, inl, inr, sym, subst, ⊎_elim}
use Rattle.chunk_core.specs.declared.code.Exit.{Exit}
use Rattle.chunk_core.specs.Lists.{IsAmong}
use Rattle.chunk_core.specs.Lists.IsAmong.{here}
use Rattle.chunk_core.proofs.Filters.{among_append}
use Rattle.chunk_core.proofs.Members.{among_cons, among_mid, among_nil}
use Rattle.res_ledger.specs.declared.event.What.TheVariants.{Close}
use Rattle.res_ledger.specs.Ledger.{Notes}
use Rattle.res_ledger.specs.Ledger.LiesWithin.{same}
use Rattle.res_ledger.specs.Order.{finals}
use Rattle.res_ledger.specs.Own.{closes_of}
use Rattle.res_ledger.proofs.Noted.{flat_holds, notes_own, own_notes}
use Rattle.scope_tree.specs.Calls.{ClosesScope, IsOpenScope, Seen}
use Rattle.scope_tree.specs.Released.{said}
use Rattle.scope_tree.specs.Trace.{trace}
use Rattle.scope_tree.proofs.Grown.{closes_finals}
use Rattle.scope_tree.proofs.Use.{closed_said}

same_close : (m s : ℕ) (y e : Exit) → Close m y ≡ Close s e → (m ≡ s) × (y ≡ e)
same_close m s y e i = (cc, cc)

module _ {P : Type 0} {ends : P → Exit → Bool → P → Type 0} {a b : Seen P} {s : ℕ} {e : Exit} (c : ClosesScope ends a s e b) where
  -- a Close that stands there now stood there before, or is this one
  pub known_close : (m : ℕ) (y : Exit) → Notes b.seat.events b.seat.by (Close m y) → Notes a.seat.events a.seat.by (Close m y) ⊎ ((m ≡ s) × (y ≡ e))
  known_close m y n =
      let F = finals e (said c.torn.0) in
      ⊎_elim
      (λ i. inl (own_notes a.seat.events a.seat.by (Close m y) i))
      (λ i. ⊎_elim
      (λ z. inr (same_close m s y e z))
      (λ j. absurd (among_nil (subst (λ l. IsAmong m l) (closes_finals e (said c.torn.0)) (flat_holds closes_of (Close m y) F m j (here [])))))
      (among_cons i))
      (among_append (Close m y) (trace a.seat) (Close s e ∷ F) (subst (λ E. IsAmong (Close m y) E) (closed_said c) (notes_own b.seat.events b.seat.by (Close m y) n)))

  -- of the scope it is the only one
  pub closed_as : IsOpenScope a s → (y : Exit) → Notes b.seat.events b.seat.by (Close s y) → y ≡ e
  closed_as u y n = ⊎_elim (λ i. absurd (u.1 (s, same s, (y, i)))) (λ i. i.1) (known_close s y n)

  pub close_noted : (y : Exit) → y ≡ e → Notes b.seat.events b.seat.by (Close s y)
  close_noted y i =
      let F = finals e (said c.torn.0) in
      own_notes b.seat.events b.seat.by (Close s y)
      (subst (λ E. IsAmong (Close s y) E) (sym (closed_said c)) (subst (λ z. IsAmong (Close s y) (trace a.seat ++ Close s z ∷ F)) i (among_mid (trace a.seat) F (Close s y))))
