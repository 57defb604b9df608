-- A row in a child of the root, and the root closed.
use Rattle.std.proofs.Common.{◌≡◌, ℕ, ◌<◌, ◌+◌, Bool, [], ◌∷◌, length, inl, inr, refl, sym, ap, subst}
use Rattle.chunk_core.specs.declared.code.Exit.{Exit}
use Rattle.chunk_core.specs.Lists.{IsAmong}
use Rattle.chunk_core.specs.Lists.IsAmong.{here}
use Rattle.res_ledger.specs.Own.{closes, opens}
use Rattle.scope_tree.specs.Calls.{AcquiresRow, AtStart, ClosesScope, IsOpenScope, OpensScope, Seen}
use Rattle.scope_tree.specs.Trace.{trace}
use Rattle.scope_tree.proofs.Use.{acquire_more, open_number, open_one, start_said, all_open}
use Rattle.tree_laws.specs.Alone.{StaysAlone}
use Rattle.tree_laws.specs.Called.{Called}
use Rattle.tree_laws.specs.Called.Called.{none, opened, acquired, closed}
use Rattle.tree_laws.proofs.Alone.{alone_acquires, alone_closes, alone_opens, alone_then}

module _ {P : Type 0} (a b : Seen P) {c : ℕ} (start : AtStart a.seat) (o : OpensScope a 0 c b) where
  none_said : trace a.seat ≡ []
  none_said = start_said a.seat a.seat start refl

  pub child_open : IsOpenScope b c
  child_open =
      let w = open_one none_said o in
      all_open b.seat c (ap closes w) (inr (0, subst (λ E. IsAmong {A = ℕ × ℕ} (c, 0) (opens E)) (sym w) (subst (λ z. IsAmong {A = ℕ × ℕ} (z, 0) ((1, 0) ∷ [])) (sym (open_number none_said o)) (here []))))

  pub still_empty : {r : ℕ} → IsAmong r a.seat.empty → IsAmong r b.seat.empty
  still_empty {r = r} m = subst (λ l. IsAmong r l) (sym (ap (λ v. v.empty) o.seat)) m

  module _ (d : Seen P) {s r : ℕ} {p : P} (q : AcquiresRow b s r p d) where
    pub root_open : IsOpenScope d 0
    root_open = all_open d.seat 0 (ap closes (acquire_more (open_one none_said o) q)) (inl refl)

    module _ {ends : P → Exit → Bool → P → Type 0} (e : Seen P) {y : Exit} (x : ClosesScope ends d 0 y e) where
      pub one_row_alone : StaysAlone a.seat e.seat
      one_row_alone = alone_then _ _ _ (alone_opens o) (alone_then _ _ _ (alone_acquires q) (alone_closes x))

      pub one_row_called : 1 < a.scopes → s ≡ c → IsAmong r a.seat.empty → Called ends a [] e
      one_row_called l is m =
          let first = opened a b 0 c none (record { root = (all_open a.seat 0 (ap closes none_said) (inl refl)).1; known = inl refl; room = subst (λ E. length (opens E) + 1 < a.scopes) (sym none_said) l }) o in
          closed d e 0 y (acquired b d s r p first (record { scope = subst (λ z. IsOpenScope b z) (sym is) child_open; row = still_empty m }) q) root_open x
