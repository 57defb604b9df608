-- Whose events the seat of a tree has, and where they stand.
use Rattle.std.proofs.Common.{◌≡◌, ℕ, Bool, List, [], subst}
use Rattle.chunk_core.specs.declared.code.Exit.{Exit}
use Rattle.chunk_core.specs.Lists.{IsAmong}
use Rattle.chunk_core.proofs.Members.{among_nil}
use Rattle.scope_tree.specs.Calls.{Seen}
use Rattle.tree_laws.specs.Called.{Called}
use Rattle.tree_laws.specs.Names.{IsFloored, IsNamed}
use Rattle.tree_laws.proofs.Along.{called_after}

module _ {P : Type 0} {ends : P → Exit → Bool → P → Type 0} where
  pub events_named : {a b : Seen P} {Cs : List (ℕ × List ℕ)} → a.seat.events ≡ [] → a.seat.out ≡ [] → Called ends a Cs b → IsNamed b.seat
  events_named e o k = (called_after k).named (λ j m. absurd (among_nil (subst (λ l. IsAmong j l) o m))) (λ x m. absurd (among_nil (subst (λ l. IsAmong x l) e m)))

  pub events_floored : {a b : Seen P} {Cs : List (ℕ × List ℕ)} → a.seat.events ≡ [] → Called ends a Cs b → (b.seat.floor ≡ a.seat.floor) × IsFloored b.seat
  events_floored e k = let f = called_after k in (f.floor, f.floored (λ x m i. absurd (among_nil (subst (λ l. IsAmong x l) e m))))
