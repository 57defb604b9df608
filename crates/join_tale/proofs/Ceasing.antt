-- What is known where no more frames are written.
use Rattle.std.proofs.Common.{◌≡◌, Bool, true, false, is_some, refl, subst}
use Rattle.chunk_core.specs.Lists.{IsAmong}
use Rattle.chunk_core.proofs.Members.{among_nil}
use Rattle.join_tale.specs.Bounds.{Bounds}
use Rattle.join_tale.specs.Keeping.{IsTale}
use Rattle.join_tale.specs.Tales.{Message, Tale}
use Rattle.join_tale.proofs.Places.{none_is_some, not_both}

module _ (bounds : Bounds) (t : Tale) (i : IsTale bounds t) where
  by_ceased : (b : Bool) → (b ≡ false → ⊥) → b ≡ true
  by_ceased true n = refl
  by_ceased false n = absurd (n refl)

  pub late_ceased : (m : Message) → IsAmong m t.late → t.ceased ≡ true
  late_ceased m n = by_ceased t.ceased (λ e. among_nil (subst (λ l. IsAmong m l) (i.frames.quiet e).0 n))

  pub cut_ceased : is_some t.cut ≡ true → t.ceased ≡ true
  cut_ceased c = by_ceased t.ceased (λ e. none_is_some t.cut (i.frames.quiet e).1 c)

  pub memory_ceased : t.memory ≡ true → t.ceased ≡ true
  memory_ceased m = by_ceased t.ceased (λ e. not_both t.memory (i.frames.quiet e).2 m)
