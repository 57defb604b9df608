-- Clones that equal what they are of.
use Rattle.std.proofs.Common.{◌≡◌, List, ◌++◌, ap, ◌∙◌}
use Rattle.std.specs.List.{AppendsClones}
use Rattle.std.proofs.lemmas.List.Elements.{same_from_all_zip}

pub appended : {A : Type 0} (R : A → A → Type 0) (old new more : List A) → ((x y : A) → R x y → y ≡ x) → AppendsClones R old new more → new ≡ old ++ more
appended R old new more same h = h.1 ∙ ap (λ l. old ++ l) (same_from_all_zip R more h.0 h.2 same)
