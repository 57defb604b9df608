-- What holds of the pipe that puts a line between each two.
use Rattle.std.proofs.Common.{ℕ, List, [], ◌∷◌, ◌++◌, refl, inl}
use Rattle.std.specs.List.{flat_map}
use Rattle.std.proofs.lemmas.Grind.{flat_map-append}
use Rattle.chunk_core.specs.Elements.{Element, Line}
use Rattle.chunk_core.specs.Elements.LoadKind.{Lines}
use Rattle.pull_nodes.specs.Intersperse.{with_between, intersperse_rule}
use Rattle.pull_nodes.specs.Laws.{IsFront}
use Rattle.pull_nodes.proofs.Fronts.{front_cons}
use Rattle.pull_nodes.proofs.Lawful.{IsLawful, own_none}
use Rattle.pull_nodes.proofs.Steady.{same_at_end}

between_front : (line : List ℕ) (xs zs : List Element) → IsFront (with_between line xs) (with_between line (xs ++ zs))
between_front line [] zs = (with_between line zs, refl)
between_front line (x ∷ xs) zs = front_cons x _ _ (flat_map (λ (y : Element). Line line ∷ y ∷ []) zs, flat_map-append (λ (y : Element). Line line ∷ y ∷ []) xs zs)

pub intersperse_lawful : (line : List ℕ) → IsLawful (intersperse_rule line)
intersperse_lawful line = record {
  steady = same_at_end (with_between line) (between_front line);
  own = λ xs. (own_none, own_none);
  empty = refl;
  behind_nothing = inl (Lines, Lines, refl, refl);
}
