-- What holds of the pipe of lines behind their numbers.
use Rattle.std.proofs.Common.{ℕ, ◌+◌, List, [], ◌∷◌, ◌++◌, map, refl, inl}
use Rattle.std.specs.List.{enumerate_from}
use Rattle.chunk_core.specs.Elements.{Element}
use Rattle.chunk_core.specs.Elements.LoadKind.{Lines}
use Rattle.pull_nodes.specs.Laws.{IsFront}
use Rattle.pull_nodes.specs.Number.{with_number, with_numbers, number_rule}
use Rattle.pull_nodes.proofs.Fronts.{front_cons}
use Rattle.pull_nodes.proofs.Lawful.{IsLawful, own_none}
use Rattle.pull_nodes.proofs.Steady.{same_at_end}

numbers_front : (n : ℕ) (xs zs : List Element) → IsFront (map with_number (enumerate_from n xs)) (map with_number (enumerate_from n (xs ++ zs)))
numbers_front n [] zs = (map with_number (enumerate_from n zs), refl)
numbers_front n (x ∷ xs) zs = front_cons (with_number (n, x)) _ _ (numbers_front (n + 1) xs zs)

pub number_lawful : IsLawful number_rule
number_lawful = record {
  steady = same_at_end with_numbers (numbers_front 0);
  own = λ xs. (own_none, own_none);
  empty = refl;
  behind_nothing = inl (Lines, Lines, refl, refl);
}
