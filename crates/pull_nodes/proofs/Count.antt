-- What holds of the pipe that counts.
use Rattle.std.proofs.Common.{[], ◌∷◌, refl, inl}
use Rattle.chunk_core.specs.Elements.{Line}
use Rattle.chunk_core.specs.Elements.LoadKind.{Bytes, Lines}
use Rattle.pull_nodes.specs.Count.{count_line, count_rule}
use Rattle.pull_nodes.proofs.Lawful.{IsLawful, own_none}
use Rattle.pull_nodes.proofs.Steady.{faultless}

pub count_lawful : IsLawful count_rule
count_lawful = record {
  steady = faultless (λ xs. []) (λ xs. Line (count_line xs) ∷ []) (λ xs zs. ([], refl)) (λ xs. (Line (count_line xs) ∷ [], refl));
  own = λ xs. (own_none, own_none);
  empty = refl;
  behind_nothing = inl (Bytes, Lines, refl, refl);
}
