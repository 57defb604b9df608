-- What holds of the pipe that looks up.
use Rattle.std.proofs.Common.{ℕ, List, Option, refl, inl}
use Rattle.chunk_core.specs.Elements.LoadKind.{Rows}
use Rattle.pull_nodes.specs.Lookup.{looked_up, lookup_rule}
use Rattle.pull_nodes.proofs.Field.{each_made_steady, each_made_own}
use Rattle.pull_nodes.proofs.Lawful.{IsLawful}

pub lookup_lawful : (value : List ℕ → Option (List ℕ)) (i : ℕ) → IsLawful (lookup_rule value i)
lookup_lawful value i = record {
  steady = each_made_steady (looked_up value i);
  own = λ xs. (each_made_own (looked_up value i) xs, each_made_own (looked_up value i) xs);
  empty = refl;
  behind_nothing = inl (Rows, Rows, refl, refl);
}
