-- What holds of the pipe of capitals.
use Rattle.std.proofs.Common.{map, refl, inr}
use Rattle.std.proofs.lemmas.List.{map-append}
use Rattle.chunk_core.specs.Elements.LoadKind.{Bytes}
use Rattle.pull_nodes.specs.Upper.{uppercase_of, upper_rule}
use Rattle.pull_nodes.proofs.Lawful.{IsLawful, own_none}
use Rattle.pull_nodes.proofs.Steady.{same_at_end}

pub upper_lawful : IsLawful upper_rule
upper_lawful = record {
  steady = same_at_end (map uppercase_of) (λ xs zs. (map uppercase_of zs, map-append uppercase_of xs zs));
  own = λ xs. (own_none, own_none);
  empty = refl;
  behind_nothing = inr (Bytes, Bytes, refl, refl);
}
