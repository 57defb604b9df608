-- What holds of the pipe of lines that contain a text.
use Rattle.std.proofs.Common.{ℕ, List, filter, refl, inl}
use Rattle.std.proofs.lemmas.List.Elements.{filter-append}
use Rattle.chunk_core.specs.Elements.LoadKind.{Lines}
use Rattle.pull_nodes.specs.Filter.{is_match, filter_rule}
use Rattle.pull_nodes.proofs.Lawful.{IsLawful, own_none}
use Rattle.pull_nodes.proofs.Steady.{same_at_end}

pub filter_lawful : (text : List ℕ) → IsLawful (filter_rule text)
filter_lawful text = record {
  steady = same_at_end (filter (is_match text)) (λ xs zs. (filter (is_match text) zs, filter-append (is_match text) xs zs));
  own = λ xs. (own_none, own_none);
  empty = refl;
  behind_nothing = inl (Lines, Lines, refl, refl);
}
