-- What holds of the pipe that leaves out the first elements.
use Rattle.std.proofs.Common.{ℕ, drop, refl, inr}
use Rattle.std.proofs.Math.Seq.{drop-nil}
use Rattle.chunk_core.specs.Elements.LoadKind.{Bytes}
use Rattle.pull_nodes.specs.Drop.{drop_rule}
use Rattle.pull_nodes.proofs.Fronts.{drop_front}
use Rattle.pull_nodes.proofs.Lawful.{IsLawful, own_none}
use Rattle.pull_nodes.proofs.Steady.{same_at_end}

pub drop_lawful : (n : ℕ) → IsLawful (drop_rule n)
drop_lawful n = record {
  steady = same_at_end (drop n) (drop_front n);
  own = λ xs. (own_none, own_none);
  empty = drop-nil n;
  behind_nothing = inr (Bytes, Bytes, refl, drop-nil n);
}
