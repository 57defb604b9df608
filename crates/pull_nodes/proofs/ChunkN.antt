-- What holds of the pipe of groups.
use Rattle.std.proofs.Common.{ℕ, ◌<◌, ◌≤◌, List, ◌++◌, length, drop, refl, sym, inr, arith, length-append}
use Rattle.std.proofs.lemmas.List.{take-append-drop}
use Rattle.std.proofs.Math.Nat.{mul-div-le, mul-le-mul_left}
use Rattle.std.proofs.Math.Seq.{take-nil}
use Rattle.chunk_core.specs.Elements.{Element}
use Rattle.chunk_core.specs.Elements.LoadKind.{Bytes}
use Rattle.pull_nodes.specs.ChunkN.{group_size, whole_groups, chunk_rule}
use Rattle.pull_nodes.specs.Laws.{IsFront}
use Rattle.pull_nodes.specs.Plain.{multiple}
use Rattle.pull_nodes.proofs.Fronts.{more_groups, take_front}
use Rattle.pull_nodes.proofs.Lawful.{IsLawful, own_none}
use Rattle.pull_nodes.proofs.Steady.{faultless}

multiple_le : (n a b : ℕ) → 0 < n → a ≤ b → multiple n a ≤ multiple n b
multiple_le n a b some le = mul-le-mul_left n (more_groups n a b some le)

pub group_size_pos : (n : ℕ) → 0 < group_size n
group_size_pos n = omega arith

whole_groups_front : (n : ℕ) (xs zs : List Element) → IsFront (whole_groups n xs) (whole_groups n (xs ++ zs))
whole_groups_front n xs zs =
    take_front (multiple (group_size n) (length xs)) (multiple (group_size n) (length (xs ++ zs))) xs zs
    (multiple_le (group_size n) (length xs) (length (xs ++ zs)) (group_size_pos n) (omega (arith, length-append xs zs)))
    (mul-div-le (length xs) (group_size n))

pub chunk_lawful : (n : ℕ) → IsLawful (chunk_rule n)
chunk_lawful n = record {
  steady = faultless (whole_groups n) (λ xs. xs) (whole_groups_front n)
      (λ xs. (drop (multiple (group_size n) (length xs)) xs, sym (take-append-drop (multiple (group_size n) (length xs)) xs)));
  own = λ xs. (own_none, own_none);
  empty = take-nil _;
  behind_nothing = inr (Bytes, Bytes, refl, refl);
}
