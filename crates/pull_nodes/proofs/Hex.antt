-- What holds of the pipe of hexadecimal lines.
use Rattle.std.proofs.Common.{ℕ, ◌/◌, List, ◌++◌, map, length, refl, inl, arith, length-append}
use Rattle.std.proofs.lemmas.List.{map-append}
use Rattle.std.proofs.Math.Nat.{mul-div-le}
use Rattle.chunk_core.specs.Elements.{Line}
use Rattle.chunk_core.specs.Elements.LoadKind.{Bytes, Lines}
use Rattle.pull_nodes.specs.Hex.{hex_line, hex_lines, hex_rest, hex_rule}
use Rattle.pull_nodes.specs.Laws.{IsFront}
use Rattle.pull_nodes.specs.PipeRule.{without_fault}
use Rattle.pull_nodes.proofs.Fronts.{front_map, groups_front, more_groups}
use Rattle.pull_nodes.proofs.Lawful.{IsLawful, own_none}
use Rattle.pull_nodes.proofs.Steady.{SteadyBy, faultless, over_bytes}

hex_lines_front : (xs zs : List ℕ) → IsFront (hex_lines xs) (hex_lines (xs ++ zs))
hex_lines_front xs zs = front_map hex_line _ _
    (groups_front 16 (length xs / 16) (length (xs ++ zs) / 16) xs zs (more_groups 16 (length xs) (length (xs ++ zs)) (omega arith) (omega (arith, length-append xs zs))) (mul-div-le (length xs) 16))

pub hex_steady : SteadyBy (λ bytes. without_fault (map Line (hex_lines bytes))) (λ bytes. without_fault (map Line (hex_lines bytes ++ hex_rest bytes)))
hex_steady = faultless (λ bytes. map Line (hex_lines bytes)) (λ bytes. map Line (hex_lines bytes ++ hex_rest bytes))
    (λ xs zs. front_map Line _ _ (hex_lines_front xs zs)) (λ xs. (map Line (hex_rest xs), map-append Line (hex_lines xs) (hex_rest xs)))

pub hex_lawful : IsLawful hex_rule
hex_lawful = record {
  steady = over_bytes _ _ hex_steady;
  own = λ xs. (own_none, own_none);
  empty = refl;
  behind_nothing = inl (Bytes, Lines, refl, refl);
}
