-- What holds of the pipes of well-formed bytes.
use Rattle.std.proofs.Common.{ℕ, List, [], ◌∷◌, map, Some, None, refl, ap, inl}
use Rattle.std.specs.Str.Lossy.{utf8_valid_len}
use Rattle.std.proofs.Math.Seq.{take-nil}
use Rattle.chunk_core.specs.Elements.{Byte}
use Rattle.chunk_core.specs.Elements.LoadKind.{Bytes}
use Rattle.chunk_core.specs.declared.code.Code.TheVariants as code
use Rattle.pull_nodes.specs.Laws.{IsNoDeviceFault}
use Rattle.pull_nodes.specs.Plain.{bytes_of}
use Rattle.pull_nodes.specs.Utf8.{end_fault, is_malformed, utf8_rest, utf8_rule, lossy_rule}
use Rattle.pull_nodes.proofs.Lawful.{IsLawful, own_none, own_malformed, own_truncated, own_if}
use Rattle.pull_nodes.proofs.LossyCuts.{lossy_steady, lossy-nil}
use Rattle.pull_nodes.proofs.Steady.{over_bytes}
use Rattle.pull_nodes.proofs.Utf8Laws.{utf8_steady}

own_end : (rest : List ℕ) → IsNoDeviceFault (end_fault rest)
own_end [] = own_none
own_end (b ∷ rest) = own_if (is_malformed (b ∷ rest)) (Some code.Malformed) (Some code.Truncated) own_malformed own_truncated

pub utf8_lawful : IsLawful utf8_rule
utf8_lawful = record {
  steady = over_bytes _ _ utf8_steady;
  own = λ xs. (own_if (is_malformed (utf8_rest (bytes_of xs))) (Some code.Malformed) None own_malformed own_none, own_end (utf8_rest (bytes_of xs)));
  empty = ap (map Byte) (take-nil (utf8_valid_len []));
  behind_nothing = inl (Bytes, Bytes, refl, refl);
}

pub lossy_lawful : IsLawful lossy_rule
lossy_lawful = record {
  steady = over_bytes _ _ lossy_steady;
  own = λ xs. (own_none, own_none);
  empty = ap (map Byte) lossy-nil;
  behind_nothing = inl (Bytes, Bytes, refl, refl);
}
