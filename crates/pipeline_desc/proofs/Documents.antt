-- The tests before a document is read.
use Rattle.std.proofs.Common.{◌≡◌, ℕ, ◌≤◌, List, length, Option, refl}
use Rattle.std.specs.Prelude.{IsUtf8}
use Rattle.std.specs.Str.{is_utf8}
use Rattle.std.proofs.lemmas.Bool.{le-leb, false_from_ne_true}
use Rattle.std.proofs.lemmas.Str.{IsUtf8-from_is_utf8, is_utf8-from_IsUtf8}
use Rattle.toml.specs.Data.{Members}
use Rattle.toml.specs.Parse.{parse_document}
use Rattle.pipeline_desc.specs.Plans.{document_of}
use Rattle.pipeline_desc.specs.Reading.{present, refuse}
use Rattle.pipeline_desc.specs.declared.refusal.Position.TheVariants.{Nowhere}
use Rattle.pipeline_desc.specs.declared.refusal.RefusalKind.TheVariants as refused

pub not_text : (bytes : List ℕ) → length bytes ≤ 1048576 → ¬ (IsUtf8 bytes) → document_of bytes ≡ refuse refused.NotUtf8 Nowhere
not_text bytes few bad = rw (le-leb (length bytes) 1048576 few, false_from_ne_true (is_utf8 bytes) (λ t. bad (IsUtf8-from_is_utf8 bytes t))) refl

pub of_text : (bytes : List ℕ) (o : Option Members) → length bytes ≤ 1048576 → IsUtf8 bytes → parse_document bytes ≡ o → document_of bytes ≡ present o refused.NotToml Nowhere
of_text bytes o few text is = rw (le-leb (length bytes) 1048576 few, is_utf8-from_IsUtf8 bytes text, is) refl
