-- What a pipe of capitals answers.
use Rattle.std.proofs.Common.{◌≡◌, ◌≢◌, ℕ, List, [], ◌∷◌, ◌++◌, map, Some, None, refl, ap, sym, ◌∙◌}
use Rattle.std.specs.Char.{to_ascii_uppercase}
use Rattle.std.proofs.lemmas.List.{map-append}
use Rattle.chunk_core.specs.Elements.{Element, Byte, Line, LoadKind, elements, kind_of}
use Rattle.chunk_core.specs.Elements.LoadKind.{Bytes, Lines, Rows}
use Rattle.chunk_core.specs.Feed.{Meaning, MayFeed, Extends}
use Rattle.chunk_core.specs.declared.load.Load.{Load}
use Rattle.pull_nodes.specs.PipeKinds.{gives_of}
use Rattle.pull_nodes.specs.Pipes.{IsMeaningOf}
use Rattle.pull_nodes.specs.Upper.{uppercase_of}
use Rattle.pull_nodes.specs.declared.pipe.Pipe.TheVariants as pipe
use Rattle.pull_nodes.proofs.Meanings.{meaning_is, extends_from}
use Rattle.text_pipes.specs.UpperState.{StandsFor}
use Rattle.text_pipes.specs.declared.upper.UpperPipe.{UpperPipe}

same_kind : (kind g : LoadKind) → gives_of pipe.Upper kind ≡ Some g → (g ≡ kind) × (kind ≢ Rows)
same_kind Bytes g h = (cc, λ e. (cc))
same_kind Lines g h = (cc, λ e. (cc))
same_kind Rows g h = (cc)

pub no_rows : (q : UpperPipe) (kind : LoadKind) → MayFeed (StandsFor q) kind → kind ≢ Rows
no_rows q kind h e = (same_kind h.0.takes h.0.gives (meaning_is pipe.Upper h.0 h.2).1).1 (h.3 ∙ e)

-- the answer to a load
pub upper_feed : (m : Meaning) (xs : List Element) (old new : Load) → IsMeaningOf pipe.Upper m → m.takes ≡ kind_of old
    → elements new ≡ map uppercase_of (elements old) → kind_of new ≡ kind_of old → Extends m xs (elements old) new None
upper_feed m xs old new h takes list kind =
    let gives = (meaning_is pipe.Upper m h).1 in
    let same = (same_kind m.takes m.gives gives).0 in
    extends_from pipe.Upper m h xs (elements old) new None (gives ∙ ap (λ k. Some k) (same ∙ (takes ∙ sym kind)))
    (ap (λ l. map uppercase_of xs ++ l) list ∙ sym (map-append uppercase_of xs (elements old))) refl

pub bytes_upper : (bytes : List ℕ) → map Byte (map to_ascii_uppercase bytes) ≡ map uppercase_of (map Byte bytes)
bytes_upper [] = refl
bytes_upper (b ∷ bytes) = ap (λ l. Byte (to_ascii_uppercase b) ∷ l) (bytes_upper bytes)

pub lines_upper : (lines : List (List ℕ)) → map Line (map (map to_ascii_uppercase) lines) ≡ map uppercase_of (map Line lines)
lines_upper [] = refl
lines_upper (line ∷ lines) = ap (λ l. Line (map to_ascii_uppercase line) ∷ l) (lines_upper lines)
