-- The pipe of the tests, which keeps its bytes until the input ends.
use Rattle.std.proofs.Common.{◌≡◌, ℕ, ◌<◌, List, [], length, refl, sym, subst, ◌∙◌, map, Option, None, append-nil}
use Rattle.std.proofs.lemmas.List.{length-map}
use Rattle.chunk_core.specs.Elements.{Element, LoadKind}
use Rattle.chunk_core.specs.Elements.Element.{Byte}
use Rattle.chunk_core.specs.Elements.LoadKind.{Bytes}
use Rattle.chunk_core.specs.Feed.{Meaning, Finishes}
use Rattle.chunk_core.specs.declared.code.Code.{Code}
use Rattle.chunk_core.specs.declared.feed.Fed.TheVariants as fed
use Rattle.chunk_core.specs.declared.load.Load.TheVariants as load

-- nothing before the end, and then all of it
abbrev pub gathering : Meaning
gathering = record { takes = Bytes; gives = Bytes; part = λ xs. record { list = []; fault = None }; all = λ xs. record { list = xs; fault = None } }

pub gathered : (Comes : LoadKind → List Element → Option Code → Type 0) (m : Meaning) (xs : List Element) (bytes : List ℕ)
    → m ≡ gathering → xs ≡ map Byte bytes → 0 < length bytes → Comes Bytes [] None → Finishes m xs (fed.Out (load.Bytes bytes)) (Comes m.gives)
gathered Comes m xs bytes e is some more =
    subst (λ n. Finishes n xs (fed.Out (load.Bytes bytes)) (Comes n.gives)) (sym e) (
    record {
      rest = xs;
      whole = refl;
      given = (refl, simp length-map some, [], is ∙ sym (append-nil (map Byte bytes)), more);
    }
    )
