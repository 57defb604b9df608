-- What is printed of a load is its text, and there is some where it has elements.
use Rattle.std.proofs.Common.{◌≡◌, ℕ, ◌<◌, List, [], ◌∷◌, ◌++◌, length, map, arith, length-append, refl, ap, sym, subst, ◌∙◌}
use Rattle.std.proofs.lemmas.List.{map-append}
use Rattle.chunk_core.specs.Elements.{Element, element_text, elements, rendering_of}
use Rattle.chunk_core.specs.Elements.Element.{Byte, Line, Row}
use Rattle.chunk_core.specs.declared.load.Load.{Load}
use Rattle.chunk_core.proofs.Each.{each_snoc}
use Rattle.stream_jobs.specs.Messages.{AreTextsOf, IsTextOf, text_of}

-- the text of bytes is what they are
pub bytes_rendering : (xs : List ℕ) → rendering_of (map Byte xs) ≡ xs
bytes_rendering [] = refl
bytes_rendering (x ∷ xs) = ap (λ ys. x ∷ ys) (bytes_rendering xs)

-- each element has some text
text_some : (x : Element) → 0 < length (element_text x)
text_some (Byte b) = omega arith
text_some (Line line) = omega (arith, length-append line (10 ∷ []))
text_some (Row fields) = simp length-append (omega arith)

-- where there is an element, there is some text
rendering_some : (xs : List Element) → 0 < length xs → 0 < length (rendering_of xs)
rendering_some [] l = l
rendering_some (x ∷ xs) l = omega (arith, text_some x, length-append (element_text x) (rendering_of xs))

pub bytes_some : (xs : List ℕ) (ys : List Element) → xs ≡ rendering_of ys → 0 < length ys → 0 < length (map Byte xs)
bytes_some [] ys e l = subst (λ zs. 0 < length zs) (sym e) (rendering_some ys l)
bytes_some (x ∷ xs) ys e l = omega arith

pub no_texts : AreTextsOf [] []
no_texts = record { same = refl; filled = tt }

-- one load more, and its text
pub texts_more : (loads texts : List Load) (load text : Load) → AreTextsOf loads texts → IsTextOf load text → 0 < length (elements load) → AreTextsOf (loads ++ load ∷ []) (texts ++ text ∷ [])
texts_more loads texts load text a o full = record {
  same = map-append text_of texts (text ∷ []) ∙ (ap (λ xs. xs ++ text_of text ∷ []) a.same ∙ (ap (λ x. map text_of loads ++ x ∷ []) o.same ∙ sym (map-append text_of loads (load ∷ []))));
  filled = each_snoc (λ (x : Load). 0 < length (elements x)) texts text a.filled (o.some full);
}
