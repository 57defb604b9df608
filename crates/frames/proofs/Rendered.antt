-- Elements, and the text that renders them.
use Rattle.std.proofs.Common.{◌<◌, List, [], ◌∷◌, length, arith, length-append}
use Rattle.chunk_core.specs.Elements.{Element, element_text, rendering_of}
use Rattle.chunk_core.specs.Elements.Element.{Byte, Line, Row}

-- each element has some text
pub text_some : (x : Element) → 0 < length (element_text x)
text_some (Byte b) = omega arith
text_some (Line line) = omega (arith, length-append line (10 ∷ []))
text_some (Row fields) = simp length-append (omega arith)

-- where there is an element, there is some text
pub rendering_some : (xs : List Element) → 0 < length xs → 0 < length (rendering_of xs)
rendering_some [] l = l
rendering_some (x ∷ xs) l = omega (arith, text_some x, length-append (element_text x) (rendering_of xs))
