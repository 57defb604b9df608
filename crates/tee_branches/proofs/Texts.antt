-- What is said is a text, which isn't empty.
use Rattle.std.proofs.Common.{◌≡◌, ◌<◌, ℕ, List, [], ◌∷◌, length, Option, None, IfSome, inl, inr, refl, sym, subst, arith, length-append}
use Rattle.chunk_core.specs.Elements.{Element, element_text, rendering_of}
use Rattle.chunk_core.specs.Elements.Element.{Byte, Line, Row}
use Rattle.channel_bounded.specs.declared.message.Msg.{Msg}
use Rattle.tee_texts.specs.Texts.{IsTextOf}
use Rattle.tee_branches.specs.Messages.{IsNews}
use Rattle.tee_branches.specs.Moves.{IsMoved}
use Rattle.tee_branches.specs.declared.news.Moved.{Moved}
use Rattle.tee_branches.specs.declared.stage.Stage.{Stage}

-- each element has some text
text_some : (x : Element) → 0 < length (element_text x)
text_some (Byte b) = omega arith
text_some (Line line) = omega (arith, length-append line (10 ∷ []))
text_some (Row fields) = simp length-append (omega arith)

-- where there is an element, there is some text
rendering_some : (xs : List Element) → 0 < length xs → 0 < length (rendering_of xs)
rendering_some [] l = l
rendering_some (x ∷ xs) l = omega (arith, text_some x, length-append (element_text x) (rendering_of xs))

pub none_text : (k : ℕ) (message : Option Msg) → message ≡ None → IfSome message (IsTextOf k)
none_text k message none = subst (λ o. IfSome o (IsTextOf k)) (sym none) tt

news_text : (k : ℕ) (ys : List Element) (message : Option Msg) → IsNews k ys message → IfSome message (IsTextOf k)
news_text k ys message (inl n) = none_text k message n.1
news_text k ys message (inr n) = subst (λ o. IfSome o (IsTextOf k)) (sym n.1) (refl, rendering_some ys n.0)

-- so is what a step says
pub moved_text : {F : Type 0} (k : ℕ) (ys : List Element) (s : Stage F) (x : Moved F) → IsMoved k ys s x → IfSome x.message (IsTextOf k)
moved_text k ys s x (inl i) = news_text k ys x.message i.1
moved_text k ys s x (inr w) = none_text k x.message w.1
