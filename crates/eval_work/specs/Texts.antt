-- The text of what a pipe gives of bytes.
use Rattle.std.specs.Prelude.{◌≡◌, ℕ, map, List, [], ◌++◌, Option}
use Rattle.any_pipe.specs.Pouring.{FeedsAll, MakesUp, Pours}
use Rattle.chunk_core.specs.Elements.{Byte, Element, elements, elements_of, rendering_of}
use Rattle.chunk_core.specs.Elements.LoadKind.{Bytes}
use Rattle.chunk_core.specs.Feed.{Meaning}
use Rattle.chunk_core.specs.declared.code.Code.{Code}
use Rattle.chunk_core.specs.declared.feed.Fed.{Fed}
use Rattle.chunk_core.specs.declared.feed.Fed.TheVariants as fed
use Rattle.chunk_core.specs.declared.load.Load.{Load}
use Rattle.eval_work.specs.declared.text.Came.{Came}
use Rattle.eval_work.specs.declared.text.Came.TheVariants as came

-- the text of the load that was answered came behind the text before, and so much else was told
abbrev pub AppendsAnswer : List ℕ → List ℕ → Fed → Came → Type 0
AppendsAnswer old new (fed.Out load) came.More = new ≡ old ++ rendering_of (elements load)
AppendsAnswer old new fed.End came.End = new ≡ old
AppendsAnswer old new (fed.Fault load c) (came.Fault d) = (new ≡ old ++ rendering_of (elements load)) × (d ≡ c)
AppendsAnswer old new answer other = ⊥

-- the state stands for no input yet of a pipe that takes bytes
abbrev pub MayPourText : (Meaning → List Element → Type 0) → Type 0
MayPourText Stands = (m : Meaning) × Stands m [] × (m.takes ≡ Bytes)

-- loads of these bytes were fed, up to a fault, and this is the text of what came
pub record FeedsText (m : Meaning) (bytes text : List ℕ) (c : Option Code) (Stands : List Element → Type 0) : Type 0 where
  pub loads : List Load
  pub given : List Load
  pub whole : elements_of loads ≡ map Byte bytes
  pub told : text ≡ rendering_of (elements_of given)
  pub feeds : FeedsAll m [] loads given c Stands

-- where xs is the whole input, the text of all that was still to come came behind the text before
pub record FinishesText (m : Meaning) (xs : List Element) (before text : List ℕ) (c : Option Code) : Type 0 where
  pub rest : List Load
  pub told : text ≡ before ++ rendering_of (elements_of rest)
  pub made : MakesUp m xs rest c (m.all xs)

-- loads of these bytes were fed, and then the end was told, and this is the text of what came
pub record PoursText (m : Meaning) (bytes text : List ℕ) (c : Option Code) : Type 0 where
  pub loads : List Load
  pub given : List Load
  pub whole : elements_of loads ≡ map Byte bytes
  pub told : text ≡ rendering_of (elements_of given)
  pub pours : Pours m [] loads given c
