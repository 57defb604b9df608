-- What a list is read through.
use Rattle.std.specs.Prelude.{List, [], ◌∷◌, IsUtf8}
use Rattle.chunk_core.specs.Elements.{Byte, Element, Line, Row}
use Rattle.chunk_core.specs.Elements.LoadKind.{Lines}
use Rattle.chunk_core.specs.Feed.{Meaning}
use Rattle.chain_pipes.specs.Over.{chain_meaning}
use Rattle.pipeline_desc.specs.declared.step.Step.{Step}
use Rattle.pipeline_desc.specs.declared.step.Step.TheVariants as step
use Rattle.pull_nodes.specs.declared.pipe.Pipe.TheVariants as pipe

-- the bytes are text, which is cut into lines
abbrev pub list_steps : List Step
list_steps = step.Pipe pipe.Utf8 ∷ step.Pipe pipe.Lines ∷ []

-- these steps as one pipe
abbrev pub list_meaning : Meaning
list_meaning = chain_meaning list_steps Lines

-- a line that is UTF-8
abbrev pub IsText : Element → Type 0
IsText (Byte b) = ⊥
IsText (Line line) = IsUtf8 line
IsText (Row fields) = ⊥
