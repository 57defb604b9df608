-- What the state of a pipe of UTF-8 stands for.
use Rattle.std.specs.Prelude.{◌≡◌, ℕ, Bool, false, if◌then◌else◌, List, Option, Some, None}
use Rattle.chunk_core.specs.Elements.{Element}
use Rattle.chunk_core.specs.Feed.{Meaning}
use Rattle.chunk_core.specs.declared.code.Code.{Code}
use Rattle.chunk_core.specs.declared.code.Code.TheVariants as code
use Rattle.pull_nodes.specs.Pipes.{IsMeaningOf}
use Rattle.pull_nodes.specs.Plain.{bytes_of}
use Rattle.pull_nodes.specs.Utf8.{utf8_rest, is_malformed}
use Rattle.pull_nodes.specs.declared.pipe.Pipe.TheVariants as pipe
use Rattle.text_pipes.specs.declared.utf8.Utf8Pipe.{Utf8Pipe}

-- the fault of bytes that are malformed, or that may go on
abbrev pub fault_where : Bool → Option Code
fault_where malformed = if malformed then Some code.Malformed else None

-- the bytes held back after the bytes xs, which more may make well formed
pub record StandsAt (kept xs : List ℕ) : Type 0 where
  pub held : kept ≡ utf8_rest xs
  pub fine : is_malformed (utf8_rest xs) ≡ false

-- the state stands for this input of the pipe
abbrev pub StandsFor : Utf8Pipe → Meaning → List Element → Type 0
StandsFor q m xs = IsMeaningOf pipe.Utf8 m × StandsAt q.held.items (bytes_of xs)
