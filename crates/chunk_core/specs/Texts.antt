-- The texts of codes, of ends, and of frames.
use Rattle.std.specs.Prelude.{◌≡◌, ℕ, ◌<◌, List, [], ◌∷◌, ◌++◌, length, flat_map, filter, nat_eq, codes, decimal, Option, None, Some}
use Rattle.chunk_core.specs.declared.code.Code.{Code}
use Rattle.chunk_core.specs.declared.code.Code.TheVariants as code
use Rattle.chunk_core.specs.declared.code.Exit.{Exit}
use Rattle.chunk_core.specs.declared.code.Exit.TheVariants as exit
use Rattle.chunk_core.specs.declared.code.How.{How}
use Rattle.chunk_core.specs.declared.code.How.TheVariants as how

-- the name of a fault
abbrev pub code_text : Code → List ℕ
code_text code.Open = codes "open"
code_text code.Read = codes "read"
code_text code.Write = codes "write"
code_text code.Endless = codes "endless"
code_text code.Malformed = codes "malformed"
code_text code.Truncated = codes "truncated"
code_text code.LongLine = codes "longline"
code_text code.Uneven = codes "uneven"
code_text code.NotUtf8 = codes "notutf8"
code_text code.NoField = codes "nofield"
code_text code.TooLarge = codes "toolarge"
code_text code.BadPath = codes "badpath"
code_text code.TooMany = codes "toomany"
code_text (code.Raised c) = codes "raised " ++ decimal c

-- how a stream ended; want of memory is never printed
abbrev pub how_text : How → List ℕ
how_text how.Done = codes "done"
how_text how.Halted = codes "halted"
how_text (how.Fault c) = codes "fault " ++ code_text c
how_text how.Memory = codes "memory"

-- how a scope or a stream ended, as its finalizers are told
abbrev pub exit_text : Exit → List ℕ
exit_text exit.Succeeded = codes "succeeded"
exit_text exit.Errored = codes "errored"
exit_text exit.Canceled = codes "canceled"

-- a piece of a stream's output
pub record Frame : Type 0 where
  pub stream : ℕ
  pub payload : List ℕ

-- the stream's number, the payload's length, and the payload
abbrev pub frame_text : ℕ → List ℕ → List ℕ
frame_text k p = decimal k ++ (32 ∷ [] ++ (decimal (length p) ++ (10 ∷ [] ++ (p ++ 10 ∷ []))))

-- a proper front of the text of the frame that was begun, where a write failed, and else nothing
abbrev pub IsRestOf : Option Frame → List ℕ → Type 0
IsRestOf None rest = rest ≡ []
IsRestOf (Some f) rest = (more : List ℕ) × (0 < length more) × (rest ++ more ≡ frame_text f.stream f.payload)

-- one frame after another
abbrev pub frames_text : List Frame → List ℕ
frames_text F = flat_map (λ f. frame_text f.stream f.payload) F

-- what was printed of stream k
abbrev pub payloads_of : ℕ → List Frame → List ℕ
payloads_of k F = flat_map (λ f. f.payload) (filter (λ f. nat_eq f.stream k) F)
