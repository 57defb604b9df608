-- What one thread answers to lines: they go through steps group by group.
use Rattle.std.specs.Prelude.{ℕ, zero, suc, ◌^◌, nat_lt, if◌then◌else◌, List, [], ◌∷◌, ◌++◌, map, length, take, drop}
use Rattle.chunk_core.specs.Elements.{Byte, Element, rendering_of}
use Rattle.chunk_core.specs.Outcomes.{End, Done, Fault, Cut}
use Rattle.chunk_core.specs.Texts.{Frame}
use Rattle.chunk_core.specs.declared.code.Code.TheVariants as code
use Rattle.chunk_core.specs.declared.code.How.{How}
use Rattle.chunk_core.specs.declared.code.How.TheVariants as how
use Rattle.pipeline_desc.specs.declared.step.Step.{Step}
use Rattle.pipeline_desc.specs.declared.step.Step.TheVariants as step
use Rattle.pull_nodes.specs.declared.pipe.Pipe.TheVariants as pipe
use Rattle.chain_pipes.specs.Over.{Came, came, over, step_over}

-- at most k groups of n elements, the last one shorter where fewer are left
abbrev pub groups_up_to : ℕ → ℕ → List Element → List (List Element)
groups_up_to zero n xs = []
groups_up_to (suc k) n [] = []
groups_up_to (suc k) n (x ∷ xs) = take n (x ∷ xs) ∷ groups_up_to k n (drop n (x ∷ xs))

-- the groups of n elements in order, the last one shorter where fewer are left
abbrev pub groups_of : ℕ → List Element → List (List Element)
groups_of n xs = groups_up_to (length xs) n xs

-- what the steps give of the text of a group, and how that ends
abbrev pub group_over : List Step → List Element → Came
group_over steps group = over steps (map Byte (rendering_of group)) Done

-- a frame of stream 0, where the text isn't empty
abbrev pub framed : List ℕ → List Frame
framed [] = []
framed (b ∷ text) = record { stream = 0; payload = b ∷ text } ∷ []

-- the frame of what a group gave
abbrev pub frames_of : Came → List Frame
frames_of c = framed (rendering_of c.list)

-- what is printed, and how stream 0 ends
pub record Answer : Type 0 where
  pub frames : List Frame
  pub end : End

-- frames, and the answer to what follows them, unless they ended in a fault
abbrev pub and_then : List Frame → End → Answer → Answer
and_then frames (Fault c) rest = record { frames = frames; end = Fault c }
and_then frames Done rest = record { frames = frames ++ rest.frames; end = rest.end }
and_then frames Cut rest = record { frames = frames ++ rest.frames; end = rest.end }

-- the answer to groups in order, up to the first whose steps fail, where the lines ended so
abbrev pub answer_in_groups : List Step → List (List Element) → End → Answer
answer_in_groups steps [] e = record { frames = []; end = e }
answer_in_groups steps (group ∷ groups) e = and_then (frames_of (group_over steps group)) (group_over steps group).end (answer_in_groups steps groups e)

-- the answer to lines that ended so, in groups of n
abbrev pub answer_of : List Step → ℕ → List Element → End → Answer
answer_of steps n xs e = answer_in_groups steps (groups_of n xs) e

-- what a file gives that is read to its end, or to the limit
abbrev pub file_over : List ℕ → Came
file_over bytes = if nat_lt (length bytes) (2 ^ 40) then came (map Byte bytes) Done else came (map Byte (take (2 ^ 40) bytes)) (Fault code.Endless)

-- the lines of a file, and how they end
abbrev pub lines_over : List ℕ → Came
lines_over bytes = step_over (step.Pipe pipe.Lines) (file_over bytes).list (file_over bytes).end

-- the answer to a file with these bytes
abbrev pub answer_to : List Step → ℕ → List ℕ → Answer
answer_to steps n bytes = answer_of steps n (lines_over bytes).list (lines_over bytes).end

-- how a stream ended that ended so by itself
abbrev pub how_of : End → How
how_of Done = how.Done
how_of (Fault c) = how.Fault c
how_of Cut = how.Halted
