-- Chains that are written out, and what holds of every chain.
use Rattle.std.specs.Prelude.{◌≡◌, ℕ, List, [], ◌∷◌, map, codes, Some}
use Rattle.chunk_core.specs.Elements.{Byte, Element, Line, LoadKind}
use Rattle.chunk_core.specs.Outcomes.{Cut, Done, End, Fault, Outcomes}
use Rattle.chunk_core.specs.Tables.{no_values}
use Rattle.chunk_core.specs.declared.code.Code.TheVariants as code
use Rattle.pipeline_desc.specs.declared.step.Step.{Step}
use Rattle.pipeline_desc.specs.declared.step.Step.TheVariants as step
use Rattle.pull_nodes.specs.Laws.{IsSteady}
use Rattle.pull_nodes.specs.PipeRule.{without_fault}
use Rattle.pull_nodes.specs.Pipes.{all_of, part_of}
use Rattle.pull_nodes.specs.Runs.{Exactly, Piped, Taken}
use Rattle.pull_nodes.specs.declared.pipe.Pipe.{Pipe}
use Rattle.pull_nodes.specs.declared.pipe.Pipe.TheVariants as pipe
use Rattle.chain_pipes.specs.Over.{came, chain_meaning, chain_part, over}

abbrev pub bytes : List ℕ → List Element
bytes text = map Byte text

abbrev pub lines : List (List ℕ) → List Element
lines ls = map Line ls

abbrev pub piped : Pipe → Step
piped p = step.Pipe p

abbrev pub lines_counted : List Step
lines_counted = piped pipe.Lines ∷ piped pipe.Count ∷ []

pub record AreWorked : Type 0 where
  -- the count comes at the end alone
  pub count : over lines_counted (bytes (codes "ab\ncd\n")) Done ≡ came (lines (codes "2" ∷ [])) Done
  pub cut_count : over lines_counted (bytes (codes "ab\ncd\n")) Cut ≡ came [] Cut
  pub filter : over (piped pipe.Utf8 ∷ piped pipe.Lines ∷ piped (pipe.Filter (codes "d")) ∷ []) (bytes (codes "ab\ncd\n")) Done ≡ came (lines (codes "cd" ∷ [])) Done
  -- a rest without its end is a line only of a whole input
  pub whole_rest : over (piped pipe.Lines ∷ []) (bytes (codes "ab\ncd")) Done ≡ came (lines (codes "ab" ∷ codes "cd" ∷ [])) Done
  pub cut_rest : over (piped pipe.Lines ∷ []) (bytes (codes "ab\ncd")) Cut ≡ came (lines (codes "ab" ∷ [])) Cut
  -- a fault passes through what stands behind it, which drops what it holds back
  pub fault : over (piped pipe.Utf8 ∷ lines_counted) (bytes (97 ∷ 10 ∷ 255 ∷ [])) Done ≡ came [] (Fault code.Malformed)
  -- a taker that has all it wants hides the fault of what comes behind it, and is an end for what stands behind it
  pub hides : over (piped pipe.Utf8 ∷ step.Take 1 ∷ []) (bytes (97 ∷ 255 ∷ [])) Done ≡ came (bytes (97 ∷ [])) Done
  pub ends : over (piped pipe.Lines ∷ step.Take 1 ∷ piped pipe.Count ∷ []) (bytes (codes "ab\ncd\n")) Cut ≡ came (lines (codes "1" ∷ [])) Done
  pub last_ends : over (step.Take 1 ∷ piped pipe.Utf8 ∷ []) (bytes (195 ∷ 164 ∷ [])) Cut ≡ came [] (Fault code.Truncated)
  -- one that wants nothing gives what stands behind it its end, once anything comes
  pub wants_nothing : over (step.Take 0 ∷ piped pipe.Count ∷ []) (bytes (codes "a")) Cut ≡ came (lines (codes "0" ∷ [])) Done
  pub not_yet : chain_part (step.Take 0 ∷ piped pipe.Count ∷ []) [] ≡ without_fault []
  -- no step, and nothing
  pub none : over [] (bytes (codes "ab")) Done ≡ came (bytes (codes "ab")) Done
  pub nothing : over lines_counted [] Done ≡ came (lines (codes "0" ∷ [])) Done

-- what A gives goes through the step
abbrev pub Stepped : Step → Outcomes → Outcomes
Stepped (step.Take n) A = Taken n A
Stepped (step.Pipe p) A = Piped (part_of no_values p) (all_of no_values p) A

-- and through the steps, one behind another
abbrev pub Chained : List Step → Outcomes → Outcomes
Chained [] A = A
Chained (s ∷ ss) A = Chained ss (Stepped s A)

-- what steps give of elements with an end is a run of these through the steps
abbrev pub OverIsARun : Type 0
OverIsARun = (steps : List Step) (xs : List Element) (e : End) → Chained steps (Exactly xs e) (over steps xs e).list (over steps xs e).end

-- what a chain gave stays given, and its faults are final
abbrev pub ChainsAreSteady : Type 0
ChainsAreSteady = (steps : List Step) (gives : LoadKind) → IsSteady (chain_meaning steps gives)
