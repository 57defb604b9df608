-- What steps give of elements that came, one step after another.
use Rattle.std.specs.Prelude.{◌≡◌, ℕ, Bool, nat_le, if◌then◌else◌, List, [], ◌∷◌, length, take, Option, Some, None}
use Rattle.chunk_core.specs.Elements.{Element, LoadKind}
use Rattle.chunk_core.specs.Elements.LoadKind.{Bytes}
use Rattle.chunk_core.specs.Feed.{Given, Meaning}
use Rattle.chunk_core.specs.Outcomes.{Cut, Done, End, Fault}
use Rattle.chunk_core.specs.Tables.{no_values}
use Rattle.chunk_core.specs.declared.code.Code.{Code}
use Rattle.pipeline_desc.specs.declared.step.Step.{Step}
use Rattle.pipeline_desc.specs.declared.step.Step.TheVariants as step
use Rattle.pull_nodes.specs.PipeRule.{without_fault}
use Rattle.pull_nodes.specs.Pipes.{all_of, part_of}
use Rattle.pull_nodes.specs.Runs.{end_by_fault}
use Rattle.step_words.specs.Words.{kind_behind}

-- elements, and how they ended
pub record Came : Type 0 where
  pub list : List Element
  pub end : End

abbrev pub came : List Element → End → Came
came xs e = record { list = xs; end = e }

-- what a pipe gives whose input ended so, and that had no fault before: only of a whole input what it held back
abbrev pub at_end : Given → Given → End → Came
at_end part all Done = came all.list (end_by_fault all.fault Done)
at_end part all (Fault c) = came part.list (Fault c)
at_end part all Cut = came part.list Cut

-- a fault of its own goes before
abbrev pub through : Option Code → Given → Given → End → Came
through (Some c) part all e = came part.list (Fault c)
through None part all e = at_end part all e

-- the first n elements and then the end, where there are so many
abbrev pub taken : ℕ → List Element → End → Came
taken n xs e = if nat_le n (length xs) then came (take n xs) Done else came xs e

-- what a step gives of elements that ended so
abbrev pub step_over : Step → List Element → End → Came
step_over (step.Take n) xs e = taken n xs e
step_over (step.Pipe p) xs e = through (part_of no_values p xs).fault (part_of no_values p xs) (all_of no_values p xs) e

-- what the steps give, from the first on
abbrev pub over : List Step → List Element → End → Came
over [] xs e = came xs e
over (s ∷ ss) xs e = over ss (step_over s xs e).list (step_over s xs e).end

-- the fault of an end, where it is one
abbrev pub fault_of : End → Option Code
fault_of Done = None
fault_of (Fault c) = Some c
fault_of Cut = None

abbrev pub given_of : Came → Given
given_of c = record { list = c.list; fault = fault_of c.end }

-- what a chain has given of an input that may go on: what its steps give of one that was cut, and of nothing nothing yet
abbrev pub chain_part : List Step → List Element → Given
chain_part steps [] = without_fault []
chain_part steps (x ∷ xs) = given_of (over steps (x ∷ xs) Cut)

-- what a chain gives of a whole input
abbrev pub chain_all : List Step → List Element → Given
chain_all steps xs = given_of (over steps xs Done)

-- a chain as a pipe, where its loads are of this kind
abbrev pub chain_meaning : List Step → LoadKind → Meaning
chain_meaning steps gives = record { takes = Bytes; gives = gives; part = chain_part steps; all = chain_all steps }

-- a chain as a pipe: it takes bytes
abbrev pub IsChainMeaning : List Step → Meaning → Type 0
IsChainMeaning steps m = (kind_behind steps Bytes ≡ Some m.gives) × (m ≡ chain_meaning steps m.gives)
