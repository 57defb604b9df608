-- What the word of a chain means.
use Rattle.std.specs.Prelude.{◌≡◌, ℕ, Bool, true, false, ◌==◌, List, [], ◌∷◌, Option, Some, None, option_and_then, Result, Ok, Err, IsErr, if◌then◌else◌}
use Rattle.chunk_core.specs.Elements.{LoadKind}
use Rattle.pull_nodes.specs.PipeKinds.{gives_of}
use Rattle.pull_nodes.specs.declared.pipe.Pipe.{Pipe}
use Rattle.pull_nodes.specs.declared.pipe.Pipe.TheVariants as pipe
use Rattle.pipeline_desc.specs.Meant.{SettingMeant, setting_of}
use Rattle.pipeline_desc.specs.Reading.{Reading, ◌>>=◌}
use Rattle.pipeline_desc.specs.Steps.{are_fitting, kind_given, step_meant}
use Rattle.pipeline_desc.specs.declared.refusal.Refused.{Refused}
use Rattle.pipeline_desc.specs.declared.refusal.Refused.TheVariants as refused
use Rattle.pipeline_desc.specs.declared.step.Step.{Step}
use Rattle.pipeline_desc.specs.declared.step.Step.TheVariants as step
use Rattle.step_words.specs.declared.word.StepsRefused.{StepsRefused}
use Rattle.step_words.specs.declared.word.StepsRefused.TheVariants as steps_refused

-- a byte more at the front of the first text
abbrev pub begun_with : ℕ → List (List ℕ) → List (List ℕ)
begun_with b [] = (b ∷ []) ∷ []
begun_with b (part ∷ parts) = (b ∷ part) ∷ parts

-- the parts of a text between bars, one more than there are bars
abbrev pub parts_between : List ℕ → List (List ℕ)
parts_between [] = [] ∷ []
parts_between (b ∷ text) = if b == 124 then ([] ∷ parts_between text) else begun_with b (parts_between text)

-- the parts of a text, where one is left
abbrev pub parts_left : Option (List ℕ) → List (List ℕ)
parts_left None = []
parts_left (Some text) = parts_between text

-- the parts of a word: an empty word has none
abbrev pub parts_of : List ℕ → List (List ℕ)
parts_of [] = []
parts_of (b ∷ word) = parts_between (b ∷ word)

-- no tables stand beside it
abbrev pub no_setting : SettingMeant
no_setting = setting_of [] 0

-- the steps that the parts mean, each as in a description without tables
abbrev pub each_meant : List (List ℕ) → Reading (List Step)
each_meant [] = Ok []
each_meant (part ∷ parts) = step_meant no_setting 0 0 part >>= (λ s. each_meant parts >>= (λ steps. Ok (s ∷ steps)))

-- the steps that the parts mean: they may stand in one stream, whose file gives bytes
abbrev pub chain_meant : List (List ℕ) → Reading (List Step)
chain_meant parts = each_meant parts >>= (λ steps. are_fitting 0 steps >>= (λ _. kind_given 0 steps None >>= (λ _. Ok steps)))

-- the steps of a word
abbrev pub steps_of : List ℕ → Reading (List Step)
steps_of word = chain_meant (parts_of word)

-- the failure of a description as that of a word
abbrev pub refused_as : Refused → StepsRefused
refused_as refused.Memory = steps_refused.Memory
refused_as (refused.Desc e) = steps_refused.Bad

-- the steps are those that were meant, or none were; memory may be wanting at any time
abbrev pub Reads : Result (List Step) StepsRefused → Reading (List Step) → Type 0
Reads (Ok steps) meant = meant ≡ Ok steps
Reads (Err steps_refused.Memory) meant = Unit {0}
Reads (Err steps_refused.Bad) meant = IsErr meant

-- the step looks nothing up
abbrev pub needs_no_table : Step → Bool
needs_no_table (step.Take n) = true
needs_no_table (step.Pipe (pipe.Lookup t i)) = false
needs_no_table (step.Pipe _) = true

-- the kind of the loads behind steps of which the first gets loads of a kind, or none where one doesn't take the kind that it gets
abbrev pub kind_behind : List Step → LoadKind → Option LoadKind
kind_behind [] k = Some k
kind_behind (step.Take n ∷ steps) k = kind_behind steps k
kind_behind (step.Pipe p ∷ steps) k = option_and_then (kind_behind steps) (gives_of p k)
