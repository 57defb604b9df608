-- What the words of steps of a call mean.
use Rattle.std.specs.Prelude.{◌≡◌, ℕ, true, List, Result, Ok, Err, IsErr, IsSome}
use Rattle.std.specs.List.{AllByRecursion, list_all}
use Rattle.chunk_core.specs.Elements.LoadKind.{Bytes}
use Rattle.pipeline_desc.specs.Reading.{Reading, each_from}
use Rattle.pipeline_desc.specs.declared.step.Step.{Step}
use Rattle.step_words.specs.Words.{kind_behind, needs_no_table, steps_of}
use Rattle.flume_cli.specs.declared.status.Status.{Status}
use Rattle.flume_cli.specs.declared.status.Status.TheVariants as status

-- the chain of each word, in order
abbrev pub chains_of : List (List ℕ) → Reading (List (List Step))
chains_of words = each_from (λ i word. steps_of word) 0 words

-- the steps fit behind bytes, and look nothing up
abbrev pub IsChain : List Step → Type 0
IsChain steps = IsSome (kind_behind steps Bytes) × (list_all needs_no_table steps ≡ true)

abbrev pub AreChains : List (List Step) → Type 0
AreChains all = AllByRecursion IsChain all

-- what was meant, which is so; or the status of a call of which nothing was meant, or that found no memory to read it
abbrev pub GivesMeant : {A : Type 0} → (A → Type 0) → Reading A → Result A Status → Type 0
GivesMeant IsSo meant (Ok x) = (meant ≡ Ok x) × IsSo x
GivesMeant IsSo meant (Err status.BadWords) = IsErr meant
GivesMeant IsSo meant (Err status.Memory) = Unit {0}
GivesMeant IsSo meant (Err s) = ⊥
