-- The chains of the branches.
use Rattle.std.specs.Prelude.{◌≡◌, true, List, map, Option, Some, None, IsSome}
use Rattle.std.specs.List.{AllByRecursion, list_all}
use Rattle.chunk_core.specs.Elements.{LoadKind}
use Rattle.chunk_core.specs.Elements.LoadKind.{Bytes}
use Rattle.chunk_core.specs.Feed.{Meaning}
use Rattle.chain_pipes.specs.Over.{chain_meaning}
use Rattle.pipeline_desc.specs.declared.step.Step.{Step}
use Rattle.step_words.specs.Words.{kind_behind, needs_no_table}

-- steps that fit behind bytes and look nothing up
abbrev pub IsChain : List Step → Type 0
IsChain s = IsSome (kind_behind s Bytes) × (list_all needs_no_table s ≡ true)

-- so are the steps of each branch
abbrev pub AreChains : List (List Step) → Type 0
AreChains branches = AllByRecursion (λ s. IsSome (kind_behind s Bytes) × (list_all needs_no_table s ≡ true)) branches

-- the kind that is given, or bytes
abbrev pub or_bytes : Option LoadKind → LoadKind
or_bytes (Some k) = k
or_bytes None = Bytes

-- the steps as a pipe that takes bytes
abbrev pub meaning_of : List Step → Meaning
meaning_of s = chain_meaning s (or_bytes (kind_behind s Bytes))

-- those of each branch
abbrev pub meanings_of : List (List Step) → List Meaning
meanings_of branches = map meaning_of branches
