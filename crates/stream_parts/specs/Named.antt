-- A stream of a plan, and the file that one of the list reads.
use Rattle.std.specs.Prelude.{ℕ, ◌≤◌, List, [], length, Option, Some, None, IsSome}
use Rattle.pipeline_desc.specs.Meant.{PlanMeant, stream_at}
use Rattle.pipeline_desc.specs.declared.stream.StreamSpec.{StreamSpec}

-- the path that is given, and none where the stream has its own
abbrev pub path_of : Option (List ℕ) → List ℕ
path_of None = []
path_of (Some path) = path

-- a stream of the list is given the path of its file
abbrev pub IsNamed : PlanMeant → ℕ → Option (List ℕ) → Type 0
IsNamed p k path = length p.streams ≤ k → IsSome path

-- stream k, which reads the file at this path if it is one of the list
abbrev pub named_stream : PlanMeant → ℕ → Option (List ℕ) → Option StreamSpec
named_stream p k path = stream_at p (path_of path) k
