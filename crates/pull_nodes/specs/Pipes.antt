-- What a pipe gives, and what it means at the kinds that it takes.
use Rattle.std.specs.Prelude.{◌≡◌, ℕ, List, Option, Some, None, option_map}
use Rattle.chunk_core.specs.Elements.{Element, LoadKind}
use Rattle.chunk_core.specs.Feed.{Given, Meaning}
use Rattle.pull_nodes.specs.ChunkN.{group_size}
use Rattle.pull_nodes.specs.PipeKinds.{gives_of}
use Rattle.pull_nodes.specs.Rules.{rule_of}
use Rattle.chunk_core.specs.Tables.{Values, no_values}
use Rattle.pull_nodes.specs.declared.pipe.Pipe.{Pipe}
use Rattle.pull_nodes.specs.declared.pipe.Pipe.TheVariants as pipe

-- what the pipe has given of an input that may go on, over tables with these values
abbrev pub part_of : Values → Pipe → List Element → Given
part_of v p xs = (rule_of v p).part xs

-- what the pipe gives of a whole input, over tables with these values
abbrev pub all_of : Values → Pipe → List Element → Given
all_of v p xs = (rule_of v p).all xs

-- the size of the groups that the pipe gives, or none where it gives no groups
abbrev pub groups_of : Pipe → Option ℕ
groups_of (pipe.ChunkN n) = Some (group_size n)
groups_of p = None

-- the pipe over tables with these values, where it takes and gives these kinds
abbrev pub meaning_over : Values → Pipe → LoadKind → LoadKind → Meaning
meaning_over v p takes gives = record { takes = takes; gives = gives; part = part_of v p; all = all_of v p }

-- the pipe over these values where it takes loads of a kind, or none where it doesn't take them
abbrev pub meaning_of : Values → Pipe → LoadKind → Option Meaning
meaning_of v p takes = option_map (meaning_over v p takes) (gives_of p takes)

-- the pipe over these values at one of the kinds that it takes
abbrev pub IsMeaningOver : Values → Pipe → Meaning → Type 0
IsMeaningOver v p m = meaning_of v p m.takes ≡ Some m

-- the same of a pipe that looks nothing up
abbrev pub meaning : Pipe → LoadKind → LoadKind → Meaning
meaning p = meaning_over no_values p

abbrev pub IsMeaningOf : Pipe → Meaning → Type 0
IsMeaningOf p m = IsMeaningOver no_values p m
