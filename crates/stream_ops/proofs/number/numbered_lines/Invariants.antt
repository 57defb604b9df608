use Rattle.std.proofs.Common.{◌≡◌, ℕ, map, take}
use Rattle.std.specs.List.{enumerate_from}
use Rattle.chunk_core.specs.Elements.{Line}
use Rattle.pull_nodes.specs.Number.{with_number}
use Rattle.pull_nodes.specs.Plain.{capped_number}
use Rattle.stream_ops.proofs.number.numbered_lines.Given as goal

abbrev pub invariant-loop-i : goal.invariant-loop-i
invariant-loop-i l = (k : ℕ) → l.first ≡ capped_number k → map Line l.given.items ≡ map with_number (enumerate_from k (map Line (take l.i l.lines)))
