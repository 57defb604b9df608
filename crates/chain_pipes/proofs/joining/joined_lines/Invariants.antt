use Rattle.std.proofs.Common.{◌≡◌, map, take}
use Rattle.chunk_core.specs.Elements.{Line, elements_of}
use Rattle.chain_pipes.proofs.joining.joined_lines.Given as goal

abbrev pub invariant-loop-load : goal.invariant-loop-load
invariant-loop-load l = map Line l.items.items ≡ elements_of (take l.load-index l.loads)
