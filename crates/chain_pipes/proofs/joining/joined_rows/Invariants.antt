use Rattle.std.proofs.Common.{◌≡◌, map, take}
use Rattle.chunk_core.specs.Elements.{Row, elements_of}
use Rattle.chain_pipes.proofs.joining.joined_rows.Given as goal

abbrev pub invariant-loop-load : goal.invariant-loop-load
invariant-loop-load l = map Row l.items.items ≡ elements_of (take l.load-index l.loads)
