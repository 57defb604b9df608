use Rattle.std.proofs.Common.{◌≡◌, map, take}
use Rattle.chunk_core.specs.Elements.{Byte, elements_of}
use Rattle.chain_pipes.proofs.joining.joined_bytes.Given as goal

abbrev pub invariant-loop-load : goal.invariant-loop-load
invariant-loop-load l = map Byte l.items.items ≡ elements_of (take l.load-index l.loads)
