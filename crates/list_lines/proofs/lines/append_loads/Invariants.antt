use Rattle.std.proofs.Common.{◌≡◌, ◌++◌, map, take}
use Rattle.chunk_core.specs.Elements.{Line, elements_of}
use Rattle.list_lines.proofs.lines.append_loads.Given as goal

abbrev pub invariant-loop-load : goal.invariant-loop-load
invariant-loop-load l = map Line l.waiting.items ≡ map Line l.fn.waiting.items ++ elements_of (take l.load-index l.loads)
