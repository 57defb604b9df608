use Rattle.std.proofs.Common.{◌≡◌, ◌+◌, ◌<◌, length}
use Rattle.chunk_core.specs.Elements.{elements_of}
use Rattle.chain_pipes.proofs.link.take.Given as goal

abbrev pub invariant-loop-load : goal.invariant-loop-load
invariant-loop-load l =
    (l.given.items ≡ l.yielded) × (0 < l.wanted) × (l.fn.wanted ≡ length (elements_of l.yielded) + l.wanted)
