use Rattle.std.proofs.Common.{◌≡◌, drop, length}
use Rattle.chunk_core.proofs.Queues.{joined}
use Rattle.chunk_core.proofs.queue.ChunkQueue.skip.Given as goal

abbrev pub invariant-loop-first : goal.invariant-loop-first
invariant-loop-first g l = drop l.n (joined l.self-inside.chunks.items) ≡ drop l.initial.n (joined l.initial.self-inside.chunks.items)

abbrev pub decreases-loop-first : goal.decreases-loop-first
decreases-loop-first g l = length l.self-inside.chunks.items
