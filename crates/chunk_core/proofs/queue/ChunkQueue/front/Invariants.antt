use Rattle.std.proofs.Common.{◌≡◌, take, map}
use Rattle.chunk_core.proofs.Queues.{joined}
use Rattle.chunk_core.proofs.queue.ChunkQueue.front.Given as goal

abbrev pub invariant-loop-chunk : goal.invariant-loop-chunk
invariant-loop-chunk g l = l.front.items ≡ take l.n (joined (map (λ chunk. chunk.now) l.yielded))
