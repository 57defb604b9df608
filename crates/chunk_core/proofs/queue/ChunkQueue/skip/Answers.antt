use Rattle.std.proofs.Common.{◌∙◌, arith}
use Rattle.chunk_core.proofs.Queues.{passed}
use Rattle.chunk_core.proofs.queue.ChunkQueue.skip.Goals as goal

pub loop-first-preserved-else-n-len : goal.loop-first-preserved-else-n-len
loop-first-preserved-else-n-len g c =
    rw (c.pop_front.ensures.rest, c.len-n.ensures) (passed c.loop-first.n c.in-Some.first.now c.loop-first.self-inside.chunks.items c.in-Some.ensures.value (rw (← c.len-n.ensures) (omega (arith, c.if-n-len.false)))) ∙ c.loop-first.invariant
