-- Each turn gives something more, makes an entry or a leaving, or is the last.
use Rattle.lone_stream.proofs.Stepped.{failed, gave, kind_is, wanted, was_done, went_on}
use Rattle.lone_stream.proofs.turns.step.Goals as goal

pub returns-in-Ok-Chunk-clause-gave : goal.returns-in-Ok-Chunk-clause-gave
returns-in-Ok-Chunk-clause-gave g c q a given r =
    let k = rw c.in-Ok-Chunk.field-0-is at c.in-Ok-Chunk.ensures.steps in
    (gave _ _ q a _ given r c.requires.runs _ c.in-Ok-Chunk.ensures.since c.in-Ok-Chunk.load k, kind_is _ _ q a _ given r c.requires.runs _ c.in-Ok-Chunk.ensures.since c.in-Ok-Chunk.load k)

pub returns-in-Ok-Quiet-clause-gave : goal.returns-in-Ok-Quiet-clause-gave
returns-in-Ok-Quiet-clause-gave g c q a given r =
    let k = rw c.in-Ok-Quiet.field-0-is at c.in-Ok-Quiet.ensures.steps in (went_on _ _ q a _ given r c.requires.runs _ c.in-Ok-Quiet.ensures.since k, tt)

pub returns-in-Ok-Done-clause-gave : goal.returns-in-Ok-Done-clause-gave
returns-in-Ok-Done-clause-gave g c q a given r =
    let k = rw c.in-Ok-Done.field-0-is at c.in-Ok-Done.ensures.steps in (was_done _ _ q a _ given r c.requires.runs _ c.in-Ok-Done.ensures.since k, tt)

pub returns-in-Ok-Fault-clause-gave : goal.returns-in-Ok-Fault-clause-gave
returns-in-Ok-Fault-clause-gave g c q a given r =
    let k = rw c.in-Ok-Fault.field-0-is at c.in-Ok-Fault.ensures.steps in (failed _ _ q a _ given r c.requires.runs _ c.in-Ok-Fault.ensures.since _ k, tt)

pub returns-in-Err-clause-stopped : goal.returns-in-Err-clause-stopped
returns-in-Err-clause-stopped g c q a given r =
    let e = c.in-Err.ensures in
    let h = c.halt.ensures in
    wanted _ _ q a _ given r c.requires.runs _ _ e.since h.since e.wants h.halts

pub returns-in-Ok-Chunk-clause-goes_on : goal.returns-in-Ok-Chunk-clause-goes_on
returns-in-Ok-Chunk-clause-goes_on g c = let k = rw c.in-Ok-Chunk.field-0-is at c.in-Ok-Chunk.ensures.steps in k.how
