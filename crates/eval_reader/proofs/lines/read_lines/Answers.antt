-- Each turn gives lines, makes an entry or a leaving, or is the last.
use Rattle.std.proofs.Common.{◌≡◌, ap, ⊎_elim}
use Rattle.chunk_core.specs.Elements.{kind_of}
use Rattle.chunk_core.specs.Elements.LoadKind.{Bytes, Lines, Rows}
use Rattle.eval_reader.proofs.Stepped.{failed, gave, kind_is, wanted, was_done, went_on}
use Rattle.eval_reader.proofs.lines.read_lines.Goals as goal

pub unreachable-requires : goal.unreachable-requires
unreachable-requires g c =
    let r = c.requires.reading in
    let k = rw c.in-Ok-Chunk.field-0-is at c.in-Ok-Chunk.ensures.steps in
    let e : kind_of c.in-Ok-Chunk.load ≡ Lines = kind_is _ _ r.0 _ r.1 r.2 c.requires.runs _ c.in-Ok-Chunk.ensures.since c.in-Ok-Chunk.load k in
    ⊎_elim (λ p. let q : kind_of c.in-Ok-Chunk.load ≡ Bytes = ap kind_of p.1 in cc) (λ p. let q : kind_of c.in-Ok-Chunk.load ≡ Rows = ap kind_of p.1 in cc) c.in-Bytes.is

pub returns-in-Lines-clause-given : goal.returns-in-Lines-clause-given
returns-in-Lines-clause-given g c a given r =
    let k = rw c.in-Ok-Chunk.field-0-is at c.in-Ok-Chunk.ensures.steps in
    let h = gave _ _ a _ given r c.requires.runs _ c.in-Ok-Chunk.ensures.since c.in-Ok-Chunk.load k in
    rw c.in-Lines.is at h

pub returns-in-Ok-Quiet-clause-given : goal.returns-in-Ok-Quiet-clause-given
returns-in-Ok-Quiet-clause-given g c a given r = went_on _ _ a _ given r c.requires.runs _ c.in-Ok-Quiet.ensures.since (rw c.in-Ok-Quiet.field-0-is at c.in-Ok-Quiet.ensures.steps)

pub returns-in-Ok-Done-clause-given : goal.returns-in-Ok-Done-clause-given
returns-in-Ok-Done-clause-given g c a given r = was_done _ _ a _ given r c.requires.runs _ c.in-Ok-Done.ensures.since (rw c.in-Ok-Done.field-0-is at c.in-Ok-Done.ensures.steps)

pub returns-in-Ok-Fault-clause-given : goal.returns-in-Ok-Fault-clause-given
returns-in-Ok-Fault-clause-given g c a given r = failed _ _ a _ given r c.requires.runs _ c.in-Ok-Fault.ensures.since _ (rw c.in-Ok-Fault.field-0-is at c.in-Ok-Fault.ensures.steps)

pub returns-in-Err-clause-stopped : goal.returns-in-Err-clause-stopped
returns-in-Err-clause-stopped g c a given r = wanted _ _ a _ given r c.requires.runs _ _ c.in-Err.ensures.since c.halt.ensures.since c.in-Err.ensures.wants c.halt.ensures.halts
