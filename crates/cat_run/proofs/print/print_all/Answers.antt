-- Each turn prints one piece more, makes an entry or a leaving, or is the last.
use Rattle.std.proofs.Common.{Some, ap, refl, ◌∙◌}
use Rattle.pull_turns.proofs.Kept.{goes_on}
use Rattle.pull_turns.proofs.Led.{spends_none, spends_then}
use Rattle.pull_stepper.specs.Held.{FinishesDevice}
use Rattle.pull_stepper.specs.Laws.{since_same, since_then}
use Rattle.pull_stepper.specs.Stepping.{stopped_by}
use Rattle.cat_run.proofs.Printing.{prints_start, prints_chunk, prints_quiet, prints_done, prints_fault, prints_wanting, prints_put}
use Rattle.lone_stream.proofs.Spending.{spends_all, spends_stopped}
use Rattle.cat_run.proofs.print.print_all.Goals as goal

pub turns-init : goal.turns-init
turns-init g c = record {
  fits = c.requires.fits;
  since = since_same g.V.Device.told (FinishesDevice g.V.Device.told) _;
  can = c.requires.can;
  tables = refl;
  chunk = refl;
  spends = spends_none _ _;
  prints = prints_start _ _ _ _ _ _;
}

pub turns-preserved-in-Ok : goal.turns-preserved-in-Ok
turns-preserved-in-Ok g c =
    let i = c.turns.invariant in
    let k = rw c.in-Ok-Chunk.field-0-is at c.in-Ok-Chunk.ensures.steps in
    record {
      fits = c.in-Ok-Chunk.ensures.fits;
      since = since_then g.V.Device.told (FinishesDevice g.V.Device.told) _ _ _ i.since c.in-Ok-Chunk.ensures.since;
      can = k.can tt;
      tables = k.tables ∙ i.tables;
      chunk = k.chunk ∙ i.chunk;
      spends = spends_then _ _ _ _ _ _ i.spends k.turns.spends;
      prints = prints_chunk _ _ _ _ _ _ _ _ _ _ _ i.prints _ c.in-Ok-Chunk.load (rw (i.tables, i.chunk) at k.turns) (rw i.chunk at k.sized) c.in-Ok.ensures;
    }

pub turns-preserved : goal.turns-preserved
turns-preserved g c =
    let i = c.turns.invariant in
    let k = rw c.in-Ok-Quiet.field-0-is at c.in-Ok-Quiet.ensures.steps in
    record {
      fits = c.in-Ok-Quiet.ensures.fits;
      since = since_then g.V.Device.told (FinishesDevice g.V.Device.told) _ _ _ i.since c.in-Ok-Quiet.ensures.since;
      can = k.can tt;
      tables = k.tables ∙ i.tables;
      chunk = k.chunk ∙ i.chunk;
      spends = spends_then _ _ _ _ _ _ i.spends k.turns.spends;
      prints = prints_quiet _ _ _ _ _ _ _ _ _ _ _ i.prints (rw (i.tables, i.chunk) at k.turns) (rw i.chunk at k.sized);
    }

pub turns-smaller : goal.turns-smaller
turns-smaller g c = (rw c.in-Ok-Quiet.field-0-is at c.in-Ok-Quiet.ensures.work).falls tt

pub turns-smaller-in-Ok : goal.turns-smaller-in-Ok
turns-smaller-in-Ok g c = (rw c.in-Ok-Chunk.field-0-is at c.in-Ok-Chunk.ensures.work).falls tt

pub returns-in-Err-print_load-clause-prints : goal.returns-in-Err-print_load-clause-prints
returns-in-Err-print_load-clause-prints g c =
    let i = c.turns.invariant in
    let k = rw c.in-Ok-Chunk.field-0-is at c.in-Ok-Chunk.ensures.steps in
    let h = c.stop.ensures.halts.how ∙ ap (λ b. Some (stopped_by b)) (k.can tt).memory in
    rw (c.stop.ensures.cause, h) (prints_put _ _ _ _ _ _ _ _ _ _ _ i.prints _ c.stop.ensures.halts.tells _ c.in-Ok-Chunk.load c.in-Err-print_load.cause (rw (i.tables, i.chunk) at k.turns) (rw i.chunk at k.sized) c.in-Err-print_load.ensures)

pub returns-in-Err-print_load-clause-goes : goal.returns-in-Err-print_load-clause-goes
returns-in-Err-print_load-clause-goes g c p =
    let k = rw c.in-Ok-Chunk.field-0-is at c.in-Ok-Chunk.ensures.steps in
    goes_on _ _ _ (goes_on _ _ _ (c.turns.invariant.prints.led.tells.goes p) (k.turns.tells.goes p)) (c.stop.ensures.halts.tells.goes p)

pub returns-in-Err-print_load-clause-spends : goal.returns-in-Err-print_load-clause-spends
returns-in-Err-print_load-clause-spends g c =
    let k = rw c.in-Ok-Chunk.field-0-is at c.in-Ok-Chunk.ensures.steps in
    spends_stopped _ _ _ _ (spends_all _ _ _ _ (spends_then _ _ _ _ _ _ c.turns.invariant.spends k.turns.spends)) c.stop.ensures.halts.affords

pub returns-in-Err-print_load-clause-since : goal.returns-in-Err-print_load-clause-since
returns-in-Err-print_load-clause-since g c =
    since_then g.V.Device.told (FinishesDevice g.V.Device.told) _ _ _ (since_then g.V.Device.told (FinishesDevice g.V.Device.told) _ _ _ c.turns.invariant.since c.in-Ok-Chunk.ensures.since) c.stop.ensures.since

pub returns-in-Ok-Done-clause-prints : goal.returns-in-Ok-Done-clause-prints
returns-in-Ok-Done-clause-prints g c =
    let i = c.turns.invariant in
    let k = rw c.in-Ok-Done.field-0-is at c.in-Ok-Done.ensures.steps in
    rw k.how (prints_done _ _ _ _ _ _ _ _ _ _ _ i.prints (rw (i.tables, i.chunk) at k.turns))

pub returns-in-Ok-Done-clause-goes : goal.returns-in-Ok-Done-clause-goes
returns-in-Ok-Done-clause-goes g c p = let k = rw c.in-Ok-Done.field-0-is at c.in-Ok-Done.ensures.steps in goes_on _ _ _ (c.turns.invariant.prints.led.tells.goes p) (k.turns.tells.goes p)

pub returns-in-Ok-Done-clause-spends : goal.returns-in-Ok-Done-clause-spends
returns-in-Ok-Done-clause-spends g c =
    let k = rw c.in-Ok-Done.field-0-is at c.in-Ok-Done.ensures.steps in spends_all _ _ _ _ (spends_then _ _ _ _ _ _ c.turns.invariant.spends k.turns.spends)

pub returns-in-Ok-Done-clause-since : goal.returns-in-Ok-Done-clause-since
returns-in-Ok-Done-clause-since g c = since_then g.V.Device.told (FinishesDevice g.V.Device.told) _ _ _ c.turns.invariant.since c.in-Ok-Done.ensures.since

pub returns-in-Ok-Fault-clause-prints : goal.returns-in-Ok-Fault-clause-prints
returns-in-Ok-Fault-clause-prints g c =
    let i = c.turns.invariant in
    let k = rw c.in-Ok-Fault.field-0-is at c.in-Ok-Fault.ensures.steps in
    rw k.how (prints_fault _ _ _ _ _ _ _ _ _ _ _ i.prints _ (rw (i.tables, i.chunk) at k.turns))

pub returns-in-Ok-Fault-clause-goes : goal.returns-in-Ok-Fault-clause-goes
returns-in-Ok-Fault-clause-goes g c p = let k = rw c.in-Ok-Fault.field-0-is at c.in-Ok-Fault.ensures.steps in goes_on _ _ _ (c.turns.invariant.prints.led.tells.goes p) (k.turns.tells.goes p)

pub returns-in-Ok-Fault-clause-spends : goal.returns-in-Ok-Fault-clause-spends
returns-in-Ok-Fault-clause-spends g c =
    let k = rw c.in-Ok-Fault.field-0-is at c.in-Ok-Fault.ensures.steps in spends_all _ _ _ _ (spends_then _ _ _ _ _ _ c.turns.invariant.spends k.turns.spends)

pub returns-in-Ok-Fault-clause-since : goal.returns-in-Ok-Fault-clause-since
returns-in-Ok-Fault-clause-since g c = since_then g.V.Device.told (FinishesDevice g.V.Device.told) _ _ _ c.turns.invariant.since c.in-Ok-Fault.ensures.since

pub returns-in-Err-clause-prints : goal.returns-in-Err-clause-prints
returns-in-Err-clause-prints g c =
    let i = c.turns.invariant in
    let w = c.in-Err.ensures.wants in
    let h = c.stop-in-Err.ensures.halts.how ∙ ap (λ b. Some (stopped_by b)) w.memory in
    rw (c.stop-in-Err.ensures.cause, h) (prints_wanting _ _ _ _ _ _ _ _ _ i.prints _ _ w.tells (rw i.tables at w.cut) c.stop-in-Err.ensures.halts.tells)

pub returns-in-Err-clause-goes : goal.returns-in-Err-clause-goes
returns-in-Err-clause-goes g c p = goes_on _ _ _ (goes_on _ _ _ (c.turns.invariant.prints.led.tells.goes p) (c.in-Err.ensures.wants.tells.goes p)) (c.stop-in-Err.ensures.halts.tells.goes p)

pub returns-in-Err-clause-spends : goal.returns-in-Err-clause-spends
returns-in-Err-clause-spends g c = spends_stopped _ _ _ _ (spends_then _ _ _ _ _ _ c.turns.invariant.spends c.in-Err.ensures.wants.spends) c.stop-in-Err.ensures.halts.affords

pub returns-in-Err-clause-since : goal.returns-in-Err-clause-since
returns-in-Err-clause-since g c =
    since_then g.V.Device.told (FinishesDevice g.V.Device.told) _ _ _ (since_then g.V.Device.told (FinishesDevice g.V.Device.told) _ _ _ c.turns.invariant.since c.in-Err.ensures.since) c.stop-in-Err.ensures.since
