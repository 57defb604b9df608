-- A turn that gave a load, one that gave none, and one for which memory was wanting.
use Rattle.chunk_core.specs.Elements.{Bytes}
use Rattle.tee_run.proofs.Reading.{itself_unhalted, memory_unhalted, teeing_quiet}
use Rattle.tee_run.proofs.read.read_one.Goals as goal

pub step-requires-clause-stepped : goal.step-requires-clause-stepped
step-requires-clause-stepped g c = let q = c.requires.teeing in (Bytes, q.0, q.3.given, q.3.stepped)

pub give_load-requires-clause-bytes : goal.give_load-requires-clause-bytes
give_load-requires-clause-bytes g c = let q = c.requires.teeing in let gave = rw c.in-Ok-Some.field-0-is at c.in-Ok-Some.ensures.gave in (gave Bytes q.0 q.3.given q.3.stepped).1

pub give_load-requires-clause-giving : goal.give_load-requires-clause-giving
give_load-requires-clause-giving g c = let q = c.requires.teeing in let gave = rw c.in-Ok-Some.field-0-is at c.in-Ok-Some.ensures.gave in (q.0, q.1, q.2, q.3.given, (gave Bytes q.0 q.3.given q.3.stepped).0, q.3.pumping)

pub returns-in-Ok-Some-clause-gives : goal.returns-in-Ok-Some-clause-gives
returns-in-Ok-Some-clause-gives g c = λ a ms start t. let gave = rw c.in-Ok-Some.field-0-is at c.in-Ok-Some.ensures.gave in c.give_load.ensures.gives a ms start t.given (gave Bytes a t.given t.stepped).0 t.pumping

pub returns-in-Ok-None-clause-gives : goal.returns-in-Ok-None-clause-gives
returns-in-Ok-None-clause-gives g c = λ a ms start t.
    let gave = rw c.in-Ok-None.field-0-is at c.in-Ok-None.ensures.gave in teeing_quiet _ _ _ _ _ _ _ a _ _ _ _ t (gave Bytes a t.given t.stepped).0 (itself_unhalted _ c.in-Ok-None.ensures.itself)

pub returns-in-Err-clause-gives : goal.returns-in-Err-clause-gives
returns-in-Err-clause-gives g c = λ a ms start t. record {
  given = t.given;
  stepped = c.in-Err.ensures.stopped Bytes a t.given t.stepped;
  pumping = t.pumping;
  halted = λ e. absurd (memory_unhalted _ c.in-Err.ensures.memory e);
}
