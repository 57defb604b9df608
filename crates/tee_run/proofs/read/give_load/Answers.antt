-- The branches took the load, or memory for it was wanting.
use Rattle.std.proofs.Common.{refl, ◌++◌}
use Rattle.chunk_core.specs.Elements.{Bytes, elements}
use Rattle.tee_run.proofs.Reading.{halted_now}
use Rattle.tee_run.proofs.read.give_load.Goals as goal

pub give-requires-clause-pumping : goal.give-requires-clause-pumping
give-requires-clause-pumping g c = let q = c.requires.giving in (q.1, q.2, q.3, q.5)

pub obey-requires-clause-stepped : goal.obey-requires-clause-stepped
obey-requires-clause-stepped g c = let q = c.requires.giving in (q.0, q.3 ++ elements c.args.load.now, q.4)

pub returns-in-Ok-clause-gives : goal.returns-in-Ok-clause-gives
returns-in-Ok-clause-gives g c = λ a ms start given s p. record {
  given = given ++ elements c.args.load.now;
  stepped = c.obey.ensures.stepped a (given ++ elements c.args.load.now) s;
  pumping = c.in-Ok.ensures.ok ms start given p;
  halted = c.obey.ensures.halted;
}

pub stop-requires-clause-stepped : goal.stop-requires-clause-stepped
stop-requires-clause-stepped g c = let q = c.requires.giving in (Bytes, q.0, q.3 ++ elements c.args.load.now, q.4)

pub returns-in-Err-clause-gives : goal.returns-in-Err-clause-gives
returns-in-Err-clause-gives g c = λ a ms start given s p. record {
  given = given ++ elements c.args.load.now;
  taken = given;
  front = (elements c.args.load.now, refl);
  ended = halted_now _ _ c.requires.runs c.stop.ensures.how;
  stepped = c.stop.ensures.stepped Bytes a (given ++ elements c.args.load.now) s;
  pumping = c.in-Err.ensures.err ms start given p;
}
