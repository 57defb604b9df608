-- The reader was begun in its room, or couldn't be.
use Rattle.std.proofs.Common.{◌≡◌, ◌∷◌, [], arith, rules}
use Rattle.std.proofs.lemmas.Grind.{common_steps}
use Rattle.res_ledger.specs.declared.event.StreamNo.TheVariants.{Outer}
use Rattle.tee_run.proofs.tee.run_ready.Goals as goal

pub begin-requires-clause-room : goal.begin-requires-clause-room
begin-requires-clause-room g c = (Outer, c.requires.ready.room)

pub run_begun-requires-clause-begun : goal.run_begun-requires-clause-begun
run_begun-requires-clause-begun g c κs within = (c.args.ready.node, _, c.args.chunk, c.requires.ready.node, c.in-Ok.ensures.begun Outer c.requires.ready.room)

pub run_unbegun-requires-clause-memory : goal.run_unbegun-requires-clause-memory
run_unbegun-requires-clause-memory g c = (c.in-Err.ensures.unbegun Outer c.requires.ready.room).0

pub returns-in-Ok : goal.returns-in-Ok
returns-in-Ok g c =
    let same : c.of_vec-devices.result ≡ c.args.device ∷ [] = first_of (search rules, grind (arith, common_steps)) in
    rw same at (c.run_begun.ensures c.args.ready.node _ c.args.chunk c.requires.ready.node (c.in-Ok.ensures.begun Outer c.requires.ready.room))

pub returns-in-Err : goal.returns-in-Err
returns-in-Err g c =
    let same : c.of_vec-devices.result ≡ c.args.device ∷ [] = first_of (search rules, grind (arith, common_steps)) in
    rw same at (c.run_unbegun.ensures c.args.ready.node _ (g.K.Sink.told c.args.out.now) (c.in-Err.ensures.unbegun Outer c.requires.ready.room).1)
