-- The crew is new, and has a hand for each lane.
use Rattle.std.proofs.Common.{sym}
use Rattle.eval_run.proofs.lent.run_lent.Goals as goal

pub begin-crew-requires-clause-team : goal.begin-crew-requires-clause-team
begin-crew-requires-clause-team g c κs within = let s = c.requires.staff in (c.args.jobs, s.team, s.some)

pub begin-crew-requires-clause-new : goal.begin-crew-requires-clause-new
begin-crew-requires-clause-new g c κs within = let s = c.requires.staff in (s.out, s.ended)

pub pump-stop-requires-clause-some : goal.pump-stop-requires-clause-some
pump-stop-requires-clause-some g c = let s = c.requires.staff in (s.some, sym s.team.count)
