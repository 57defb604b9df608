use Rattle.par_eval.proofs.Receiving.{comes_load, kept_paired}
use Rattle.par_eval.proofs.inbox.next_load.Goals as goal

pub try_recv-requires-clause-may : goal.try_recv-requires-clause-may
try_recv-requires-clause-may g c = kept_paired g.A.May.may c.args.receiver.now c.requires.may

pub unreachable-requires : goal.unreachable-requires
unreachable-requires g c = comes_load g.A.May.may c.args.receiver.now c.in-Some.m c.in-End.field-0 c.requires.whole c.in-Some.ensures.first c.in-End.is
