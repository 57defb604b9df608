use Rattle.par_eval.proofs.Receiving.{comes_end, kept_paired}
use Rattle.par_eval.proofs.inbox.next_end.Goals as goal

pub try_recv-requires-clause-may : goal.try_recv-requires-clause-may
try_recv-requires-clause-may g c = kept_paired g.A.May.may c.args.receiver.now c.requires.may

pub unreachable-requires : goal.unreachable-requires
unreachable-requires g c = comes_end g.A.May.may c.args.receiver.now c.args.out.now c.in-Load.field-0 c.in-Some.m c.requires.half c.in-Some.ensures.first c.in-Load.is
