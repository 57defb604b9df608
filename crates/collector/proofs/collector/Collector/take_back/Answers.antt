use Rattle.std.proofs.Common.{sym, subst}
use Rattle.tree_laws.specs.Visits.{HasNothingOpen}
use Rattle.collector.specs.Streams.{guest_of}
use Rattle.collector.proofs.collector.Collector.take_back.Goals as goal

pub take_in-requires-clause-rest : goal.take_in-requires-clause-rest
take_in-requires-clause-rest g c = let l = c.requires.main.6.left.leaves in subst HasNothingOpen (sym l.seat_is) l.rest

pub returns-clause-main : goal.returns-clause-main
returns-clause-main g c width n p w e main out = let l = e.left.leaves in c.take_in.ensures.main width n p (guest_of w) l.last main out l.visit l.seat_is

pub returns-clause-out : goal.returns-clause-out
returns-clause-out g c ms w gs e out = let l = e.left.leaves in c.take_in.ensures.out ms (guest_of w) gs l.last out l.visit l.seat_is
