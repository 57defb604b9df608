use Rattle.par_eval.proofs.Receiving.{gets_load, may_now, may_then, takes_both}
use Rattle.channel_bounded.specs.declared.message.Body.TheVariants.{Load}
use Rattle.par_eval.proofs.inbox.begin.Goals as goal

pub next_load-requires-clause-may : goal.next_load-requires-clause-may
next_load-requires-clause-may g c = may_now g.A.May.may c.args.receiver.now c.requires.may

pub finish-requires-clause-half : goal.finish-requires-clause-half
finish-requires-clause-half g c = gets_load c.args.receiver.now c.next_load.new.receiver c.in-Some.out c.requires.whole c.in-Some.ensures.some

pub finish-requires-clause-may : goal.finish-requires-clause-may
finish-requires-clause-may g c = may_then g.A.May.may c.args.receiver.now c.next_load.new.receiver (Load c.in-Some.out) c.in-Some.ensures.some c.requires.may

pub returns-in-Some : goal.returns-in-Some
returns-in-Some g c = takes_both g.A.May.may c.args.receiver.now c.next_load.new.receiver c.finish.new.receiver c.in-Some.out c.finish.new.half c.finish.result c.requires.whole c.in-Some.ensures.some c.finish.ensures
