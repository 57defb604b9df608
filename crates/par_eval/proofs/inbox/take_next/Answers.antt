use Rattle.std.proofs.Common.{◌∙◌, sym}
use Rattle.par_eval.proofs.Receiving.{may_now, takes_half}
use Rattle.par_eval.proofs.inbox.take_next.Goals as goal

pub finish-requires-clause-may : goal.finish-requires-clause-may
finish-requires-clause-may g c = may_now g.A.May.may c.args.receiver.now c.requires.may

pub returns-in-Some : goal.returns-in-Some
returns-in-Some g c = takes_half g.A.May.may c.args.receiver.now c.finish.new.receiver c.in-Some.out c.args.half.now c.finish.new.half c.finish.result (sym c.take.ensures.value ∙ c.in-Some.is) c.requires.inbox c.finish.ensures
