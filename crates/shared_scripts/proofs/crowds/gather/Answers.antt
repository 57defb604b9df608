use Rattle.std.proofs.Common.{sym, ◌∙◌, subst, arith}
use Rattle.row_shared.specs.Seats.{shown}
use Rattle.shared_scripts.specs.Crowds.{IsGathered}
use Rattle.shared_scripts.proofs.Hosts.{gathers, may_gather}
use Rattle.shared_scripts.proofs.crowds.gather.Goals as goal

pub join-requires-clause-can : goal.join-requires-clause-can
join-requires-clause-can c = let h = c.requires.host in may_gather (shown c.args.host.seat) (shown c.args.own) h.0 c.args.stream h.1 c.requires.own

pub returns-clause-host : goal.returns-clause-host
returns-clause-host c = λ out h not. subst (λ v. IsGathered v out) (sym c.join.ensures.view) (gathers (shown c.args.host.seat) (shown c.args.own) out c.args.stream h c.requires.own not c.join.ensures.apart)

pub returns-clause-earlier : goal.returns-clause-earlier
returns-clause-earlier c = λ s ne early f. c.join.ensures.others s (λ q. ne (q ∙ c.requires.host.1.by)) (λ q. early c.args.stream (omega arith) (q ∙ c.requires.own.by)) f
