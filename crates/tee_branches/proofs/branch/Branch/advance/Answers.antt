-- It is halted, or a step was made.
use Rattle.std.proofs.Common.{Some, refl, sym, ap, ◌∙◌, subst}
use Rattle.topic_hub.specs.Subscribers.{received}
use Rattle.tee_branches.specs.Stands.{Stands}
use Rattle.tee_branches.proofs.Branching.{branch_halts, branch_steps, may_step}
use Rattle.tee_branches.proofs.branch.Branch.advance.Goals as goal

pub step-stage-requires-clause-can : goal.step-stage-requires-clause-can
step-stage-requires-clause-can g c =
    may_step g.F.Feed.stands g.F.Feed.comes c.requires.branch.0 c.args.self.now c.requires.branch.1 c.replace-stage.result c.replace-stage.ensures.value (λ e o. c.requires.open (record { how = e; ended = o; sent = c.requires.none }))

pub returns-in-Some-clause-branch : goal.returns-in-Some-clause-branch
returns-in-Some-clause-branch g c = λ m h.
    branch_halts g.F.Feed.stands g.F.Feed.comes m c.args.self.now _ h c.requires.none c.look-stop.ensures.look refl refl (λ e o. c.requires.open (record { how = e; ended = o; sent = c.requires.none }))
    c.in-Some.field-0 (sym c.look-stop.ensures.answer ∙ c.in-Some.is) refl c.replace-stage.ensures.after (ap Some c.end_of.ensures)

pub returns-in-None-clause-branch : goal.returns-in-None-clause-branch
returns-in-None-clause-branch g c = λ m h.
    let a = c.args.self.now in
    branch_steps g.F.Feed.stands g.F.Feed.comes m a _ h c.requires.none c.look-stop.ensures.look refl refl c.step-stage.result.stage c.step-stage.result.message refl refl c.step-stage.ensures.source c.step-stage.ensures.message
    (λ n v l x. c.step-stage.ensures.stands n v l (subst (λ t. Stands g.F.Feed.stands g.F.Feed.comes a.number n v t (received a.source) l) (sym c.replace-stage.ensures.value) x))
