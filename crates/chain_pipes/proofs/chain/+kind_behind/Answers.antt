use Rattle.std.proofs.Common.{◌≡◌, ◌∷◌, Some, rules, subst, sym, ◌∙◌}
use Rattle.pipeline_desc.specs.declared.step.Step.TheVariants as step
use Rattle.pull_nodes.specs.PipeKinds.{stream_kind}
use Rattle.chain_pipes.specs.Links.{KindsFit}
use Rattle.chain_pipes.proofs.Begun.{left_pipe}
use Rattle.chain_pipes.proofs.chain.+kind_behind.Goals as goal

pub returns-in-Ok : goal.returns-in-Ok
returns-in-Ok t c j k fits =
    let d = c.in-Some-Pipe-default in
    let whole : c.args.steps.now ≡ step.Pipe d.pipe ∷ d.others.now = search (rules, d.ensures.cases.0, d.is, d.field-0-0-is) in
    let l = left_pipe d.pipe d.others.now c.args.kind j k (subst (λ ss. KindsFit ss c.args.kind j k) whole fits) in
    let next : c.in-Ok.next ≡ stream_kind l.0 = let a : Some c.in-Ok.next ≡ Some (stream_kind l.0) = c.in-Ok.ensures ∙ l.1 in cc in
    c.kind_behind.ensures l.0 k (next, l.2)

pub returns-in-Some-Take-default : goal.returns-in-Some-Take-default
returns-in-Some-Take-default t c j k fits =
    let d = c.in-Some-Take-default in
    let whole : c.args.steps.now ≡ step.Take d.field-0-0-0 ∷ d.others.now = search (rules, d.ensures.cases.0, d.is, d.field-0-0-is) in
    c.kind_behind-in-Some-Take-default.ensures j k (subst (λ ss. KindsFit ss c.args.kind j k) whole fits)
