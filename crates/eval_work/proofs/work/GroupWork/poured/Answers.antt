-- What came of the chain is what the steps give of the text.
use Rattle.std.proofs.Common.{ap, ◌∙◌}
use Rattle.std.proofs.lemmas.Result.{IfOk-weaker}
use Rattle.chunk_core.specs.Elements.{elements, rendering_of}
use Rattle.eval_rules.specs.Answers.{group_over, how_of}
use Rattle.eval_work.proofs.Poured.{group_end, group_text, may_pour}
use Rattle.eval_work.proofs.work.GroupWork.poured.Goals as goal

pub pour_text-requires : goal.pour_text-requires
pour_text-requires c = may_pour c.self.inside.steps c.in_ok-chain.chain c.self.invariant.kinds c.in_ok-chain.ensures

pub returns-clause-text : goal.returns-clause-text
returns-clause-text c =
    IfOk-weaker c.pour_text.result _ _
    (λ p h.
    group_text c.self.inside.steps c.in_ok-chain.chain c.self.invariant.kinds c.in_ok-chain.ensures (elements c.args.load) c.in_ok-bytes.bytes c.in_ok-bytes.ensures p.text.items p.fault h
    ∙ ap (λ ss. rendering_of (group_over ss (elements c.args.load)).list) c.self.view_is)
    c.pour_text.ensures

pub returns-clause-end : goal.returns-clause-end
returns-clause-end c =
    IfOk-weaker c.pour_text.result _ _
    (λ p h.
    group_end c.self.inside.steps c.in_ok-chain.chain c.self.invariant.kinds c.in_ok-chain.ensures (elements c.args.load) c.in_ok-bytes.bytes c.in_ok-bytes.ensures p.text.items p.fault h
    ∙ ap (λ ss. how_of (group_over ss (elements c.args.load)).end) c.self.view_is)
    c.pour_text.ensures
