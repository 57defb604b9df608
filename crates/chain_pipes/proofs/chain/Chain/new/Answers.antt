use Rattle.std.proofs.Common.{◌≡◌, ◌∙◌, Some, ap, refl, subst, sym}
use Rattle.chunk_core.specs.Elements.LoadKind.{Bytes}
use Rattle.any_pipe.specs.AnyState as any
use Rattle.pull_nodes.specs.PipeRule.{without_fault}
use Rattle.step_words.specs.Words.{kind_behind}
use Rattle.chain_pipes.specs.Links.{AreFresh}
use Rattle.chain_pipes.proofs.Begun.{fresh_stand, given_nil, some_kind}
use Rattle.chain_pipes.proofs.chain.Chain.new.Goals as goal

pub kind_behind-gives-requires : goal.kind_behind-gives-requires
kind_behind-gives-requires c =
    let k = some_kind (kind_behind c.args.steps.now Bytes) c.requires.kinds in (Bytes, k.0, (refl, ap (λ l. kind_behind l Bytes) c.as_slice-items.ensures ∙ k.1))

pub returns : goal.returns
returns c m is =
    let same = c.as_slice-items.ensures in
    let behind : kind_behind c.as_slice-items.result.now Bytes ≡ Some m.gives = ap (λ l. kind_behind l Bytes) same ∙ is.0 in
    let fresh : AreFresh any.StandsFor c.in_ok-links.links c.args.steps.now = subst (λ l. AreFresh any.StandsFor c.in_ok-links.links l) same c.in_ok-links.ensures in
    (c.args.steps.now, is, c.kind_behind-gives.ensures Bytes m.gives (refl, behind), (fresh_stand any.StandsFor c.in_ok-links.links c.args.steps.now Bytes m.gives fresh is.0, ap without_fault (sym (given_nil c.args.steps.now))))
