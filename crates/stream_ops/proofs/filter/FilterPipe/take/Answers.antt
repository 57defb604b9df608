use Rattle.std.proofs.Common.{◌∙◌, ap, filter, rules}
use Rattle.std.proofs.lemmas.Fn.{filter_same}
use Rattle.pull_nodes.specs.Filter.{contains}
use Rattle.stream_ops.proofs.filter.FilterPipe.take.Goals as goal

pub returns-in-Ok-clause-kept : goal.returns-in-Ok-clause-kept
returns-in-Ok-clause-kept c =
    let test = contains c.args.self.now.finder.value in
    filter_same _ test _ (λ x b f' t. search rules) _ _ c.retain.ensures.filtered ∙ ap (filter test) c.in-Ok.ensures.ok
