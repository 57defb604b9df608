use Rattle.std.proofs.Common.{◌∙◌, ap}
use Rattle.pull_nodes.specs.Filter.{contains}
use Rattle.stream_ops.proofs.Matches.{found_is}
use Rattle.stream_ops.proofs.filter.is_match.Goals as goal

pub returns : goal.returns
returns c =
    c.is_some.ensures ∙ (found_is c.args.finder.now c.as_slice.result.now c.find.result c.find.ensures ∙ ap (contains c.args.finder.now) c.as_slice.ensures)
