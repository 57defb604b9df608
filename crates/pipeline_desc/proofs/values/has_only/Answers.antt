use Rattle.std.proofs.Common.{◌∙◌}
use Rattle.pipeline_desc.proofs.Seen.{keys_known}
use Rattle.pipeline_desc.proofs.values.has_only.Goals as goal

pub returns : goal.returns
returns c = c.keys_are_known.ensures ∙ keys_known c.args.names.now c.args.table.now.entries
