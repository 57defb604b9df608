use Rattle.std.proofs.Common.{refl}
use Rattle.headline_laws.specs.Listed.{line_before_read, line_forgotten, other_group_run}
use Rattle.headline_laws.proofs.Asked.{refuses_run}
use Rattle.headline_laws.proofs.Mislisting.{line_before_refused, line_forgotten_refused, other_group_run_refused}
use Rattle.headline_laws.proofs.refused.wrong_lists_and_groups.Goals as goal

pub returns : goal.returns
returns c = record { is_line_before_read = refuses_run line_before_read refl line_before_refused; is_line_forgotten = refuses_run line_forgotten refl line_forgotten_refused; is_other_group_run = refuses_run other_group_run refl other_group_run_refused }
