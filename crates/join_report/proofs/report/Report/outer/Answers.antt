-- The end of the outer stream is noted.
use Rattle.std.proofs.Common.{sym, subst}
use Rattle.join_tale.specs.Steps.{outer_ended}
use Rattle.join_report.specs.Reports.{IsReport}
use Rattle.join_report.proofs.Steps.{ends_outer, notes_end}
use Rattle.join_report.proofs.report.Report.outer.Goals as goal

pub returns : goal.returns
returns c most n t i = subst (λ s. IsReport most n (outer_ended t c.args.how) s) (sym c.note.ensures) (ends_outer most n t _ i c.args.how _ (notes_end _ c.args.how))
