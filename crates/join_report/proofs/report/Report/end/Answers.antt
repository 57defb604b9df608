-- How the stream is told, and then what is noted of its end.
use Rattle.std.proofs.Common.{sym, ap, ◌∙◌, subst}
use Rattle.chunk_core.specs.declared.code.How.{How}
use Rattle.join_report.specs.Accounts.{AccountsSeen, telling}
use Rattle.join_report.specs.Calls.{after_end, with_end}
use Rattle.join_report.specs.Reports.{IsReport}
use Rattle.join_report.specs.declared.report.Report.{Report}
use Rattle.join_report.proofs.Steps.{ends_stream}
use Rattle.join_report.proofs.report.Report.end.Goals as goal

pub returns : goal.returns
returns c most n t i o =
    let told = c.tell.ensures ∙ ap (λ (h : How). telling c.args.self.now.streams c.args.stream h) c.told-told.ensures in
    let same = c.note.ensures ∙ ap (λ (a : AccountsSeen). with_end (record c.args.self.now { streams = a }) c.args.how) told in
    subst (λ (r : Report). IsReport most n (after_end t c.args.stream c.args.how) r) (sym same) (ends_stream most n t c.args.self.now i c.args.stream o c.args.how)
