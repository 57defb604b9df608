-- The stream is the next one.
use Rattle.std.proofs.Common.{true, sym, ◌∙◌, ap, subst}
use Rattle.chunk_core.specs.declared.code.How.TheVariants as how
use Rattle.join_tale.specs.Steps.{unmade}
use Rattle.join_report.specs.Accounts.{AccountsSeen, telling}
use Rattle.join_report.specs.Reports.{IsReport}
use Rattle.join_report.proofs.Steps.{misses}
use Rattle.join_report.proofs.report.Report.miss.Goals as goal

pub returns : goal.returns
returns c most n t i e =
    subst (λ (a : AccountsSeen). IsReport most n (unmade t) (record c.args.self.now { streams = a; ceased = true; memory = true }))
    (ap (λ k. telling c.args.self.now.streams k how.Memory) e ∙ sym c.tell.ensures)
    (misses most n t c.args.self.now i)
