use Rattle.std.proofs.Common.{◌∙◌, subst}
use Rattle.row_seat.specs.Views.{OthersFit}
use Rattle.pull_stepper.specs.Stepping.{Stepping}
use Rattle.stream_jobs.proofs.stepping.see_so_far.Goals as goal

pub looks-preserved : goal.looks-preserved
looks-preserved g c =
    let i = c.looks.invariant in let e = c.mark-front.ensures in
    let own = subst (λ (s : Stepping _ _). OthersFit g.S.RowSeat.view g.S.RowSeat.fits s.site.tree.seat.by c.looks.desk c.mark-front.new.desk) i.same e.others in
    record { same = e.same ∙ i.same; fits = e.fits; others = λ o n f. own o n (i.others o n f) }
