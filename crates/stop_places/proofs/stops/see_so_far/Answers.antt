use Rattle.std.proofs.Common.{◌∙◌, subst}
use Rattle.row_seat.specs.Views.{OthersFit}
use Rattle.row_seat.specs.declared.view.View.{View}
use Rattle.stop_places.proofs.stops.see_so_far.Goals as goal

pub looks-preserved : goal.looks-preserved
looks-preserved g c =
    let i = c.looks.invariant in let e = c.mark-front.ensures in
    let own = subst (λ (v : View _). OthersFit g.S.RowSeat.view g.S.RowSeat.fits v.by c.looks.desk c.mark-front.new.desk) i.view e.others in
    record { view = e.view ∙ i.view; fits = e.fits; others = λ o n f. own o n (i.others o n f) }
