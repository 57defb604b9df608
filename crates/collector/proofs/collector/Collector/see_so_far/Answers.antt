-- A mark leaves the tree as it was.
use Rattle.std.proofs.Common.{◌≡◌, ◌∙◌, sym, ap, subst}
use Rattle.row_seat.specs.Fronts.{sight_of}
use Rattle.row_seat.specs.Views.{OthersFit}
use Rattle.scope_tree.specs.Calls.{Seen}
use Rattle.collector.specs.declared.collector.Collector.{Collector}
use Rattle.collector.proofs.collector.Collector.see_so_far.Goals as goal

pub looks-preserved : goal.looks-preserved
looks-preserved g c =
    let i = c.looks.invariant in let e = c.mark-front.ensures in
    let own = subst (λ (x : Seen _). OthersFit g.S.RowSeat.view g.S.RowSeat.fits x.seat.by c.looks.desk c.mark-front.new.desk) i.seen_is e.others in
    record { seen_is = e.seen ∙ i.seen_is; same = ap (λ (x : Collector _ _ _ _ _). record x { tree = c.mark-front.new.self }) i.same; fits = e.fits; others = λ o n f. own o n (i.others o n f) }
