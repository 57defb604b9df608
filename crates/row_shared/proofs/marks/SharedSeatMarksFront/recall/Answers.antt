use Rattle.std.proofs.Common.{ap, ◌∙◌}
use Rattle.row_seat.specs.Rule.{view_of}
use Rattle.row_shared.specs.Places.{Seated}
use Rattle.row_shared.proofs.Sitting.{fits_put}
use Rattle.row_shared.proofs.marks.SharedSeatMarksFront.recall.Goals as goal

pub returns-clause-view : goal.returns-clause-view
returns-clause-view g c = ap (λ (m : Seated g.row.P.Denot). view_of m.0.token c.args.self.now.hands.items) c.recall.ensures.seat

pub returns-clause-fits : goal.returns-clause-fits
returns-clause-fits g c = let s = c.args.self.now in let h = c.requires.fits in
    fits_put c.args.desk.now s.pass.me.0.token (c.recall.ensures.table ∙ h.table.0, h.table.1, h.table.2) c.recall.ensures.seat h.calm.1 h.by h.first h.inside h.itself h.held h.noted h.whole h.hold h.pages h.leaves
