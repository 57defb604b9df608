use Rattle.std.proofs.Common.{◌∙◌}
use Rattle.row_seat.specs.Steps.{took}
use Rattle.row_shared.proofs.Itself.{took_itself}
use Rattle.row_shared.proofs.Sitting.{fits_put}
use Rattle.row_shared.proofs.seat.SharedSeatRowSeat.take.Goals as goal

pub returns-clause-fits : goal.returns-clause-fits
returns-clause-fits g c = let s = c.args.self.now in let h = c.requires.fits in let t = s.pass.me.0.token in let w = took t c.args.row in let told = c.take.ensures.told in
    fits_put c.args.desk.now w (c.take.ensures.table ∙ h.table.0, h.table.1, h.table.2) told.0 h.calm.1 h.by h.first (record { empty = h.inside.empty; opened = h.inside.opened; pairs = h.inside.pairs; handed = h.inside.handed; few = h.inside.few }) (took_itself t h.itself c.args.row)
    h.held h.noted h.whole h.hold h.pages h.leaves
