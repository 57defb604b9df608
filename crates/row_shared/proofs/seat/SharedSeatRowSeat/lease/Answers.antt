use Rattle.std.proofs.Common.{◌<◌, sym, ◌∙◌, subst}
use Rattle.row_seat.specs.Rule.{IsInside}
use Rattle.row_seat.specs.Steps.{leased}
use Rattle.row_shared.proofs.Calls.{in_hand}
use Rattle.row_shared.proofs.Itself.{leased_itself}
use Rattle.row_shared.proofs.Sitting.{fits_put}
use Rattle.row_shared.proofs.seat.SharedSeatRowSeat.lease.Goals as goal

pub lease-requires-clause-inside : goal.lease-requires-clause-inside
lease-requires-clause-inside g c = let h = c.requires.fits in subst (λ a. c.args.row < a.shared.table_id.slots) (sym c.deref.ensures) (h.inside.opened c.args.row (in_hand c.args.desk.now h c.args.row c.requires.row.1))

pub lease-requires-clause-row : goal.lease-requires-clause-row
lease-requires-clause-row g c = let r = c.requires.row in (in_hand c.args.desk.now c.requires.fits c.args.row r.1, r.2)

pub returns-clause-fits : goal.returns-clause-fits
returns-clause-fits g c = let s = c.args.self.now in let h = c.requires.fits in let t = s.pass.me.0.token in let w = leased t c.args.stream c.args.row in let told = c.lease.ensures.told in
    fits_put c.args.desk.now w (c.lease.ensures.table ∙ h.table.0, h.table.1, h.table.2) told.0 h.calm.1 h.by h.first (subst (λ a. IsInside a.shared.table_id.slots w) c.deref.ensures told.1) (leased_itself t h.itself c.args.stream c.args.row)
    h.held h.noted h.whole h.hold h.pages h.leaves
