use Rattle.std.proofs.Common.{◌≡◌, false, ap, ◌∙◌}
use Rattle.row_seat.specs.declared.view.View.{View}
use Rattle.shared_scripts.proofs.apart.note_apart.Goals as goal

-- the handle of its own fits the seat before, and so the seat behind fits it as it was, and the desk
pub returns-clause-fits : goal.returns-clause-fits
returns-clause-fits g c =
    let s = c.args.seat.now in let o = c.note_scopes.new.seat in
    let own = c.in_ok-own.ensures s c.requires.fits in
    let side : (g.S.RowSeat.view o).main ≡ false = ap (λ (v : View _). v.main) c.note_scopes.ensures.view.1 ∙ c.requires.side in
    let there = g.met.S.SharesDesk.stays s o (g.S.RowSeat.view s).by c.in_ok-own.own c.note_scopes.new.desk own c.note_scopes.ensures.others side c.note_scopes.ensures.fits in
    g.met.S.SharesDesk.agree s o c.args.desk.now c.in_ok-own.own c.requires.fits own there side
