use Rattle.std.proofs.Common.{◌≡◌, List}
use Rattle.res_ledger.specs.declared.event.Event.{Event}
use Rattle.row_seat.specs.Views.{OthersFit}
use Rattle.shared_scripts.specs.Scopes.{HasScopes, after_scopes}
use Rattle.shared_scripts.proofs.notes.note_scopes.Given as goal

abbrev pub invariant-loop-i : goal.invariant-loop-i
invariant-loop-i g l =
    g.S.RowSeat.fits l.seat l.desk
    × ((E : List Event) × (g.S.RowSeat.view l.seat ≡ after_scopes (g.S.RowSeat.view l.initial.seat) E l.i) × HasScopes E (g.S.RowSeat.view l.initial.seat).by l.i)
    × OthersFit g.S.RowSeat.view g.S.RowSeat.fits (g.S.RowSeat.view l.initial.seat).by l.initial.desk l.desk
