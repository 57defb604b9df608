use Rattle.std.proofs.Common.{sym, subst}
use Rattle.row_seat.specs.declared.view.Left.TheVariants.{Yours}
use Rattle.row_seat.specs.Views.{CanClose, ClosesRow}
use Rattle.shared_scripts.proofs.Racing.{can_close, yours_takes}
use Rattle.shared_scripts.proofs.races.shut.Goals as goal

pub note-requires-clause-event : goal.note-requires-clause-event
note-requires-clause-event g c = c.requires.owner.usable

pub close-requires-clause-row : goal.close-requires-clause-row
close-requires-clause-row g c = subst (λ v. CanClose v 0) (sym c.note.ensures.view) (can_close _ c.requires.owner c.note.result)

pub finalize-requires-clause-row : goal.finalize-requires-clause-row
finalize-requires-clause-row g c = let w = g.S.RowSeat.view c.close.new.self in
    (yours_takes _ c.requires.owner c.note.result w (subst (λ v. ClosesRow v 0 Yours w) c.note.ensures.view c.in-Yours.ensures.view)).0
