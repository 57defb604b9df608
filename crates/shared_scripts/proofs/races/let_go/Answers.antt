use Rattle.std.proofs.Common.{sym, subst}
use Rattle.row_seat.specs.declared.view.Left.TheVariants.{Yours}
use Rattle.row_seat.specs.Views.{CanLeave, LeavesRow}
use Rattle.shared_scripts.proofs.Racing.{can_leave, leave_takes, may_cancel}
use Rattle.shared_scripts.proofs.races.let_go.Goals as goal

pub note-requires-clause-event : goal.note-requires-clause-event
note-requires-clause-event g c = may_cancel _ c.requires.lessee 0

pub leave-requires-clause-row : goal.leave-requires-clause-row
leave-requires-clause-row g c = subst (λ v. CanLeave v 1 0) (sym c.note.ensures.view) (can_leave _ c.requires.lessee c.note.result)

pub finalize-requires-clause-row : goal.finalize-requires-clause-row
finalize-requires-clause-row g c = let w = g.S.RowSeat.view c.leave.new.self in
    (leave_takes _ c.requires.lessee c.note.result w (subst (λ v. LeavesRow v 1 0 Yours w) c.note.ensures.view c.in-Yours.ensures.view)).0
