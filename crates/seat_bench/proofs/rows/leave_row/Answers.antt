use Rattle.std.proofs.Common.{◌≤◌, sym, subst, ap, ◌∙◌}
use Rattle.chunk_core.specs.Lists.{IsAmong}
use Rattle.row_seat.specs.Views.{CanLeave}
use Rattle.shared_scripts.specs.Rows.{QuitsRow}
use Rattle.seat_bench.proofs.Rowing.{can_leave, main_quits, main_still, may_cancel, none_taken, quits_on, room_left}
use Rattle.seat_bench.proofs.rows.leave_row.Goals as goal

pub note-requires-clause-room : goal.note-requires-clause-room
note-requires-clause-room g c = let i = c.requires.shut in (may_cancel _ c.args.row i.0 i.1 i.2 0 c.requires.main).1

pub note-requires-clause-event : goal.note-requires-clause-event
note-requires-clause-event g c = let i = c.requires.shut in (may_cancel _ c.args.row i.0 i.1 i.2 0 c.requires.main).0

pub quit_row-requires-clause-row : goal.quit_row-requires-clause-row
quit_row-requires-clause-row g c = let i = c.requires.shut in subst (λ v. CanLeave v c.args.row c.args.row) (sym c.note.ensures.view) (can_leave _ c.args.row i.0 i.1 i.2 c.note.result)

pub quit_row-requires-clause-taken : goal.quit_row-requires-clause-taken
quit_row-requires-clause-taken g c = let i = c.requires.shut in subst (λ v. ¬ (IsAmong c.args.row v.taken)) (sym c.note.ensures.view) (none_taken _ c.args.row i.0 i.1 i.2 c.note.result)

pub quit_row-requires-clause-room : goal.quit_row-requires-clause-room
quit_row-requires-clause-room g c = let i = c.requires.shut in subst (λ v. 1 ≤ v.spare) (sym c.note.ensures.view) (room_left _ c.args.row i.0 i.1 i.2 c.note.result)

pub returns-clause-idle : goal.returns-clause-idle
returns-clause-idle g c = λ to lt i. let r = c.args.row in let w = g.S.RowSeat.view c.quit_row.new.seat in
    quits_on (g.S.RowSeat.view c.args.seat.now) r to lt i c.note.result w (subst (λ v. QuitsRow v r r w) c.note.ensures.view c.quit_row.ensures.quits)

pub returns-clause-main : goal.returns-clause-main
returns-clause-main g c = λ m. let r = c.args.row in
    main_quits (g.S.RowSeat.view c.note.new.self) r r (g.S.RowSeat.view c.quit_row.new.seat) c.quit_row.ensures.quits (main_still _ _ (ap (λ v. v.main) c.note.ensures.view) (ap (λ v. v.by) c.note.ensures.view) m)
