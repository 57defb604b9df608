use Rattle.std.proofs.Common.{inl, inr, ap, ◌∙◌}
use Rattle.shared_scripts.proofs.RowSteps.{leave_takes}
use Rattle.shared_scripts.proofs.rows.quit_row.Goals as goal

pub finalize-requires-clause-row : goal.finalize-requires-clause-row
finalize-requires-clause-row g c = (leave_takes (g.S.RowSeat.view c.args.seat.now) (g.S.RowSeat.view c.leave.new.self) c.args.stream c.args.row c.requires.taken c.requires.room c.in-Yours.ensures.view).0

pub finalize-requires-clause-room : goal.finalize-requires-clause-room
finalize-requires-clause-room g c = (leave_takes (g.S.RowSeat.view c.args.seat.now) (g.S.RowSeat.view c.leave.new.self) c.args.stream c.args.row c.requires.taken c.requires.room c.in-Yours.ensures.view).1

pub returns-in-Stays-clause-quits : goal.returns-in-Stays-clause-quits
returns-in-Stays-clause-quits g c = inl c.in-Stays.ensures.view

pub returns-in-Yours-clause-quits : goal.returns-in-Yours-clause-quits
returns-in-Yours-clause-quits g c = let f = c.finalize.ensures.pay in inr (g.S.RowSeat.view c.leave.new.self, c.in-Yours.ensures.view, (f.2, f.5))

pub returns-in-Yours-clause-others : goal.returns-in-Yours-clause-others
returns-in-Yours-clause-others g c = λ o ne f. c.finalize.ensures.others o (λ q. ne (q ∙ ap (λ v. v.by) c.in-Yours.ensures.view.1)) (c.leave.ensures.others o ne f)
