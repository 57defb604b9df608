use Rattle.std.proofs.Common.{◌+◌, ◌*◌, ◌≤◌, arith, sym, ap, ◌∙◌, subst}
use Rattle.shared_scripts.specs.Crowds.{IsQuitting}
use Rattle.shared_scripts.proofs.Stays.{may_cancel, quits_now, rests_now}
use Rattle.shared_scripts.proofs.staying.stay.Goals as goal

pub note-requires-clause-room : goal.note-requires-clause-room
note-requires-clause-room g c = (may_cancel (g.S.RowSeat.view c.live_rows.new.seat) c.args.stream (64 * c.args.stream + 8) (omega arith) c.live_rows.ensures.living 0).1

pub note-requires-clause-event : goal.note-requires-clause-event
note-requires-clause-event g c = (may_cancel (g.S.RowSeat.view c.live_rows.new.seat) c.args.stream (64 * c.args.stream + 8) (omega arith) c.live_rows.ensures.living 0).0

pub quit_rows-requires-clause-quitting : goal.quit_rows-requires-clause-quitting
quit_rows-requires-clause-quitting g c = subst (λ v. IsQuitting v c.args.stream 0) (sym c.note.ensures.view) (quits_now (g.S.RowSeat.view c.live_rows.new.seat) c.args.stream (64 * c.args.stream + 8) (omega arith) c.live_rows.ensures.living c.note.result)

pub returns-clause-rested : goal.returns-clause-rested
returns-clause-rested g c = rests_now (g.S.RowSeat.view c.quit_rows.new.seat) c.args.stream c.quit_rows.ensures.quitting

pub returns-clause-others : goal.returns-clause-others
returns-clause-others g c = λ s ne f. c.quit_rows.ensures.others s ne (c.note.ensures.others s (λ q. ne (q ∙ c.live_rows.ensures.living.by)) (c.live_rows.ensures.others s ne f))
