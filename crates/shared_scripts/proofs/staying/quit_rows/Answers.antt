use Rattle.std.proofs.Common.{ap, ◌∙◌}
use Rattle.shared_scripts.proofs.Stays.{can_quit, none_taken, quits_on, room_left}
use Rattle.shared_scripts.proofs.staying.quit_rows.Goals as goal

pub quit_row-requires-clause-row : goal.quit_row-requires-clause-row
quit_row-requires-clause-row g c = can_quit (g.S.RowSeat.view c.loop-row.seat) c.args.stream c.loop-row.row c.loop-row-test.true c.loop-row.invariant.1

pub quit_row-requires-clause-taken : goal.quit_row-requires-clause-taken
quit_row-requires-clause-taken g c = none_taken (g.S.RowSeat.view c.loop-row.seat) c.args.stream c.loop-row.row c.loop-row-test.true c.loop-row.invariant.1

pub quit_row-requires-clause-room : goal.quit_row-requires-clause-room
quit_row-requires-clause-room g c = room_left (g.S.RowSeat.view c.loop-row.seat) c.args.stream c.loop-row.row c.loop-row-test.true c.loop-row.invariant.1

pub loop-row-preserved : goal.loop-row-preserved
loop-row-preserved g c = let i = c.loop-row.invariant in (
  c.quit_row.ensures.fits,
  quits_on (g.S.RowSeat.view c.loop-row.seat) c.args.stream c.loop-row.row c.loop-row-test.true i.1 (g.S.RowSeat.view c.quit_row.new.seat) c.quit_row.ensures.quits,
  λ s ne f.
      c.quit_row.ensures.others s (λ q. ne (q ∙ i.1.by)) (i.2 s ne f),
)
