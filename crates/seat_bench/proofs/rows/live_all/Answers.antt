use Rattle.seat_bench.proofs.rows.live_all.Goals as goal

pub lend_row-requires-clause-open : goal.lend_row-requires-clause-open
lend_row-requires-clause-open g c = let n = c.args.count in let lt = c.loop-row-test.true in (n, lt, c.open_row.ensures.open n lt c.loop-row.invariant.1)

pub shut_row-requires-clause-lent : goal.shut_row-requires-clause-lent
shut_row-requires-clause-lent g c = let n = c.args.count in let lt = c.loop-row-test.true in (n, lt, c.lend_row.ensures.lent n lt (c.open_row.ensures.open n lt c.loop-row.invariant.1))

pub leave_row-requires-clause-shut : goal.leave_row-requires-clause-shut
leave_row-requires-clause-shut g c = let n = c.args.count in let lt = c.loop-row-test.true in (n, lt, c.shut_row.ensures.shut n lt (c.lend_row.ensures.lent n lt (c.open_row.ensures.open n lt c.loop-row.invariant.1)))

pub loop-row-preserved : goal.loop-row-preserved
loop-row-preserved g c = let n = c.args.count in let lt = c.loop-row-test.true in (c.leave_row.ensures.fits, c.leave_row.ensures.idle n lt (c.shut_row.ensures.shut n lt (c.lend_row.ensures.lent n lt (c.open_row.ensures.open n lt c.loop-row.invariant.1))), c.leave_row.ensures.main (c.shut_row.ensures.main (c.lend_row.ensures.main (c.open_row.ensures.main c.loop-row.invariant.2))))
