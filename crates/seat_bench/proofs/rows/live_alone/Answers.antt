use Rattle.seat_bench.proofs.rows.live_alone.Goals as goal

pub end_row-requires-clause-open : goal.end_row-requires-clause-open
end_row-requires-clause-open g c = let n = c.args.to in let lt = c.loop-row-test.true in (n, lt, c.open_row.ensures.open n lt c.loop-row.invariant.1)

pub loop-row-preserved : goal.loop-row-preserved
loop-row-preserved g c = let n = c.args.to in let lt = c.loop-row-test.true in (c.end_row.ensures.fits, c.end_row.ensures.idle n lt (c.open_row.ensures.open n lt c.loop-row.invariant.1))
