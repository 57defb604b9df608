use Rattle.std.proofs.Common.{◌≡◌, ◌+◌, [], sym, subst, arith}
use Rattle.shared_scripts.specs.Crowds.{IsHost}
use Rattle.shared_scripts.proofs.Hosts.{host_begins, host_opened, host_opens}
use Rattle.shared_scripts.proofs.hosting.open_common.Goals as goal

pub loop-row-init : goal.loop-row-init
loop-row-init g c = (c.requires.fits, host_begins (g.S.RowSeat.view c.args.seat.now) c.requires.start, omega (arith, c.requires.pays))

pub open_row-requires-clause-can : goal.open_row-requires-clause-can
open_row-requires-clause-can g c = host_opens (g.S.RowSeat.view c.loop-row.seat) [] c.loop-row.row c.loop-row-test.true c.loop-row.invariant.1

pub loop-row-preserved : goal.loop-row-preserved
loop-row-preserved g c = let o = c.open_row.ensures.opens in
    (c.open_row.ensures.fits, subst (λ w. IsHost w [] (c.loop-row.row + 1) 0 1) (sym o.2) (host_opened (g.S.RowSeat.view c.loop-row.seat) [] c.loop-row.row c.loop-row-test.true c.loop-row.invariant.1 c.in-Some.pay o.0 o.1), (let p = c.in-Some.ensures.cases in let i = c.loop-row.invariant.2 in omega (arith, p, i)))

pub returns-clause-host : goal.returns-clause-host
returns-clause-host g c = let w = g.S.RowSeat.view c.loop-row.seat in let end = c.loop-row.auto.row-end in
    subst (λ m. IsHost w [] m 0 1) (let e : c.loop-row.row ≡ 8 = omega (arith, c.loop-row-test.false, end) in e) c.loop-row.invariant.1
