use Rattle.std.proofs.Common.{◌≡◌, ap, ◌∙◌, subst, arith}
use Rattle.shared_scripts.specs.Crowds.{IsHost}
use Rattle.shared_scripts.proofs.Hosts.{host_gathers, host_shut, host_shuts}
use Rattle.shared_scripts.proofs.hosting.shut_common.Goals as goal

pub shut_row-requires-clause-can : goal.shut_row-requires-clause-can
shut_row-requires-clause-can g c = let v = g.S.RowSeat.view c.args.seat.now in let i = c.loop-row.invariant.1 in
    host_shuts (g.S.RowSeat.view c.loop-row.seat) v.out c.loop-row.row i.0 c.loop-row-test.true i.1

pub loop-row-preserved : goal.loop-row-preserved
loop-row-preserved g c = let v = g.S.RowSeat.view c.args.seat.now in let i = c.loop-row.invariant in let h = i.1 in
    (c.shut_row.ensures.fits, (h.0, host_shut (g.S.RowSeat.view c.loop-row.seat) v.out c.loop-row.row h.0 c.loop-row-test.true h.1 (g.S.RowSeat.view c.shut_row.new.seat) c.shut_row.ensures.shuts), λ s ne f. c.shut_row.ensures.others s (λ q. ne (q ∙ h.1.by)) (i.2 s ne f))

pub returns-clause-gathered : goal.returns-clause-gathered
returns-clause-gathered g c = let v = g.S.RowSeat.view c.args.seat.now in let w = g.S.RowSeat.view c.loop-row.seat in let h = c.loop-row.invariant.1 in let end = c.loop-row.auto.row-end in
    host_gathers w v.out h.0 (subst (λ k. IsHost w v.out 8 k h.0) (let e : c.loop-row.row ≡ 8 = omega (arith, c.loop-row-test.false, end) in e) h.1)
