use Rattle.std.proofs.Common.{◌≤◌, sym, ap, ◌∙◌, subst, arith}
use Rattle.shared_scripts.specs.Rows.{CanShutRow, ShutsRow}
use Rattle.shared_scripts.proofs.Stays.{lives_on, own_opens, own_shuts}
use Rattle.shared_scripts.proofs.staying.live_rows.Goals as goal

pub open_row-requires-clause-can : goal.open_row-requires-clause-can
open_row-requires-clause-can g c = own_opens (g.S.RowSeat.view c.loop-row.seat) c.args.stream c.loop-row.row (omega arith) c.loop-row.invariant.1

pub shut_row-requires-clause-can : goal.shut_row-requires-clause-can
shut_row-requires-clause-can g c = let o = c.open_row.ensures.opens in let n = c.loop-row.row in
    subst (λ w. CanShutRow w n) (sym o.2) (own_shuts (g.S.RowSeat.view c.loop-row.seat) c.args.stream n (omega arith) c.loop-row.invariant.1 c.in-Some.pay o.0 o.1)

pub loop-row-preserved : goal.loop-row-preserved
loop-row-preserved g c = let o = c.open_row.ensures.opens in let n = c.loop-row.row in let i = c.loop-row.invariant in let v = g.S.RowSeat.view c.loop-row.seat in let w = g.S.RowSeat.view c.shut_row.new.seat in (
  c.shut_row.ensures.fits,
  lives_on v c.args.stream n (omega arith) i.1 c.in-Some.pay o.0 o.1 w (subst (λ u. ShutsRow u n w) o.2 c.shut_row.ensures.shuts),
  (let p = c.in-Some.ensures.cases in omega (arith, p, i.2)),
  λ s ne f.
      let e = i.1.by in c.shut_row.ensures.others s (λ q. ne (q ∙ (ap (λ u. u.by) o.2 ∙ e))) (c.open_row.ensures.others s (λ q. ne (q ∙ e)) (i.3 s ne f)),
)
