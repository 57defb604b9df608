use Rattle.std.proofs.Common.{sym, subst, ap}
use Rattle.seat_bench.specs.Rows.{IsOpen}
use Rattle.seat_bench.proofs.Rowing.{can_open, is_open, main_still}
use Rattle.seat_bench.proofs.rows.open_row.Goals as goal

pub open_row-requires-clause-can : goal.open_row-requires-clause-can
open_row-requires-clause-can g c = let i = c.requires.idle in can_open (g.S.RowSeat.view c.args.seat.now) c.args.row i.0 i.1 i.2 0 0 c.args.pay

pub returns-clause-open : goal.returns-clause-open
returns-clause-open g c = λ to lt i. let r = c.args.row in let o = c.open_row.ensures.opens in
    subst (λ v. IsOpen v r to) (sym o.2) (is_open (g.S.RowSeat.view c.args.seat.now) r to lt i o.0 o.1 c.args.pay)

pub returns-clause-main : goal.returns-clause-main
returns-clause-main g c = let o = c.open_row.ensures.opens in main_still _ _ (ap (λ v. v.main) o.2) (ap (λ v. v.by) o.2)
