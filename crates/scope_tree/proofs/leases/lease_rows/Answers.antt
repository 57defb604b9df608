use Rattle.std.proofs.Common.{◌≡◌, ◌+◌, suc, take, slice_index_or, sym, ap, ◌∙◌, subst, arith}
use Rattle.row_seat.specs.Views.{CanLease, leased}
use Rattle.scope_tree.specs.Leased.{leased_all}
use Rattle.scope_tree.proofs.Leasing.{can_lease, leased_next, leased_none, take_all, take_next}
use Rattle.scope_tree.proofs.leases.lease_rows.Goals as goal

pub each-init : goal.each-init
each-init g c = record {
  fits = c.requires.fits;
  seat = sym (leased_none (g.S.RowSeat.view c.args.seat.now) c.args.stream);
  others = λ o n f. f;
}

pub lease-requires-clause-row : goal.lease-requires-clause-row
lease-requires-clause-row g c =
    let v = g.S.RowSeat.view c.args.seat.now in let xs = c.args.rows.now in let i = c.each.row-index in let r = slice_index_or xs i 0 in
    subst (λ w. CanLease w c.args.stream r) (sym c.each.invariant.seat) (can_lease v c.args.stream xs i 0 c.each-test.true c.requires.main c.requires.rows.0 c.requires.rows.1 c.requires.stream c.requires.none)

pub each-preserved : goal.each-preserved
each-preserved g c =
    let v = g.S.RowSeat.view c.args.seat.now in let xs = c.args.rows.now in let i = c.each.row-index in let j = c.args.stream in let r = slice_index_or xs i 0 in
    let e : i + 1 ≡ suc i = omega arith in
    record {
      fits = c.lease.ensures.fits;
      seat = c.lease.ensures.view ∙ ap (λ w. leased w j r) c.each.invariant.seat ∙ leased_next v j (take i xs) r ∙ ap (λ T. leased_all v j T) (sym (take_next xs i (i + 1) 0 e c.each-test.true));
      others = λ o n f. c.lease.ensures.others o (λ z. n (z ∙ ap (λ w. w.by) c.each.invariant.seat)) (c.each.invariant.others o n f);
    }

pub returns-clause-seat : goal.returns-clause-seat
returns-clause-seat g c =
    let v = g.S.RowSeat.view c.args.seat.now in let xs = c.args.rows.now in
    c.each.invariant.seat ∙ ap (λ T. leased_all v c.args.stream T) (take_all xs c.each.row-index c.each-test.false)
