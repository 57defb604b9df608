use Rattle.std.proofs.Common.{sym, ap, ◌∙◌, subst}
use Rattle.res_ledger.specs.Ledger.{IsClosed}
use Rattle.tree_scripts.proofs.Visits.{host_closed, host_joins, host_rests}
use Rattle.tree_scripts.proofs.guests.part.Goals as goal

pub join-requires-clause-can : goal.join-requires-clause-can
join-requires-clause-can g c = host_joins (g.S.RowSeat.view c.args.tree.seat) (g.S.RowSeat.view c.args.guest) c.requires.host c.requires.rest.0 c.requires.rest.1

pub end-seat-requires-clause-closed : goal.end-seat-requires-clause-closed
end-seat-requires-clause-closed g c = subst (λ v. IsClosed v.events v.by 0) (sym (ap (λ x. x.seat) c.join.ensures.seen)) (host_closed (g.S.RowSeat.view c.args.tree.seat) (g.S.RowSeat.view c.args.guest) c.requires.host)

pub finish-requires-clause-can : goal.finish-requires-clause-can
finish-requires-clause-can g c =
    let r = c.end-seat.ensures.rest in
    host_rests (g.S.RowSeat.view c.args.tree.seat) (g.S.RowSeat.view c.args.guest) (g.S.RowSeat.view c.end-seat.result.0) c.requires.host c.requires.rest.1 (c.end-seat.ensures.seat ∙ ap (λ x. x.seat) c.join.ensures.seen) r
