use Rattle.std.proofs.Common.{sym, subst, ◌+◌, ◌-◌, ◌*◌}
use Rattle.row_shared.specs.Seats.{shown}
use Rattle.seat_bench.specs.Rows.{IsHost, IsIdle}
use Rattle.seat_bench.proofs.Rowing.{guest_idle, host_still, may_split}
use Rattle.seat_bench.proofs.threads.hire.Goals as goal

pub split-requires-clause-can : goal.split-requires-clause-can
split-requires-clause-can c = let h = c.requires.host in let r = c.args.rows in may_split (shown c.args.seat.now) c.args.stream r.from r.to h.0 h.1 h.2 h.3 c.requires.span h.4 h.5

pub returns-clause-host : goal.returns-clause-host
returns-clause-host c = λ to room splits h le most. let r = c.args.rows in
    subst (λ v. IsHost v (c.args.stream + 1) r.to to (room - 7 * (r.to - r.from)) splits) (sym c.in_ok-own.ensures.ok.0) (host_still _ c.args.stream r.from r.to to room splits h c.requires.span le most)

pub returns-clause-ready : goal.returns-clause-ready
returns-clause-ready c = let h = c.requires.host in let r = c.args.rows in
    (c.in_ok-share.ensures c.in_ok-own.own c.in_ok-own.ensures.ok.2, subst (λ v. IsIdle v r.from r.to) (sym c.in_ok-own.ensures.ok.1) (guest_idle (shown c.args.seat.now) c.args.stream r.from r.to h.0 h.1 h.2 h.3 c.requires.span h.4 h.5), c.requires.span)
