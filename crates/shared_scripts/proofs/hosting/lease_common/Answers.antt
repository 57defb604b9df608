use Rattle.std.proofs.Common.{sym, ap, ◌∙◌, subst}
use Rattle.row_seat.specs.Views.{CanLease, leased}
use Rattle.shared_scripts.specs.Crowds.{with_lent}
use Rattle.shared_scripts.proofs.Hosts.{host_leases, none_lent, one_more_lent}
use Rattle.shared_scripts.proofs.hosting.lease_common.Goals as goal

pub loop-row-init : goal.loop-row-init
loop-row-init g c = let h = c.requires.host in (c.requires.fits, none_lent (g.S.RowSeat.view c.args.seat.now) h.0 c.args.stream h.1, λ s ne f. f)

pub lease-requires-clause-row : goal.lease-requires-clause-row
lease-requires-clause-row g c = let h = c.requires.host in let j = c.args.stream in let m = c.loop-row.row in
    subst (λ w. CanLease w j m) (sym c.loop-row.invariant.1) (host_leases (g.S.RowSeat.view c.args.seat.now) h.0 j h.1 m c.loop-row-test.true)

pub loop-row-preserved : goal.loop-row-preserved
loop-row-preserved g c = let h = c.requires.host in let j = c.args.stream in let m = c.loop-row.row in let i = c.loop-row.invariant in (
  c.lease.ensures.fits,
  c.lease.ensures.view ∙ (ap (λ w. leased w j m) i.1 ∙ one_more_lent (g.S.RowSeat.view c.args.seat.now) h.0 j h.1 m),
  λ s ne f.
      c.lease.ensures.others s (λ q. ne (q ∙ (ap (λ w. w.by) i.1 ∙ h.1.by))) (i.2 s ne f),
)
