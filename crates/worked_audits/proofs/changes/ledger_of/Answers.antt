use Rattle.std.proofs.Common.{◌≡◌, length, sym, subst, arith}
use Rattle.res_ledger.specs.Ledger.{IsStamped}
use Rattle.res_ledger.proofs.Growth.{stamped_snoc}
use Rattle.worked_audits.proofs.changes.ledger_of.Goals as goal

pub loop-by-preserved : goal.loop-by-preserved
loop-by-preserved c =
    let count : c.len-stamp.result ≡ length c.loop-by.events.items = omega (arith, c.loop-by.events.ok.0) in
    subst IsStamped (sym c.in_ok-push.ensures.items) (stamped_snoc c.loop-by.events.items _ c.loop-by.invariant count)
