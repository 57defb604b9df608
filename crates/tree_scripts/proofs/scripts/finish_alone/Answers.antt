use Rattle.std.proofs.Common.{subst}
use Rattle.res_ledger.specs.Rising.{Rises}
use Rattle.res_ledger.specs.Streams.{by_stream}
use Rattle.row_seat.specs.Views.{IsLedgerOf}
use Rattle.tree_scripts.proofs.scripts.finish_alone.Goals as goal

pub finish-requires-clause-fits : goal.finish-requires-clause-fits
finish-requires-clause-fits g c = c.end-seat.ensures.fits c.args.desk.now c.requires.fits

pub finish-requires-clause-can : goal.finish-requires-clause-can
finish-requires-clause-can g c = c.end-seat.ensures.finish c.requires.main c.requires.out c.requires.leases

pub returns-clause-ledger : goal.returns-clause-ledger
returns-clause-ledger g c = subst (λ v. IsLedgerOf v c.finish.result) c.end-seat.ensures.seat c.finish.ensures

pub returns-clause-rising : goal.returns-clause-rising
returns-clause-rising g c = subst (λ v. Rises (by_stream v.by v.events)) c.end-seat.ensures.seat c.end-seat.ensures.rising
