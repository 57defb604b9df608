use Rattle.std.proofs.Common.{◌≡◌, ◌<◌, length}
use Rattle.par_eval.specs.Dealers.{IsDealerAt, ends_sent}
use Rattle.worked_threads.proofs.hands.end_all.Given as goal

abbrev pub invariant-tries : goal.invariant-tries
invariant-tries g l = IsDealerAt l.lanes l.dealer.lanes × (l.dealer.out ≡ 0) × (ends_sent l.dealer.ended < length l.dealer.lanes)
