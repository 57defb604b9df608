use Rattle.par_eval.specs.Dealers.{ends_sent}
use Rattle.eval_hands.proofs.Deals.{ends_has, ends_uncollected}
use Rattle.eval_hands.proofs.crew.end_all.Goals as goal

pub returns-in-Ok-clause-dealt : goal.returns-in-Ok-clause-dealt
returns-in-Ok-clause-dealt g c ds ws h = ends_has (ends_sent c.tries.dealer.ended) (ends_sent c.end.new.self.ended) c.tries.dealer.lanes c.end.new.self.lanes c.end.ensures.sends ds ws (c.tries.invariant.has ds ws h)

pub returns-in-Ok-clause-open : goal.returns-in-Ok-clause-open
returns-in-Ok-clause-open g c = ends_uncollected (ends_sent c.tries.dealer.ended) (ends_sent c.end.new.self.ended) c.tries.dealer.lanes c.end.new.self.lanes c.end.ensures.sends c.tries.invariant.open_lanes

pub tries-preserved : goal.tries-preserved
tries-preserved g c = record {
  at = c.end.ensures.at;
  out = c.end.ensures.out;
  missing = c.in-Err.ensures.missing;
  has = λ ds ws h. ends_has (ends_sent c.tries.dealer.ended) (ends_sent c.end.new.self.ended) c.tries.dealer.lanes c.end.new.self.lanes c.end.ensures.sends ds ws (c.tries.invariant.has ds ws h);
  open_lanes = ends_uncollected (ends_sent c.tries.dealer.ended) (ends_sent c.end.new.self.ended) c.tries.dealer.lanes c.end.new.self.lanes c.end.ensures.sends c.tries.invariant.open_lanes;
  hired = c.turn_all.ensures;
}
