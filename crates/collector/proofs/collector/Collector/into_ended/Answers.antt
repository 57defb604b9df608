use Rattle.collector.proofs.collector.Collector.into_ended.Goals as goal

pub returns-clause-outer : goal.returns-clause-outer
returns-clause-outer g c h e = rw e at c.unwrap_or.ensures
