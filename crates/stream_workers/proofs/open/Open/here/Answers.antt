-- A job that stays here began as it is.
use Rattle.std.proofs.Common.{ap, sym, ◌∙◌}
use Rattle.pull_turns.specs.Piping.{standing}
use Rattle.stream_jobs.specs.declared.job.Job.{Job}
use Rattle.stream_workers.proofs.Returning.{same_back}
use Rattle.stream_workers.proofs.open.Open.here.Goals as goal

pub invariant_of-result : goal.invariant_of-result
invariant_of-result g c = record {
  number = c.stream.ensures ∙ ap (λ (j : Job _ _ _ _ _ _). j.sender.stream) (sym c.of.ensures);
  stands = same_back g.S.RowSeat.view g.F.PipeState.values g.V.Device.told (standing g.F.Feed.stands g.F.Feed.comes) g.S.RowSeat.fits c.of.result.value c.args.job c.of.ensures;
}
