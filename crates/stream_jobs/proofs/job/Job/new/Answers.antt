-- Nothing was said, and nothing was given.
use Rattle.std.proofs.Common.{[], ◌++◌, ap, refl}
use Rattle.pull_turns.specs.Piping.{standing}
use Rattle.pull_stepper.specs.Steppers.{stepping}
use Rattle.stream_jobs.proofs.Learning.{learns_nothing}
use Rattle.stream_jobs.proofs.Runs.{given_start}
use Rattle.stream_jobs.proofs.Texts.{no_texts}
use Rattle.stream_jobs.proofs.job.Job.new.Goals as goal

pub returns-clause-job : goal.returns-clause-job
returns-clause-job g c = record {
  number = refl;
  sender = c.requires.sender.0;
  waits = tt;
  full = tt;
  stage = _;
  stage_is = refl;
  stands = record {
    stream = refl;
    lease = c.requires.lease;
    leased = refl;
    begun = c.requires.begun;
    loads = [];
    given = given_start g.V.Device.told (standing g.F.Feed.stands g.F.Feed.comes) (record { stream = c.args.stream; leased = c.args.lease.rows.items; start = stepping g.S.RowSeat.view g.F.PipeState.values c.args.stepper; board = c.args.board }) c.requires.can;
    texts = [];
    texts_are = no_texts;
    said_is = ap (λ xs. xs ++ []) c.requires.sender.1;
  };
  learned = learns_nothing c.args.stream c.args.board c.requires.seat.0 c.requires.seat.1;
  places = tt;
}

pub returns-clause-fits : goal.returns-clause-fits
returns-clause-fits g c d f = (_, refl, f)
