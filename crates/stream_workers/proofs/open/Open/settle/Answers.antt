use Rattle.std.proofs.Common.{subst}
use Rattle.pull_turns.specs.Piping.{standing}
use Rattle.stream_workers.specs.Returns.{ComesBack}
use Rattle.stream_workers.specs.Stands.{StandsAt}
use Rattle.stream_workers.proofs.open.Open.settle.Goals as goal

pub returns-in-Here : goal.returns-in-Here
returns-in-Here g c =
    let P = standing g.F.Feed.stands g.F.Feed.comes in
    subst (λ j. ComesBack g.S.RowSeat.view g.F.PipeState.values g.V.Device.told P g.S.RowSeat.fits j c.in-Here.job) c.self.view_is
    (subst (λ a. StandsAt g.S.RowSeat.view g.F.PipeState.values g.V.Device.told P g.S.RowSeat.fits c.self.inside.first.value a) c.in-Here.is c.self.invariant.stands)
