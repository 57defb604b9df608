use Rattle.std.proofs.Common.{refl}
use Rattle.pull_turns.specs.Piping.{standing}
use Rattle.collected.proofs.Assembled.{collected_runs}
use Rattle.collected.proofs.laws.collected_runs.Goals as goal

pub returns : goal.returns
returns g c = collected_runs g.S.RowSeat.view g.V.Device.told (standing g.F.Feed.stands g.F.Feed.comes) (λ v. refl)
