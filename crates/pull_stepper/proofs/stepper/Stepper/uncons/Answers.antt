use Rattle.std.proofs.Common.{refl}
use Rattle.pull_turns.specs.Piping.{standing}
use Rattle.pull_stepper.specs.Resources.{site}
use Rattle.pull_stepper.specs.Steppers.{stepping}
use Rattle.pull_stepper.proofs.Turning.{unconses_by}
use Rattle.pull_stepper.proofs.stepper.Stepper.uncons.Goals as goal

pub returns-clause-first : goal.returns-clause-first
returns-clause-first g c =
    let view = g.S.RowSeat.view in let values = g.F.PipeState.values in let u = c.uncons.ensures in
    let a = stepping view values c.args.self.now in let b = stepping view values (record { runner = c.uncons.new.self; room = c.args.self.now.room; tables = c.args.self.now.tables }) in
    unconses_by (standing g.F.Feed.stands g.F.Feed.comes) g.V.Device.told a b refl u.chunk c.requires.can.chunk (site view) c.args.self.now.runner.outside c.uncons.new.self.outside c.args.turns c.uncons.result refl refl u.first u.sized u.spends u.sound
