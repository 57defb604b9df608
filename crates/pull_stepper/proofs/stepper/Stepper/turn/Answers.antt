use Rattle.std.proofs.Common.{refl}
use Rattle.pull_turns.specs.Piping.{standing}
use Rattle.pull_stepper.specs.Steppers.{stepping}
use Rattle.pull_stepper.proofs.Turning.{steps_by, wants_by}
use Rattle.pull_stepper.proofs.stepper.Stepper.turn.Goals as goal

pub returns-clause-steps : goal.returns-clause-steps
returns-clause-steps g c =
    let view = g.S.RowSeat.view in let values = g.F.PipeState.values in let t = c.turn.ensures in
    let a = stepping view values c.args.self.now in let b = stepping view values (record { runner = c.turn.new.self; room = c.args.self.now.room; tables = c.args.self.now.tables }) in
    steps_by (standing g.F.Feed.stands g.F.Feed.comes) g.V.Device.told a b refl t.chunk c.requires.can.chunk c.turn.result t.turned t.sized t.how t.sound

pub returns-clause-wants : goal.returns-clause-wants
returns-clause-wants g c =
    let view = g.S.RowSeat.view in let values = g.F.PipeState.values in let t = c.turn.ensures in
    let a = stepping view values c.args.self.now in let b = stepping view values (record { runner = c.turn.new.self; room = c.args.self.now.room; tables = c.args.self.now.tables }) in
    wants_by (standing g.F.Feed.stands g.F.Feed.comes) g.V.Device.told a b refl c.requires.can.step c.turn.result t.wanting t.spent t.stopped t.cut
