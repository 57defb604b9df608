-- No frame is wanted.
use Rattle.pull_turns.specs.Piping.{standing}
use Rattle.collector.specs.Members.{members}
use Rattle.collector.specs.Starting.{room_of}
use Rattle.collector.proofs.FreshStands.{unwanted_stands}
use Rattle.collector.proofs.FreshTale.{surely_found}
use Rattle.collector.proofs.OuterSteps.{finds_none, finds_this}
use Rattle.collector.proofs.collector.Collector.want_none.Goals as goal

pub returns-in-Some : goal.returns-in-Some
returns-in-Some g c = record {
  collecting = λ d0 s0 few.
      let w = c.in-Some.found in
      let f = finds_this c.interrupt.new.self c.look.new.self c.look.result w c.in-Some.is c.look.ensures.finds in
      let i = c.interrupt.ensures in
      let e = c.halt.ensures in
      unwanted_stands (members g.S.RowSeat.view g.V.Device.told g.S.RowSeat.fits g.F.PipeState.values (standing g.F.Feed.stands g.F.Feed.comes)) c.args.plan.now d0 s0 c.args.desk.now c.args.self.now c.requires.fresh few c.requires.none c.interrupt.new.self i.marks i.seated c.halt.new.desk c.halt.new.self c.look.new.self f.0 w f.1 c.look.ensures.seated f.2 e.report e.closes e.behind e.fits e.same;
}

pub returns-in-None : goal.returns-in-None
returns-in-None g c = record {
  collecting = λ d0 s0 few.
      let i = c.interrupt.ensures in
      absurd (surely_found c.args.plan.now (room_of c.args.self.now) c.requires.fresh.room s0 c.requires.none c.interrupt.new.self i.marks i.seated (finds_none c.interrupt.new.self c.look.new.self c.look.result c.in-None.is c.look.ensures.finds).1);
}
