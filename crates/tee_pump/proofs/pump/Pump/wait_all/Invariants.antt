use Rattle.std.proofs.Common.{◌≡◌, ℕ, List}
use Rattle.chunk_core.specs.Feed.{Meaning}
use Rattle.chunk_core.specs.declared.code.How.{How}
use Rattle.device_port.specs.Sink.{SinkTold}
use Rattle.topic_hub.specs.Topics.{KeepsTopic, due}
use Rattle.tee_pump.specs.Printing.{GoesOn}
use Rattle.tee_pump.specs.Publishing.{ArePending}
use Rattle.tee_pump.specs.Pumps.{IsServing}
use Rattle.tee_pump.proofs.pump.Pump.wait_all.Given as goal

-- what is due stays so, and what came was printed
abbrev pub invariant-tries : goal.invariant-tries
invariant-tries g l = record {
  serving : (ms : List Meaning) (reader : How) (start : SinkTold) → IsServing g.F.Feed.stands g.F.Feed.comes (record { topic = l.site.topic.now; hub = l.site.hub.now; board = l.site.board.now }) ms reader start (g.K.Sink.told l.fn.out) l.fn.self → IsServing g.F.Feed.stands g.F.Feed.comes (record { topic = l.site.topic.now; hub = l.site.hub.now; board = l.site.board.now }) ms reader start (g.K.Sink.told l.out) l.self;
  on : GoesOn l.fn.self.printer l.self.printer;
  keeps : KeepsTopic l.fn.self.publisher l.self.publisher;
  due_is : (i : ℕ) → due l.self.publisher i ≡ due l.fn.self.publisher i;
  pending : ArePending l.self.publisher;
}
