-- A load was written, or came too late.
use Rattle.std.proofs.Common.{refl}
use Rattle.collector.proofs.LoadTaken.{full_elements, has_stream, load_stopped, load_taken, room_while, some_context}
use Rattle.collector.proofs.collector.Collector.write.Goals as goal

pub write-requires-clause-some : goal.write-requires-clause-some
write-requires-clause-some g c = let q = c.requires.collecting in full_elements q.5.2 c.args.stream c.args.load.now c.args.self.now.receiver q.4

pub write-requires-clause-stream : goal.write-requires-clause-stream
write-requires-clause-stream g c = let q = c.requires.collecting in has_stream q.5.2 c.args.stream c.args.load.now c.args.self.now.receiver q.4

pub write-requires-clause-room : goal.write-requires-clause-room
write-requires-clause-room g c = let q = c.requires.collecting in room_while q.5.2 c.args.stream c.args.load.now c.args.self.now.receiver q.4

pub interrupt-requires-clause-seated : goal.interrupt-requires-clause-seated
interrupt-requires-clause-seated g c = c.requires.collecting.5.2.telling.seated

pub interrupt-requires-clause-context : goal.interrupt-requires-clause-context
interrupt-requires-clause-context g c = let q = c.requires.collecting in some_context q.5.2 c.args.stream c.args.load.now c.args.self.now.receiver q.4

pub returns-in-Some : goal.returns-in-Some
returns-in-Some g c = record {
  collecting = λ p depot d had h d0 s0 i.
      load_stopped i c.args.stream c.args.load.now c.args.self.now.receiver h (g.K.Sink.told c.write.new.out) c.write.new.self c.write.result c.write.ensures c.in-Some.why (record { why = c.in-Some.why; at = 0 }) c.interrupt.new.self c.in-Some.is refl c.interrupt.ensures.marks c.interrupt.ensures.seated;
}

pub returns-in-None : goal.returns-in-None
returns-in-None g c = record {
  collecting = λ p depot d had h d0 s0 i.
      load_taken i c.args.stream c.args.load.now c.args.self.now.receiver h (g.K.Sink.told c.write.new.out) c.write.new.self c.write.result c.write.ensures c.in-None.is;
}
