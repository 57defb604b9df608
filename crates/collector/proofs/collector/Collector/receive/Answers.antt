-- A load is written, and an end is dealt with.
use Rattle.std.proofs.Common.{subst}
use Rattle.collector.specs.Receiving.{HasGot}
use Rattle.collector.proofs.collector.Collector.receive.Goals as goal

pub write-requires : goal.write-requires
write-requires g c = let q = c.requires.collecting in record { collecting = (c.args.plan.now, q.0, c.args.desk.now, q.1, subst (λ b. HasGot q.1 (record { stream = c.args.message.stream; body = b }) c.args.self.now.receiver) c.in-Load.is q.2, q.3) }

pub end-requires : goal.end-requires
end-requires g c = let q = c.requires.collecting in record { collecting = (q.0, g.K.Sink.told c.args.out.now, q.1, subst (λ b. HasGot q.1 (record { stream = c.args.message.stream; body = b }) c.args.self.now.receiver) c.in-End.is q.2, q.3) }

pub returns-in-Load : goal.returns-in-Load
returns-in-Load g c = record { collecting = λ depot had h d0 s0 i. c.write.ensures.collecting c.args.plan.now depot c.args.desk.now had (subst (λ b. HasGot had (record { stream = c.args.message.stream; body = b }) c.args.self.now.receiver) c.in-Load.is h) d0 s0 i }

pub returns-in-End : goal.returns-in-End
returns-in-End g c = record { collecting = λ depot had h d0 s0 i. c.end.ensures.collecting depot (g.K.Sink.told c.args.out.now) had (subst (λ b. HasGot had (record { stream = c.args.message.stream; body = b }) c.args.self.now.receiver) c.in-End.is h) d0 s0 i }
