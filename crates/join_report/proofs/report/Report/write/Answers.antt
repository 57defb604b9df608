-- The load is too late, or it goes to the sink.
use Rattle.std.proofs.Common.{Some, refl, sym, ap, subst}
use Rattle.interrupt_ctx.specs.declared.why.Why.{Why}
use Rattle.join_report.specs.Accounts.{AccountsSeen}
use Rattle.join_report.specs.Calls.{WritesLoad}
use Rattle.join_report.proofs.Writing.{load_counts, load_drops, load_fails, load_lacks}
use Rattle.join_report.proofs.report.Report.write.Goals as goal

pub returns-then-self : goal.returns-then-self
returns-then-self g c = load_drops c.args.stream c.args.load.now c.args.self.now _ _ _ c.if-self.true (ap (λ (a : AccountsSeen). record c.args.self.now { streams = a }) c.lose.ensures) refl

pub returns-in-Ok : goal.returns-in-Ok
returns-in-Ok g c = load_counts c.args.stream c.args.load.now c.args.self.now c.count.new.self _ _ c.count.result c.in-Ok.ensures c.if-self.false c.count.ensures

pub returns-in-Err-Unwritten : goal.returns-in-Err-Unwritten
returns-in-Err-Unwritten g c =
    let broken = rw c.in-Err-Unwritten.field-0-is at c.in-Err-Unwritten.ensures in
    subst (λ (w : Why). WritesLoad c.args.stream c.args.load.now c.args.self.now c.fail.new.self (g.K.Sink.told c.args.out.now) (g.K.Sink.told c.put_load.new.out) (Some w)) (sym c.fail.ensures.answer)
    (load_fails c.args.stream c.args.load.now c.args.self.now c.fail.new.self _ _ c.if-self.false c.fail.ensures.report broken)

pub returns-in-Err-Memory : goal.returns-in-Err-Memory
returns-in-Err-Memory g c =
    let same = rw c.in-Err-Memory.field-0-is at c.in-Err-Memory.ensures in
    subst (λ (w : Why). WritesLoad c.args.stream c.args.load.now c.args.self.now c.lack.new.self (g.K.Sink.told c.args.out.now) (g.K.Sink.told c.put_load.new.out) (Some w)) (sym c.lack.ensures.answer)
    (load_lacks c.args.stream c.args.load.now c.args.self.now c.lack.new.self _ _ c.if-self.false c.lack.ensures.report same.0 same.1)
