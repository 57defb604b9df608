use Rattle.std.proofs.Common.{inr, subst, arith}
use Rattle.chunk_core.specs.Totals.{IsAt}
use Rattle.tee_prints.proofs.Beginning.{at_index, no_stop, no_stop_more}
use Rattle.tee_prints.proofs.printer.Printer.must_stop.Goals as goal

pub returns-then-is_stop-clause-stop : goal.returns-then-is_stop-clause-stop
returns-then-is_stop-clause-stop c =
    let ends = c.args.self.now.ends in
    let ok = ends.ok.0 in
    let len = c.len-i-end.ensures in
    let below = c.loop-i-test.true in
    let h = c.if-is_stop.ensures.stop in
    inr (c.loop-i.i, h.0, subst (λ x. IsAt ends.items c.loop-i.i x) h.1 (at_index ends.items c.loop-i.i c.index.result.now (omega arith) c.index.ensures), h.2)

pub loop-i-preserved : goal.loop-i-preserved
loop-i-preserved c =
    let ends = c.args.self.now.ends in
    let ok = ends.ok.0 in
    let len = c.len-i-end.ensures in
    let below = c.loop-i-test.true in
    no_stop_more ends.items c.loop-i.i c.index.result.now c.loop-i.invariant (at_index ends.items c.loop-i.i c.index.result.now (omega arith) c.index.ensures) c.if-is_stop.ensures.go

pub returns-clause-go : goal.returns-clause-go
returns-clause-go c =
    let ends = c.args.self.now.ends in
    let ok = ends.ok.0 in
    let len = c.len-i-end.ensures in
    let past = c.loop-i-test.false in
    no_stop ends.items c.loop-i.i c.args.self.now.broken c.if-self.false (omega arith) c.loop-i.invariant
