use Rattle.std.proofs.Common.{◌≡◌, ◌++◌, ◌∷◌, [], length, sym, ap, ◌∙◌, arith}
use Rattle.std.proofs.lemmas.List.{nil_from_length}
use Rattle.std.proofs.lemmas.Bool.{eqb-true, eqb-false}
use Rattle.res_ledger.specs.Limits.{IsSmallEvent}
use Rattle.res_ledger.proofs.Growth.{stamped_snoc}
use Rattle.ledger_text.proofs.Lines.{bad_head, bad_line, spelled, read_on}
use Rattle.chunk_core.proofs.Each.{each_snoc}
use Rattle.ledger_text.proofs.reading.read.Goals as goal

pub returns-in_default-clause-err : goal.returns-in_default-clause-err
returns-in_default-clause-err c = bad_head c.args.bytes.now c.in_default.ensures

pub returns-in_default-next_event-clause-err : goal.returns-in_default-next_event-clause-err
returns-in_default-next_event-clause-err c =
    let i = c.loop-rest.invariant in
    let count : c.len-stamp.result ≡ length c.loop-rest.events.items = omega (arith, c.loop-rest.events.ok.0) in
    rw count
    (bad_line c.args.bytes.now c.loop-rest.rest.now c.in-Some.said c.loop-rest.events.items i.before i.said_fits i.small
    (λ e. eqb-false (length c.loop-rest.rest.now) 0 (sym c.is_empty.ensures ∙ c.loop-rest-test.true) (ap length e))
    (λ e more h. c.in_default-next_event.ensures e more (h.0, h.1 ∙ sym count)))

pub loop-rest-preserved : goal.loop-rest-preserved
loop-rest-preserved c =
    let i = c.loop-rest.invariant in
    let L = c.loop-rest.events.items in
    let e = c.in-Some-next_event.event in
    let next = c.in-Some-next_event.ensures in
    let count : c.len-stamp.result ≡ length c.loop-rest.events.items = omega (arith, c.loop-rest.events.ok.0) in
    let pushed : c.push.new.self.items ≡ L ++ e ∷ [] = rw c.if-is_err.ensures.negation at c.push.ensures.items in
    rw pushed
    (record {
      before = read_on c.args.bytes.now c.loop-rest.rest.now c.in-Some-next_event.after.now c.in-Some.said L e i.before next.1;
      said_fits = i.said_fits;
      small = each_snoc IsSmallEvent L e i.small next.0.0;
      stamped = stamped_snoc L e i.stamped (next.0.1 ∙ count);
    })

pub returns-then-said-found-clause-err : goal.returns-then-said-found-clause-err
returns-then-said-found-clause-err c =
    let i = c.loop-rest.invariant in
    let L = c.loop-rest.events.items in
    let count : c.len-found.result ≡ length L = omega (arith, c.loop-rest.events.ok.0) in
    let none = nil_from_length c.loop-rest.rest.now (eqb-true (length c.loop-rest.rest.now) 0 (sym c.is_empty.ensures ∙ c.loop-rest-test.false)) in
    (rw count (spelled c.args.bytes.now c.loop-rest.rest.now c.in-Some.said L i.before i.said_fits i.small none), c.if-said-found.true)
