use Rattle.std.proofs.Common.{◌+◌, ◌++◌, ◌∷◌, [], length, ap, sym, ◌∙◌, arith}
use Rattle.std.proofs.lemmas.List.{length_push}
use Rattle.csv.specs.Records.{fields_of}
use Rattle.csv_pipes.proofs.Rests.{rest_more, taken_all}
use Rattle.csv_pipes.proofs.even.EvenRows.take_rows.Goals as goal

pub batch-init : goal.batch-init
batch-init g c = record {
  rows = ap (λ l. (l ++ c.args.self.now.0, c.args.self.now.1)) (sym c.new-rows.ensures.items);
  len = ap length c.new-rows.ensures.items;
}

pub returns-in_default : goal.returns-in_default
returns-in_default g c = record {
  rows = taken_all c.batch.rows.items c.batch.self c.args.self.now c.batch.invariant.rows c.in_ok-found.found (fields_of c.next.new.record) c.next.new.self c.next.new.self
      c.in_default.not-Row c.in_ok-found.ensures;
  few = omega (arith, c.batch.invariant.len, c.batch-test.true);
}

pub batch-preserved : goal.batch-preserved
batch-preserved g c = record {
  rows = rest_more c.batch.rows.items c.batch.self c.args.self.now c.batch.invariant.rows (fields_of c.next.new.record) c.next.new.self (rw c.in-Row.is at c.in_ok-found.ensures)
      ∙ ap (λ l. (l ++ c.next.new.self.0, c.next.new.self.1)) (sym (c.in_ok-push-in-Row.ensures.items ∙ ap (λ r. c.batch.rows.items ++ r ∷ []) c.in_ok-row_of-in-Row.ensures));
  len = ap length c.in_ok-push-in-Row.ensures.items ∙ (length_push c.batch.rows.items c.in_ok-row_of-in-Row.field-0 ∙ ap (λ n. n + 1) c.batch.invariant.len);
}

pub returns-clause-rows : goal.returns-clause-rows
returns-clause-rows g c = (c.batch.invariant.rows, omega (arith, c.batch.invariant.len, c.batch.auto.counter-end, c.batch-test.false))

pub returns-clause-few : goal.returns-clause-few
returns-clause-few g c = omega (arith, c.batch.invariant.len, c.batch.auto.counter-end, c.batch-test.false)
