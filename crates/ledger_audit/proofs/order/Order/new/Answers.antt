use Rattle.std.proofs.Common.{refl, sym, subst}
use Rattle.std.specs.Prelude.{unwrap_or}
use Rattle.ledger_verdict.specs.Pending.{nothing_due}
use Rattle.ledger_books.specs.Keyed.{number_of}
use Rattle.ledger_audit.specs.declared.marks.Mark.TheVariants.{Nothing}
use Rattle.ledger_audit.specs.Marks.{Tells}
use Rattle.ledger_audit.proofs.order.Order.new.Goals as goal

pub returns : goal.returns
returns c = λ L. record {
  trees = c.new.ensures;
  due = λ k. (nothing_due, refl, subst (λ o. Tells L c.new-2.result.items (unwrap_or o Nothing) nothing_due) (sym (c.no_marks.ensures (number_of k))) (refl, refl));
}
