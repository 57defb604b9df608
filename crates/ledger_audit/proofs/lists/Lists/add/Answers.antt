use Rattle.std.proofs.Common.{arith, Result, Ok, Err}
use Rattle.std.specs.Prelude.{OnOk}
use Rattle.ledger_audit.specs.declared.lists.Slot.TheVariants.{Of}
use Rattle.ledger_audit.specs.declared.lists.Item.TheVariants.{At}
use Rattle.ledger_audit.proofs.Adding.{list_more}
use Rattle.ledger_audit.proofs.lists.Lists.add.Goals as goal

on_ok : {T E A B : Type 0} (r : Result T E) → (A → B) → OnOk r A → OnOk r B
on_ok (Ok x) f a = f a
on_ok (Err e) f a = tt

pub returns : goal.returns
returns c = on_ok c.put_count.result
    (λ b k s xs h. list_more c.args.self.now (record { counts = c.put_count.new.counts; items = c.put_item.new.items }) c.args.stream c.args.scope c.args.number c.count-count.result c.in-Some.more
    (λ l t m. c.in_ok-put_item.ensures (At l t m))
    (λ l t. b (Of l t))
    c.count-count.ensures (omega arith) k s xs h)
    c.put_count.ensures
