use Rattle.std.proofs.Common.{◌≡◌, cond, Some, refl, subst}
use Rattle.std.specs.HashMap.{get}
use Rattle.ledger_audit.specs.Lists.{same_item}
use Rattle.ledger_audit.specs.declared.lists.Item.{Item}
use Rattle.ledger_audit.specs.declared.lists.Item.TheVariants.{At}
use Rattle.ledger_audit.specs.contracts.lists.ItemPartialEq as derived
use Rattle.ledger_audit.proofs.lists.put_item.Goals as goal

same_at : (k q : Item) → derived.TheImpl.ghosts.eq k q ≡ same_item k q
same_at (At k s n) (At l t m) = refl

pub returns : goal.returns
returns c = λ q.
    let e : derived.TheImpl.ghosts.eq ≡ same_item = λ i k r. same_at k r i in
    subst (λ f. get f c.insert.new.self q ≡ cond (f c.args.at q) (Some c.args.number) (get f c.args.items.now q)) e (c.in-Ok.ensures.updates.0 q)
