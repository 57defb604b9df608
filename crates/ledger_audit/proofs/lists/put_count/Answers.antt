use Rattle.std.proofs.Common.{◌≡◌, cond, Some, refl, subst}
use Rattle.std.specs.HashMap.{get}
use Rattle.ledger_audit.specs.Lists.{same_slot}
use Rattle.ledger_audit.specs.declared.lists.Slot.{Slot}
use Rattle.ledger_audit.specs.declared.lists.Slot.TheVariants.{Of}
use Rattle.ledger_audit.specs.contracts.lists.SlotPartialEq as derived
use Rattle.ledger_audit.proofs.lists.put_count.Goals as goal

same_at : (k q : Slot) → derived.TheImpl.ghosts.eq k q ≡ same_slot k q
same_at (Of k s) (Of l t) = refl

pub returns : goal.returns
returns c = λ q.
    let e : derived.TheImpl.ghosts.eq ≡ same_slot = λ i k r. same_at k r i in
    subst (λ f. get f c.insert.new.self q ≡ cond (f c.args.of q) (Some c.args.count) (get f c.args.counts.now q)) e (c.in-Ok.ensures.updates.0 q)
