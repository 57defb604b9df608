use Rattle.std.proofs.Common.{sym, subst, length, take, get_or}
use Rattle.res_ledger.specs.declared.event.StreamNo.TheVariants.{Outer}
use Rattle.res_ledger.specs.declared.event.What.TheVariants.{Open}
use Rattle.res_ledger.specs.declared.event.Event.{Event}
use Rattle.ledger_books.specs.Ends.{IsFirsts}
use Rattle.ledger_books.specs.Keyed.{KeepsFirst}
use Rattle.ledger_books.proofs.Ending.{firsts_none, firsts_more}
use Rattle.ledger_books.proofs.Heads.{at_place, one_more, whole}
use Rattle.ledger_books.proofs.ends.firsts_of.Goals as goal

abbrev nobody : Event
nobody = record { stamp = 0; by = Outer; what = Open 0 0 }

pub loop-i-init : goal.loop-i-init
loop-i-init c = firsts_none c.new-firsts.result c.new-firsts.ensures

pub loop-i-preserved : goal.loop-i-preserved
loop-i-preserved c =
    let xs = c.args.events.now in
    let i = c.loop-i.i in
    let e = get_or xs i nobody in
    subst (IsFirsts c.add_first.new.self) (sym (one_more xs i nobody c.loop-i-test.true))
    (firsts_more c.loop-i.firsts c.add_first.new.self (take i xs) e c.loop-i.invariant
    (subst (λ q. KeepsFirst c.loop-i.firsts c.add_first.new.self q (length (take i xs))) c.key_for.ensures (subst (λ n. KeepsFirst c.loop-i.firsts c.add_first.new.self c.key_for.result n) (sym (at_place xs i nobody c.loop-i-test.true).1) c.in_ok-add_first.ensures)))

pub returns : goal.returns
returns c = subst (IsFirsts c.loop-i.firsts) (whole c.args.events.now c.loop-i.i c.loop-i-test.false) c.loop-i.invariant
