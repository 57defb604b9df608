use Rattle.std.proofs.Common.{◌++◌, ◌∷◌, [], suc, sym, subst, ◌∙◌, take, drop, get_or, append_assoc}
use Rattle.res_ledger.specs.declared.event.StreamNo.TheVariants.{Outer}
use Rattle.res_ledger.specs.declared.event.What.TheVariants.{Open}
use Rattle.res_ledger.specs.declared.event.Event.{Event}
use Rattle.res_ledger.specs.Ledger.{IsLegal}
use Rattle.res_ledger.proofs.Prefixes.{front_legal}
use Rattle.ledger_books.specs.Kept.{Follows}
use Rattle.ledger_books.proofs.Heads.{at_place, one_more, whole}
use Rattle.ledger_audit.proofs.judge.books_of.Goals as goal

abbrev nobody : Event
nobody = record { stamp = 0; by = Outer; what = Open 0 0 }

pub loop-i-init : goal.loop-i-init
loop-i-init c = record { follows = c.in_ok-books.ensures; legal = c.requires }

pub loop-i-preserved : goal.loop-i-preserved
loop-i-preserved c =
    let xs = c.args.events.now in
    let i = c.loop-i.i in
    let e = get_or xs i nobody in
    let t = at_place xs i nobody c.loop-i-test.true in
    let legal : IsLegal (take i xs ++ e ∷ []) = front_legal (take i xs ++ e ∷ []) (drop (suc i) xs) (subst IsLegal (t.0 ∙ sym (append_assoc (take i xs) (e ∷ []) (drop (suc i) xs))) c.requires) in
    record {
      follows = subst (Follows c.note.new.self xs) (sym (one_more xs i nobody c.loop-i-test.true)) (c.in_ok-note.ensures xs (take i xs) (drop (suc i) xs) t.1 t.0 legal c.loop-i.invariant.follows);
      legal = c.requires;
    }

pub returns : goal.returns
returns c = (subst (Follows c.loop-i.books c.args.events.now) (whole c.args.events.now c.loop-i.i c.loop-i-test.false) c.loop-i.invariant.follows).0
