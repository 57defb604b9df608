use Rattle.std.proofs.Common.{◌++◌, ◌∷◌, sym, ◌∙◌, refl, subst, take, drop, get_or, suc, []}
use Rattle.std.proofs.lemmas.Bool.{false≢true}
use Rattle.res_ledger.specs.declared.event.StreamNo.TheVariants.{Outer}
use Rattle.res_ledger.specs.declared.event.What.TheVariants.{Open}
use Rattle.res_ledger.specs.declared.event.Event.{Event}
use Rattle.res_ledger.specs.Ledger.{IsLegal}
use Rattle.res_ledger.proofs.Prefixes.{legal_more}
use Rattle.ledger_books.specs.Kept.{Follows}
use Rattle.ledger_books.proofs.Heads.{at_place, none_legal, one_more, whole}
use Rattle.ledger_books.proofs.books.first_illegal.Goals as goal

abbrev nobody : Event
nobody = record { stamp = 0; by = Outer; what = Open 0 0 }

pub loop-i-init : goal.loop-i-init
loop-i-init c = record { keeps = c.in_ok-books.ensures; legal = none_legal }

pub loop-i-preserved : goal.loop-i-preserved
loop-i-preserved c =
    let xs = c.args.events.now in
    let i = c.loop-i.i in
    let t = at_place xs i nobody c.loop-i-test.true in
    let legal : IsLegal (take i xs ++ get_or xs i nobody ∷ []) = legal_more (take i xs) (get_or xs i nobody) c.loop-i.invariant.legal (c.in_ok-may_follow.ensures.0 c.if-not-branch.false) in
    record {
      keeps = subst (Follows c.note.new.self xs) (sym (one_more xs i nobody c.loop-i-test.true)) (c.in_ok-note.ensures xs (take i xs) (drop (suc i) xs) t.1 t.0 legal c.loop-i.invariant.keeps);
      legal = subst IsLegal (sym (one_more xs i nobody c.loop-i-test.true)) legal;
    }

pub returns : goal.returns
returns c = subst IsLegal (whole c.args.events.now c.loop-i.i c.loop-i-test.false) c.loop-i.invariant.legal

pub returns-then-not-branch : goal.returns-then-not-branch
returns-then-not-branch c =
    let xs = c.args.events.now in
    let i = c.loop-i.i in
    let t = at_place xs i nobody c.loop-i-test.true in
    (take i xs, drop (suc i) xs, get_or xs i nobody, t.0, t.1, c.loop-i.invariant.legal, λ l. false≢true (sym c.if-not-branch.true ∙ c.in_ok-may_follow.ensures.1 (l (take i xs) [] (get_or xs i nobody) refl)))
