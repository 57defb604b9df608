use Rattle.std.proofs.Common.{◌↔◌, arith, refl, subst}
use Rattle.std.proofs.lemmas.Bool.{false≢true}
use Rattle.std.proofs.lemmas.Option.{slice_get_within}
use Rattle.res_ledger.specs.Ledger.{LiesWithin}
use Rattle.res_ledger.specs.Ledger.LiesWithin.{same}
use Rattle.ledger_books.proofs.Placed.{within_by_parent, within_not, parent_before}
use Rattle.ledger_books.proofs.scopes.walks_up.Goals as goal

pub loop-at-init : goal.loop-at-init
loop-at-init c = record {
  index = c.requires.index;
  legal = c.requires.legal;
  within = ((λ h. h), (λ h. h));
  opened = λ i p t. slice_get_within c.args.past.now i t.0 t.1;
}

pub loop-at-preserved : goal.loop-at-preserved
loop-at-preserved c =
    let P = c.args.past.now in
    let k = c.args.by in
    let s = c.loop-at.at in
    let p = c.in-Some.parent in
    let i = c.in-Some.place in
    let e : LiesWithin P k p c.args.above ↔ LiesWithin P k s c.args.above = within_by_parent P c.requires.legal k i s p c.args.above c.in-Some.ensures c.loop-at-test.true in
    record {
      index = c.requires.index;
      legal = c.requires.legal;
      within = ((λ h. c.loop-at.invariant.within.0 (e.0 h)), (λ h. e.1 (c.loop-at.invariant.within.1 h)));
      opened = λ j q t. parent_before P c.requires.legal k i j s p q c.in-Some.ensures t;
    }

pub returns-in_default : goal.returns-in_default
returns-in_default c = ((λ h. absurd (false≢true h)), (λ h. absurd (within_not c.args.past.now c.requires.legal c.args.by c.loop-at.at c.args.above c.in_default.ensures c.loop-at-test.true (c.loop-at.invariant.within.1 h))))

pub returns-then-place-below : goal.returns-then-place-below
returns-then-place-below c = let l = c.loop-at.invariant.opened c.in-Some.place c.in-Some.parent c.in-Some.ensures in absurd (omega arith)

pub returns : goal.returns
returns c = ((λ h. c.loop-at.invariant.within.0 (subst (LiesWithin c.args.past.now c.args.by c.loop-at.at) c.loop-at-test.false (same c.loop-at.at))), (λ h. refl))
