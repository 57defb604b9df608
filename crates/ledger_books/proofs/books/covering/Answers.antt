use Rattle.std.proofs.Common.{◌≡◌, ◌<◌, ◌-◌, ℕ, List, suc, arith, sym, ◌∙◌, ap, Some, slice_get, subst, length, get_or, refl}
use Rattle.std.proofs.lemmas.Bool.{false≢true}
use Rattle.std.proofs.lemmas.Option.{slice_get-get_or}
use Rattle.ledger_books.specs.Keyed.{CoversAt}
use Rattle.ledger_books.proofs.Walking.{Found, found_ends, rest_before, found_skip, found_more, found_start, found_at, lease_shape}
use Rattle.ledger_books.proofs.books.covering.Goals as goal

pub loop-n-init : goal.loop-n-init
loop-n-init c = record {
  keeps = c.requires.keeps;
  legal = c.requires.legal;
  row = c.requires.row;
  within = omega arith;
  found = found_start c.args.past.now c.args.books.now.leases.items c.args.row c.len-n.result c.new-found.result.items (omega arith) c.new-found.ensures.items;
}

here : (xs : List ℕ) (n i : ℕ) → n < length xs → i ≡ get_or xs n i → slice_get xs n ≡ Some i
here xs n i l e = slice_get-get_or xs n i l ∙ ap Some (sym e)

pub returns-then-place-at : goal.returns-then-place-at
returns-then-place-at c = λ j.
    let xs = c.args.books.now.leases.items in
    let n = c.loop-n.n - 1 in
    let a : slice_get xs n ≡ Some c.index-place.result.now = here xs n c.index-place.result.now (let w = c.loop-n.invariant.within in omega arith) c.index-place.ensures in
    let m : c.loop-n.n ≡ suc n = omega arith in
    found_ends c.args.past.now c.requires.legal xs c.requires.keeps.leases c.args.owner c.args.row c.args.at c.args.of c.requires.row (suc n) c.loop-n.found.items
    (rest_before c.args.past.now c.requires.legal xs c.requires.keeps.leases c.args.owner c.args.row c.args.at c.args.of c.requires.row n c.index-place.result.now a c.if-place-at.true)
    (found_at c.args.past.now xs c.args.row c.loop-n.n (suc n) c.loop-n.found.items m c.loop-n.invariant.found) j

pub returns-in_default : goal.returns-in_default
returns-in_default c =
    let xs = c.args.books.now.leases.items in
    let n = c.loop-n.n - 1 in
    let a : slice_get xs n ≡ Some c.index-place.result.now = here xs n c.index-place.result.now (let w = c.loop-n.invariant.within in omega arith) c.index-place.ensures in
    let t = c.requires.keeps.leases.stands n c.index-place.result.now a in
    let s = lease_shape t.0.what t.2 in
    absurd (c.in_default.ensures t.0.by s.0 s.1 (t.0, t.1, refl, s.2))

pub loop-n-preserved : goal.loop-n-preserved
loop-n-preserved c =
    let xs = c.args.books.now.leases.items in
    let n = c.loop-n.n - 1 in
    let a : slice_get xs n ≡ Some c.index-place.result.now = here xs n c.index-place.result.now (let w = c.loop-n.invariant.within in omega arith) c.index-place.ensures in
    let m : c.loop-n.n ≡ suc n = omega arith in
    let bare : ¬ (CoversAt c.args.past.now c.index-place.result.now c.in-Some.by c.in-Some.scope c.args.row) = λ v. false≢true (sym c.if-covers.false ∙ (c.covers.ensures c.in-Some.stream c.in-Some.ensures).1 v) in
    record {
      keeps = c.requires.keeps;
      legal = c.requires.legal;
      row = c.requires.row;
      within = (let w = c.loop-n.invariant.within in omega arith);
      found = found_skip c.args.past.now c.requires.legal xs c.requires.keeps.leases c.args.owner c.args.row c.args.at c.args.of c.requires.row n c.index-place.result.now c.in-Some.stream c.in-Some.scope c.in-Some.by c.loop-n.found.items a c.in-Some.ensures bare
          (found_at c.args.past.now xs c.args.row c.loop-n.n (suc n) c.loop-n.found.items m c.loop-n.invariant.found);
    }

pub loop-n-preserved-in-Continue-1 : goal.loop-n-preserved-in-Continue-1
loop-n-preserved-in-Continue-1 c =
    let xs = c.args.books.now.leases.items in
    let n = c.loop-n.n - 1 in
    let a : slice_get xs n ≡ Some c.index-place.result.now = here xs n c.index-place.result.now (let w = c.loop-n.invariant.within in omega arith) c.index-place.ensures in
    let m : c.loop-n.n ≡ suc n = omega arith in
    let v : CoversAt c.args.past.now c.index-place.result.now c.in-Some.by c.in-Some.scope c.args.row = (c.covers.ensures c.in-Some.stream c.in-Some.ensures).0 c.if-covers.true in
    record {
      keeps = c.requires.keeps;
      legal = c.requires.legal;
      row = c.requires.row;
      within = (let w = c.loop-n.invariant.within in omega arith);
      found = subst (Found c.args.past.now xs c.args.row n) (sym c.in_ok-push.ensures.items)
          (found_more c.args.past.now c.requires.legal xs c.requires.keeps.leases c.args.owner c.args.row c.args.at c.args.of c.requires.row n c.index-place.result.now c.in-Some.stream c.in-Some.scope c.in-Some.by c.loop-n.found.items a c.in-Some.ensures v
          (found_at c.args.past.now xs c.args.row c.loop-n.n (suc n) c.loop-n.found.items m c.loop-n.invariant.found));
    }

pub returns : goal.returns
returns c = λ j. found_ends c.args.past.now c.requires.legal c.args.books.now.leases.items c.requires.keeps.leases c.args.owner c.args.row c.args.at c.args.of c.requires.row c.loop-n.n c.loop-n.found.items (λ m i h l. absurd (omega arith)) c.loop-n.invariant.found j
