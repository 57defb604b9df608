use Rattle.std.proofs.Common.{◌≡◌, ℕ, ◌+◌, ◌-◌, ◌<◌, ◌≤◌, suc, false, length, drop, ◌++◌, [], slice_index_or, sym, ap, ◌∙◌, subst, arith, append-nil}
use Rattle.scope_tree.specs.declared.branch.Branch.{Branch}
use Rattle.scope_tree.specs.Kids.{lasts, kids, whole}
use Rattle.scope_tree.specs.Released.{Releases}
use Rattle.scope_tree.specs.Released.Holder.{owner}
use Rattle.scope_tree.proofs.Follows.{released_follows, same_by}
use Rattle.scope_tree.proofs.Releasing.{releases_none, releases_append, next_can, next_room}
use Rattle.scope_tree.proofs.Shapes.{drop_all, kids_next, kids_here}
use Rattle.scope_tree.proofs.tear.+tear.Goals as goal
use Rattle.chunk_core.proofs.Bools.{not_so}

pub children-init : goal.children-init
children-init g t c = record {
  low = let s = c.requires.scope in omega arith;
  high = omega arith;
  fits = c.requires.fits;
  released = subst (λ bs. Releases g.S.Pay.Finish.ends c.args.exit owner (kids (length c.args.branches.now) bs c.args.acquisitions.now c.args.scope) (g.S.RowSeat.view c.args.seat.now) c.args.shelf.now.items c.args.shelf.now.items (g.S.RowSeat.view c.args.seat.now)) (sym (drop_all c.args.branches.now)) (releases_none _ _);
  room = omega arith;
  others = λ o n f. f;
}

pub tear-requires : goal.tear-requires
tear-requires g t c κs within =
    let bs = c.args.branches.now in let hs = c.args.acquisitions.now in let s = c.args.scope in let k = c.children.child - 1 in let d : Branch = record { parent = 0; shut = false } in
    let e : c.children.child ≡ suc k = let t = c.children-test.true in omega arith in
    let l : k < length bs = let t = c.children-test.true in let w = c.children.invariant.high in omega arith in
    let low : suc s ≤ k = let t = c.children-test.true in omega arith in
    let open' : (slice_index_or bs k d).shut ≡ false = not_so _ c.if-not-branch.true in
    let x = kids_next bs hs s c.children.child k d e l low c.if-branch-scope.true open' in
    let W = whole bs hs s in let D = kids c.children.child (drop c.children.child bs) hs s in let N = whole bs hs k in
    let r = next_room W D N x.0 _ _ _ _ x.1 c.children.invariant.released in (
      omega (arith, c.decreases, e, l, low),
      (
        within.0,
        (
          within.1.0,
          (
            within.1.1,
            (
              l,
              (
                c.children.invariant.fits,
                (
                  next_can W D N x.0 _ _ _ _ x.1 c.requires.can c.children.invariant.released,
                  (let a = c.requires.room in let b = c.children.invariant.room in let p = c.args.shelf.now.ok.0 in let q = c.children.shelf.ok.0 in omega arith),
                ),
              ),
            ),
          ),
        ),
      ),
    )

pub children-preserved-then-not-branch : goal.children-preserved-then-not-branch
children-preserved-then-not-branch g t c =
    let bs = c.args.branches.now in let hs = c.args.acquisitions.now in let s = c.args.scope in let k = c.children.child - 1 in let d : Branch = record { parent = 0; shut = false } in
    let e : c.children.child ≡ suc k = let t = c.children-test.true in omega arith in
    let l : k < length bs = let t = c.children-test.true in let w = c.children.invariant.high in omega arith in
    let low : suc s ≤ k = let t = c.children-test.true in omega arith in
    let open' : (slice_index_or bs k d).shut ≡ false = not_so _ c.if-not-branch.true in
    record {
      low = low;
      high = omega (arith, l);
      fits = c.tear.ensures.fits;
      released = subst (λ T. Releases g.S.Pay.Finish.ends c.args.exit owner T (g.S.RowSeat.view c.args.seat.now) c.args.shelf.now.items c.tear.new.shelf.items (g.S.RowSeat.view c.tear.new.seat)) (sym (kids_here bs hs s c.children.child k d e l c.if-branch-scope.true open')) (releases_append _ _ _ c.children.invariant.released c.tear.ensures.released);
      room = let a = c.children.invariant.room in let b = c.tear.ensures.room in omega arith;
      others = λ o n f. c.tear.ensures.others o (λ z. n (z ∙ same_by (released_follows c.children.invariant.released.2))) (c.children.invariant.others o n f);
    }

at_end : (c s : ℕ) → suc s ≤ c → c ≤ s + 1 → suc s ≡ c
at_end c s a b = omega arith

pub release_rows-requires-clause-can : goal.release_rows-requires-clause-can
release_rows-requires-clause-can g t c =
    let bs = c.args.branches.now in let hs = c.args.acquisitions.now in let s = c.args.scope in
    let e = at_end c.children.child s c.children.invariant.low c.children-test.false in
    let D = kids c.children.child (drop c.children.child bs) hs s in
    next_can (whole bs hs s) D (lasts hs s) [] _ _ _ _ (ap (λ n. kids n (drop n bs) hs s ++ lasts hs s) e ∙ sym (append-nil (D ++ lasts hs s))) c.requires.can c.children.invariant.released

pub release_rows-requires-clause-room : goal.release_rows-requires-clause-room
release_rows-requires-clause-room g t c =
    let bs = c.args.branches.now in let hs = c.args.acquisitions.now in let s = c.args.scope in
    let e = at_end c.children.child s c.children.invariant.low c.children-test.false in
    let D = kids c.children.child (drop c.children.child bs) hs s in
    let r = next_room (whole bs hs s) D (lasts hs s) [] _ _ _ _ (ap (λ n. kids n (drop n bs) hs s ++ lasts hs s) e ∙ sym (append-nil (D ++ lasts hs s))) c.children.invariant.released in
    let a = c.requires.room in let b = c.children.invariant.room in let p = c.args.shelf.now.ok.0 in let q = c.children.shelf.ok.0 in omega arith

pub returns-clause-released : goal.returns-clause-released
returns-clause-released g t c =
    let bs = c.args.branches.now in let hs = c.args.acquisitions.now in let s = c.args.scope in
    let e = at_end c.children.child s c.children.invariant.low c.children-test.false in
    subst (λ n. Releases g.S.Pay.Finish.ends c.args.exit owner (kids n (drop n bs) hs s ++ lasts hs s) (g.S.RowSeat.view c.args.seat.now) c.args.shelf.now.items c.release_rows.new.shelf.items (g.S.RowSeat.view c.release_rows.new.seat)) (sym e) (releases_append _ _ _ c.children.invariant.released c.release_rows.ensures.released)

pub returns-clause-others : goal.returns-clause-others
returns-clause-others g t c = λ o n f. c.release_rows.ensures.others o (λ z. n (z ∙ same_by (released_follows c.children.invariant.released.2))) (c.children.invariant.others o n f)
