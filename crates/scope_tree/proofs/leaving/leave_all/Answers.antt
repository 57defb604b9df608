use Rattle.std.proofs.Common.{◌≡◌, ◌-◌, ◌<◌, suc, length, drop, [], ◌∷◌, slice_index_or, sym, ◌∙◌, subst, arith, reverse}
use Rattle.scope_tree.specs.Released.{Releases}
use Rattle.scope_tree.specs.Released.Holder.{lease}
use Rattle.scope_tree.proofs.Follows.{released_follows, same_by}
use Rattle.scope_tree.proofs.Lists.{reverse_here, reverse_next}
use Rattle.scope_tree.proofs.Releasing.{next_can, next_room, releases_append, releases_none}
use Rattle.scope_tree.proofs.Shapes.{drop_all}
use Rattle.scope_tree.proofs.leaving.leave_all.Goals as goal

pub rows-init : goal.rows-init
rows-init g c = record {
  within = omega arith;
  fits = c.requires.fits;
  released = subst (λ xs. Releases g.S.Pay.Finish.ends c.args.exit (lease c.args.stream) (reverse xs) (g.S.RowSeat.view c.args.seat.now) c.args.shelf.now.items c.args.shelf.now.items (g.S.RowSeat.view c.args.seat.now)) (sym (drop_all c.args.rows.now)) (releases_none _ _);
  room = omega arith;
  others = λ o n f. f;
}

pub leave-requires-clause-can : goal.leave-requires-clause-can
leave-requires-clause-can g c =
    let xs = c.args.rows.now in let k = c.rows.at - 1 in
    let e : c.rows.at ≡ suc k = let t = c.rows-test.true in omega arith in
    let l : k < length xs = let t = c.rows-test.true in let w = c.rows.invariant.within in omega arith in
    let x = reverse_next xs c.rows.at k 0 e l in
    next_can (reverse xs) (reverse (drop c.rows.at xs)) (slice_index_or xs k 0 ∷ []) x.0 _ _ _ _ x.1 c.requires.can c.rows.invariant.released

pub leave-requires-clause-room : goal.leave-requires-clause-room
leave-requires-clause-room g c =
    let xs = c.args.rows.now in let k = c.rows.at - 1 in
    let e : c.rows.at ≡ suc k = let t = c.rows-test.true in omega arith in
    let l : k < length xs = let t = c.rows-test.true in let w = c.rows.invariant.within in omega arith in
    let x = reverse_next xs c.rows.at k 0 e l in
    let r = next_room (reverse xs) (reverse (drop c.rows.at xs)) (slice_index_or xs k 0 ∷ []) x.0 _ _ _ _ x.1 c.rows.invariant.released in
    let a = c.requires.room in let b = c.rows.invariant.room in let p = c.args.shelf.now.ok.0 in let q = c.rows.shelf.ok.0 in omega (r, a, b, p, q, arith)

pub rows-preserved : goal.rows-preserved
rows-preserved g c =
    let xs = c.args.rows.now in let k = c.rows.at - 1 in
    let e : c.rows.at ≡ suc k = let t = c.rows-test.true in omega arith in
    let l : k < length xs = let t = c.rows-test.true in let w = c.rows.invariant.within in omega arith in
    record {
      within = omega (arith, l);
      fits = c.leave.ensures.fits;
      released = subst (λ T. Releases g.S.Pay.Finish.ends c.args.exit (lease c.args.stream) T (g.S.RowSeat.view c.args.seat.now) c.args.shelf.now.items c.leave.new.shelf.items (g.S.RowSeat.view c.leave.new.seat)) (sym (reverse_here xs c.rows.at k 0 e l)) (releases_append _ _ _ c.rows.invariant.released c.leave.ensures.released);
      room = (let a = c.rows.invariant.room in let b = c.leave.ensures.room in omega arith);
      others = λ o n f. c.leave.ensures.others o (λ z. n (z ∙ same_by (released_follows c.rows.invariant.released.2))) (c.rows.invariant.others o n f);
    }
