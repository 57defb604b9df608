use Rattle.std.proofs.Common.{◌≡◌, ◌-◌, ◌<◌, suc, length, drop, [], ◌∷◌, slice_index_or, sym, ◌∙◌, subst, arith}
use Rattle.scope_tree.specs.declared.branch.AcquiredRow.{AcquiredRow}
use Rattle.scope_tree.specs.Kids.{lasts}
use Rattle.scope_tree.specs.Released.{Releases}
use Rattle.scope_tree.specs.Released.Holder.{owner}
use Rattle.scope_tree.proofs.Follows.{released_follows, same_by}
use Rattle.scope_tree.proofs.Releasing.{releases_none, releases_append, next_can, next_room}
use Rattle.scope_tree.proofs.Shapes.{drop_all, lasts_next, lasts_here}
use Rattle.scope_tree.proofs.tear.release_rows.Goals as goal

pub rows-init : goal.rows-init
rows-init g c = record {
  within = omega arith;
  fits = c.requires.fits;
  released = subst (λ hs. Releases g.S.Pay.Finish.ends c.args.exit owner (lasts hs c.args.scope) (g.S.RowSeat.view c.args.seat.now) c.args.shelf.now.items c.args.shelf.now.items (g.S.RowSeat.view c.args.seat.now)) (sym (drop_all c.args.acquisitions.now)) (releases_none _ _);
  room = omega arith;
  others = λ o n f. f;
}

pub release-requires-clause-can : goal.release-requires-clause-can
release-requires-clause-can g c =
    let hs = c.args.acquisitions.now in let s = c.args.scope in let k = c.rows.at - 1 in let d : AcquiredRow = record { row = 0; scope = 0 } in
    let e : c.rows.at ≡ suc k = let t = c.rows-test.true in omega arith in
    let l : k < length hs = let t = c.rows-test.true in let w = c.rows.invariant.within in omega arith in
    let x = lasts_next hs s c.rows.at k d e l c.if-one-scope.true in
    next_can (lasts hs s) (lasts (drop c.rows.at hs) s) ((slice_index_or hs k d).row ∷ []) x.0 _ _ _ _ x.1 c.requires.can c.rows.invariant.released

pub release-requires-clause-room : goal.release-requires-clause-room
release-requires-clause-room g c =
    let hs = c.args.acquisitions.now in let s = c.args.scope in let k = c.rows.at - 1 in let d : AcquiredRow = record { row = 0; scope = 0 } in
    let e : c.rows.at ≡ suc k = let t = c.rows-test.true in omega arith in
    let l : k < length hs = let t = c.rows-test.true in let w = c.rows.invariant.within in omega arith in
    let x = lasts_next hs s c.rows.at k d e l c.if-one-scope.true in
    let r = next_room (lasts hs s) (lasts (drop c.rows.at hs) s) ((slice_index_or hs k d).row ∷ []) x.0 _ _ _ _ x.1 c.rows.invariant.released in
    let a = c.requires.room in let b = c.rows.invariant.room in let p = c.args.shelf.now.ok.0 in let q = c.rows.shelf.ok.0 in omega arith

pub rows-preserved-then-one-scope : goal.rows-preserved-then-one-scope
rows-preserved-then-one-scope g c =
    let hs = c.args.acquisitions.now in let s = c.args.scope in let k = c.rows.at - 1 in let d : AcquiredRow = record { row = 0; scope = 0 } in
    let e : c.rows.at ≡ suc k = let t = c.rows-test.true in omega arith in
    let l : k < length hs = let t = c.rows-test.true in let w = c.rows.invariant.within in omega arith in
    record {
      within = omega arith;
      fits = c.release.ensures.fits;
      released = subst (λ T. Releases g.S.Pay.Finish.ends c.args.exit owner T (g.S.RowSeat.view c.args.seat.now) c.args.shelf.now.items c.release.new.shelf.items (g.S.RowSeat.view c.release.new.seat)) (sym (lasts_here hs s c.rows.at k d e l c.if-one-scope.true)) (releases_append _ _ _ c.rows.invariant.released c.release.ensures.released);
      room = let a = c.rows.invariant.room in let b = c.release.ensures.room in omega arith;
      others = λ o n f. c.release.ensures.others o (λ z. n (z ∙ same_by (released_follows c.rows.invariant.released.2))) (c.rows.invariant.others o n f);
    }
