use Rattle.std.proofs.Common.{◌+◌, ◌<◌, ◌≤◌, [], ◌∷◌, length, inl, inr, refl, sym, subst, lit≤, lit<}
use Rattle.chunk_core.specs.Lists.{IsAmong}
use Rattle.chunk_core.specs.Lists.IsAmong.{here, there}
use Rattle.res_ledger.specs.declared.event.StreamNo.TheVariants.{Outer}
use Rattle.res_ledger.specs.Own.{opens}
use Rattle.row_seat.specs.Views.{start}
use Rattle.scope_tree.specs.Calls.{IsClosedScope, IsOpenScope, Seen, WasOpened, used}
use Rattle.tree_scripts.specs.Scripts.{at_first, after_acquire, after_open}
use Rattle.scope_tree.specs.Trace.{owed, trace}
use Rattle.tree_scripts.proofs.ThreeRows.{acquires_is, first_is, opens_is, script_start}
use Rattle.scope_tree.proofs.Use.{all_open}
use Rattle.tree_scripts.proofs.scripts.three_rows.Goals as goal

pub new-tree-requires : goal.new-tree-requires
new-tree-requires g c = record { start = script_start (g.S.RowSeat.view c.args.seat) Outer 3 16 _ (lit≤ tt) c.requires.start }

pub acquired-requires : goal.acquired-requires
acquired-requires g c =
    let splits = (g.S.RowSeat.view c.args.seat).splits in let first = c.args.first in let second = c.args.second in let third = c.args.third in
    let a0 = first_is c.new-tree.ensures.seen c.requires.start c.requires.room.0 c.requires.room.1 in
    record {
      fits = c.new-tree.ensures.fits c.args.desk.now c.requires.fits;
      scope = subst (λ a. IsOpenScope a 0) (sym a0) (all_open {P = g.row.S-Pay.Denot} (start Outer 3 16 splits) 0 refl (inl refl));
      row = subst (λ (a : Seen _). IsAmong 0 a.seat.empty) (sym a0) (here (1 ∷ 2 ∷ []));
      room = subst (λ a. used a + 1 ≤ a.rows) (sym a0) (lit≤ tt);
      free = subst (λ (a : Seen _). owed a.seat + 2 ≤ a.seat.spare) (sym a0) (lit≤ tt);
    }

pub open-requires : goal.open-requires
open-requires g c =
    let splits = (g.S.RowSeat.view c.args.seat).splits in let first = c.args.first in let second = c.args.second in let third = c.args.third in
    let a0 = first_is c.new-tree.ensures.seen c.requires.start c.requires.room.0 c.requires.room.1 in
    let A1 = after_acquire (at_first splits) 0 0 c.acquired.ensures.acquires.stamp first in let a1 = acquires_is (at_first splits) a0 c.acquired.ensures.acquires in
    record {
      fits = c.acquired.ensures.fits;
      root = subst (λ a. ¬ (IsClosedScope a 0)) (sym a1) (all_open A1.seat 0 refl (inl refl)).1;
      at = inl refl;
      room = subst (λ (a : Seen _). length (opens (trace a.seat)) + 1 < a.scopes) (sym a1) (lit< tt);
      free = subst (λ (a : Seen _). owed a.seat + 2 ≤ a.seat.spare) (sym a1) (lit≤ tt);
    }

pub acquired-requires-2 : goal.acquired-requires-2
acquired-requires-2 g c =
    let splits = (g.S.RowSeat.view c.args.seat).splits in let first = c.args.first in let second = c.args.second in let third = c.args.third in
    let a0 = first_is c.new-tree.ensures.seen c.requires.start c.requires.room.0 c.requires.room.1 in
    let A1 = after_acquire (at_first splits) 0 0 c.acquired.ensures.acquires.stamp first in let a1 = acquires_is (at_first splits) a0 c.acquired.ensures.acquires in
    let A2 = after_open A1 1 0 c.open.ensures.opens.stamp in let a2 = opens_is A1 a1 (all_open A1.seat 0 refl (inl refl)).1 c.open.ensures.opens in
    record {
      fits = c.open.ensures.fits;
      scope = subst (λ a. IsOpenScope a 1) (sym a2) (all_open A2.seat 1 refl (inr (0, here [])));
      row = subst (λ (a : Seen _). IsAmong 1 a.seat.empty) (sym a2) (here (2 ∷ []));
      room = subst (λ a. used a + 1 ≤ a.rows) (sym a2) (lit≤ tt);
      free = subst (λ (a : Seen _). owed a.seat + 2 ≤ a.seat.spare) (sym a2) (lit≤ tt);
    }

pub open-requires-2 : goal.open-requires-2
open-requires-2 g c =
    let splits = (g.S.RowSeat.view c.args.seat).splits in let first = c.args.first in let second = c.args.second in let third = c.args.third in
    let a0 = first_is c.new-tree.ensures.seen c.requires.start c.requires.room.0 c.requires.room.1 in
    let A1 = after_acquire (at_first splits) 0 0 c.acquired.ensures.acquires.stamp first in let a1 = acquires_is (at_first splits) a0 c.acquired.ensures.acquires in
    let A2 = after_open A1 1 0 c.open.ensures.opens.stamp in let a2 = opens_is A1 a1 (all_open A1.seat 0 refl (inl refl)).1 c.open.ensures.opens in
    let A3 = after_acquire A2 1 1 c.acquired-2.ensures.acquires.stamp second in let a3 = acquires_is A2 a2 c.acquired-2.ensures.acquires in
    record {
      fits = c.acquired-2.ensures.fits;
      root = subst (λ a. ¬ (IsClosedScope a 0)) (sym a3) (all_open A3.seat 0 refl (inl refl)).1;
      at = subst (λ a. WasOpened a 1) (sym a3) (all_open A3.seat 1 refl (inr (0, here []))).0;
      room = subst (λ (a : Seen _). length (opens (trace a.seat)) + 1 < a.scopes) (sym a3) (lit< tt);
      free = subst (λ (a : Seen _). owed a.seat + 2 ≤ a.seat.spare) (sym a3) (lit≤ tt);
    }

pub acquired-requires-3 : goal.acquired-requires-3
acquired-requires-3 g c =
    let splits = (g.S.RowSeat.view c.args.seat).splits in let first = c.args.first in let second = c.args.second in let third = c.args.third in
    let a0 = first_is c.new-tree.ensures.seen c.requires.start c.requires.room.0 c.requires.room.1 in
    let A1 = after_acquire (at_first splits) 0 0 c.acquired.ensures.acquires.stamp first in let a1 = acquires_is (at_first splits) a0 c.acquired.ensures.acquires in
    let A2 = after_open A1 1 0 c.open.ensures.opens.stamp in let a2 = opens_is A1 a1 (all_open A1.seat 0 refl (inl refl)).1 c.open.ensures.opens in
    let A3 = after_acquire A2 1 1 c.acquired-2.ensures.acquires.stamp second in let a3 = acquires_is A2 a2 c.acquired-2.ensures.acquires in
    let A4 = after_open A3 2 1 c.open-2.ensures.opens.stamp in let a4 = opens_is A3 a3 (all_open A3.seat 1 refl (inr (0, here []))).1 c.open-2.ensures.opens in
    record {
      fits = c.open-2.ensures.fits;
      scope = subst (λ a. IsOpenScope a 2) (sym a4) (all_open A4.seat 2 refl (inr (1, there (1, 0) (here []))));
      row = subst (λ (a : Seen _). IsAmong 2 a.seat.empty) (sym a4) (here []);
      room = subst (λ a. used a + 1 ≤ a.rows) (sym a4) (lit≤ tt);
      free = subst (λ (a : Seen _). owed a.seat + 2 ≤ a.seat.spare) (sym a4) (lit≤ tt);
    }

pub returns-clause-three : goal.returns-clause-three
returns-clause-three g c =
    let splits = (g.S.RowSeat.view c.args.seat).splits in let first = c.args.first in let second = c.args.second in let third = c.args.third in
    let a0 = first_is c.new-tree.ensures.seen c.requires.start c.requires.room.0 c.requires.room.1 in
    let A1 = after_acquire (at_first splits) 0 0 c.acquired.ensures.acquires.stamp first in let a1 = acquires_is (at_first splits) a0 c.acquired.ensures.acquires in
    let A2 = after_open A1 1 0 c.open.ensures.opens.stamp in let a2 = opens_is A1 a1 (all_open A1.seat 0 refl (inl refl)).1 c.open.ensures.opens in
    let A3 = after_acquire A2 1 1 c.acquired-2.ensures.acquires.stamp second in let a3 = acquires_is A2 a2 c.acquired-2.ensures.acquires in
    let A4 = after_open A3 2 1 c.open-2.ensures.opens.stamp in let a4 = opens_is A3 a3 (all_open A3.seat 1 refl (inr (0, here []))).1 c.open-2.ensures.opens in
    let a5 = acquires_is A4 a4 c.acquired-3.ensures.acquires in
    (splits, c.acquired.ensures.acquires.stamp, c.open.ensures.opens.stamp, c.acquired-2.ensures.acquires.stamp, c.open-2.ensures.opens.stamp, c.acquired-3.ensures.acquires.stamp, a5)
