use Rattle.std.proofs.Common.{◌<◌, [], refl, sym, ap, ◌∙◌, subst, lit≤, arith}
use Rattle.chunk_core.specs.Lists.{IsAmong}
use Rattle.chunk_core.specs.Lists.IsAmong.{here}
use Rattle.res_ledger.specs.declared.event.StreamNo.TheVariants.{Outer}
use Rattle.row_seat.specs.Views.{IsLedgerOf}
use Rattle.scope_tree.specs.Trees.{seen}
use Rattle.scope_tree.proofs.Use.{closed_now}
use Rattle.tree_laws.specs.Alone.{StaysAlone}
use Rattle.tree_laws.proofs.Alone.{alone_can_finish, alone_whole, first_alone, first_at_start}
use Rattle.worked_trees.proofs.Used.{child_open, one_row_alone, one_row_called, root_open, still_empty}
use Rattle.worked_trees.proofs.laws.one_row.Goals as goal

pub acquired-requires-clause-scope : goal.acquired-requires-clause-scope
acquired-requires-clause-scope g c = child_open (seen g.S.RowSeat.view c.new-tree.result) (seen g.S.RowSeat.view c.open-child.new.self) (first_at_start (g.S.RowSeat.view c.new-tree.result.seat) Outer 1 8 _ (ap (λ x. x.seat) c.new-tree.ensures.seen ∙ c.requires.start) (lit≤ tt)) c.open-child.ensures.opens

pub acquired-requires-clause-row : goal.acquired-requires-clause-row
acquired-requires-clause-row g c =
    let is = ap (λ x. x.seat) c.new-tree.ensures.seen ∙ c.requires.start in
    still_empty (seen g.S.RowSeat.view c.new-tree.result) (seen g.S.RowSeat.view c.open-child.new.self) (first_at_start (g.S.RowSeat.view c.new-tree.result.seat) Outer 1 8 _ is (lit≤ tt)) c.open-child.ensures.opens (subst (λ l. IsAmong 0 l) (sym (ap (λ v. v.empty) is)) (here []))

pub close-requires-clause-scope : goal.close-requires-clause-scope
close-requires-clause-scope g c = root_open (seen g.S.RowSeat.view c.new-tree.result) (seen g.S.RowSeat.view c.open-child.new.self) (first_at_start (g.S.RowSeat.view c.new-tree.result.seat) Outer 1 8 _ (ap (λ x. x.seat) c.new-tree.ensures.seen ∙ c.requires.start) (lit≤ tt)) c.open-child.ensures.opens (seen g.S.RowSeat.view c.acquired.new.self) c.acquired.ensures.acquires

pub end-seat-requires-clause-closed : goal.end-seat-requires-clause-closed
end-seat-requires-clause-closed g c = closed_now c.close.ensures.closes

pub finish-ledger-requires-clause-can : goal.finish-ledger-requires-clause-can
finish-ledger-requires-clause-can g c =
    let v = g.S.RowSeat.view in
    let a = v c.new-tree.result.seat in
    let is = ap (λ x. x.seat) c.new-tree.ensures.seen ∙ c.requires.start in
    let start = first_at_start a Outer 1 8 _ is (lit≤ tt) in
    let alone = one_row_alone (seen g.S.RowSeat.view c.new-tree.result) (seen g.S.RowSeat.view c.open-child.new.self) start c.open-child.ensures.opens (seen g.S.RowSeat.view c.acquired.new.self) c.acquired.ensures.acquires (seen g.S.RowSeat.view c.close.new.self) c.close.ensures.closes in
    alone_can_finish a (v c.end-seat.result.0) (first_alone a Outer 1 8 _ is) (subst (λ w. StaysAlone a w) (sym c.end-seat.ensures.seat) alone) c.end-seat.ensures.rest

pub returns : goal.returns
returns g c =
    let v = g.S.RowSeat.view in
    let a = v c.new-tree.result.seat in
    let is = ap (λ x. x.seat) c.new-tree.ensures.seen ∙ c.requires.start in
    let start = first_at_start a Outer 1 8 _ is (lit≤ tt) in
    let empty = subst (λ l. IsAmong 0 l) (sym (ap (λ w. w.empty) is)) (here []) in
    let two = c.requires.room.0 in
    let room : 1 < c.new-tree.result.scopes = subst (λ n. 1 < n) (sym (ap (λ x. x.scopes) c.new-tree.ensures.seen)) (omega (arith, two)) in
    let alone = one_row_alone (seen g.S.RowSeat.view c.new-tree.result) (seen g.S.RowSeat.view c.open-child.new.self) start c.open-child.ensures.opens (seen g.S.RowSeat.view c.acquired.new.self) c.acquired.ensures.acquires (seen g.S.RowSeat.view c.close.new.self) c.close.ensures.closes in
    let calls = one_row_called (seen g.S.RowSeat.view c.new-tree.result) (seen g.S.RowSeat.view c.open-child.new.self) start c.open-child.ensures.opens (seen g.S.RowSeat.view c.acquired.new.self) c.acquired.ensures.acquires (seen g.S.RowSeat.view c.close.new.self) c.close.ensures.closes room refl empty in
    record { whole = alone_whole c.finish-ledger.result start calls alone (closed_now c.close.ensures.closes) (subst (λ w. IsLedgerOf w c.finish-ledger.result) c.end-seat.ensures.seat c.finish-ledger.ensures) }
