-- The file that is read couldn't be opened, and no row was acquired.
use Rattle.std.proofs.Common.{◌≡◌, [], true, subst, sym}
use Rattle.scope_tree.specs.Trees.{seen}
use Rattle.scope_tree.specs.Calls.{Seen}
use Rattle.scope_tree.specs.Rights.{HasNoLeaseBut}
use Rattle.hot_swap.specs.Swaps.{IsHolding, held, seen_tree}
use Rattle.rotate_run.proofs.Closings.{closes_unused, no_lease, no_row, no_scope}
use Rattle.rotate_run.proofs.closed.close_unopened.Goals as goal

pub end-seat-requires-clause-holding : goal.end-seat-requires-clause-holding
end-seat-requires-clause-holding g c =
    let a = seen g.S.RowSeat.view c.args.tree in
    let u = c.requires.unused in
    let f = c.new-files.ensures in
    subst (λ o. IsHolding (seen_tree g.S.RowSeat.view c.new-files.result) o) (sym f.none) (f.holding (no_scope a u) u.root (no_row a u))

pub returns-clause-finish : goal.returns-clause-finish
returns-clause-finish g c =
    let a = seen g.S.RowSeat.view c.args.tree in
    let u = c.requires.unused in
    let same = sym c.new-files.ensures.seen in
    c.end-seat.ensures.finish (subst (λ (s : Seen g.row.V.Denot). s.seat.main ≡ true) same u.others.main) (subst (λ (s : Seen g.row.V.Denot). s.seat.out ≡ []) same u.others.out) (subst (λ (s : Seen g.row.V.Denot). HasNoLeaseBut s.seat []) same (no_lease a u))

pub returns-clause-closes : goal.returns-clause-closes
returns-clause-closes g c =
    let a = seen g.S.RowSeat.view c.args.tree in
    let f = c.new-files.ensures in
    let e = c.end-seat.ensures in
    closes_unused a c.requires.unused g.V.Device.told c.args.device (seen_tree g.S.RowSeat.view c.new-files.result) (held c.new-files.result) (g.S.RowSeat.view c.end-seat.result.0) c.end-seat.result.1 f.seen f.none e.ends e.closes e.root
