use Rattle.std.proofs.Common.{sym, ◌∙◌, subst}
use Rattle.scope_tree.specs.Calls.{Leases}
use Rattle.tree_laws.specs.Called.{MayLease}
use Rattle.scope_tree.specs.Trees.{seen}
use Rattle.join_tree.proofs.Growing.{main_leases, main_main, main_may_lease}
use Rattle.join_tree.proofs.Keeping.{keeps_leases, leased_tables, leases_take}
use Rattle.join_tree.proofs.Paying.{lease_pays, leases_opened}
use Rattle.join_tree.proofs.Given.{lease_gives}
use Rattle.join_tree.proofs.outer.lease_next.Goals as goal

pub lease-requires-clause-main : goal.lease-requires-clause-main
lease-requires-clause-main g c = main_main c.requires.main.3

pub lease-requires-clause-stream : goal.lease-requires-clause-stream
lease-requires-clause-stream g c =
    let m = c.requires.main in
    let a = subst (λ k. MayLease (seen g.S.RowSeat.view c.args.tree.now) c.args.scope k) m.5 (main_may_lease m.3 c.requires.scope) in (a.other, a.new, a.unleased)

pub returns-clause-leases : goal.returns-clause-leases
returns-clause-leases g c width n p h root same less fits =
    let b = seen g.S.RowSeat.view c.args.tree.now in
    let d = seen g.S.RowSeat.view c.lease.new.self in
    let T = c.in_ok-lease.lease.rows.items in
    let o = c.in_ok-lease.ensures.ok in
    let l = subst (λ k. Leases b c.args.scope k T d) (sym same) o.1 in
    (o.0 ∙ sym same, l.covered, leased_tables b d p c.args.scope T h l, main_leases b d p c.args.scope T h root less fits c.requires.scope l c.in_ok-lease.ensures.scopes)

pub returns-clause-guests : goal.returns-clause-guests
returns-clause-guests g c =
    let m = c.requires.main in
    let b = seen g.S.RowSeat.view c.args.tree.now in
    let d = seen g.S.RowSeat.view c.lease.new.self in
    let T = c.in_ok-lease.lease.rows.items in
    keeps_leases b d m.2 c.args.scope T m.3 c.requires.scope (subst (λ k. Leases b c.args.scope k T d) (sym m.5) c.in_ok-lease.ensures.ok.1)

pub returns-clause-events : goal.returns-clause-events
returns-clause-events g c = leases_take g.S.Pay.Finish.ends (seen g.S.RowSeat.view c.args.tree.now) (seen g.S.RowSeat.view c.lease.new.self) c.args.scope c.args.stream c.in_ok-lease.lease.rows.items c.in_ok-lease.ensures.ok.1

pub returns-clause-rows : goal.returns-clause-rows
returns-clause-rows g c = lease_pays (seen g.S.RowSeat.view c.args.tree.now) (seen g.S.RowSeat.view c.lease.new.self) c.args.scope c.args.stream c.in_ok-lease.lease.rows.items c.in_ok-lease.ensures.ok.1

pub returns-clause-opened : goal.returns-clause-opened
returns-clause-opened g c = leases_opened (seen g.S.RowSeat.view c.args.tree.now) (seen g.S.RowSeat.view c.lease.new.self) c.args.scope c.args.stream c.in_ok-lease.lease.rows.items c.in_ok-lease.ensures.ok.1

pub returns-clause-gives : goal.returns-clause-gives
returns-clause-gives g c = lease_gives (seen g.S.RowSeat.view c.args.tree.now) (seen g.S.RowSeat.view c.lease.new.self) c.args.scope c.args.stream c.in_ok-lease.lease.rows.items c.in_ok-lease.ensures.ok.1
