use Rattle.std.proofs.Common.{◌<◌, sym, ◌∙◌, subst, arith}
use Rattle.chunk_core.specs.declared.code.Exit.TheVariants.{Succeeded}
use Rattle.scope_tree.specs.Calls.{Leases}
use Rattle.tree_laws.specs.Called.{MayLease}
use Rattle.scope_tree.specs.Trees.{seen}
use Rattle.join_tree.proofs.Growing.{main_closes, main_leases, main_main, main_may_lease, root_open}
use Rattle.join_tree.proofs.Keeping.{keeps_closes, keeps_leases, leased_tables, leases_take}
use Rattle.join_tree.proofs.Paying.{close_pays, lease_pays}
use Rattle.join_tree.proofs.Given.{close_gives, lease_gives}
use Rattle.join_tree.proofs.outer.pull.Goals as goal

pub lease-requires-clause-main : goal.lease-requires-clause-main
lease-requires-clause-main g c = main_main c.requires.main.2

pub lease-requires-clause-stream : goal.lease-requires-clause-stream
lease-requires-clause-stream g c =
    let m = c.requires.main in
    let a = subst (λ k. MayLease (seen g.S.RowSeat.view c.args.tree.now) 0 k) m.4 (main_may_lease m.2 (root_open m.2 m.3)) in (a.other, a.new, a.unleased)

pub returns-in_ok-lease-clause-pulls : goal.returns-in_ok-lease-clause-pulls
returns-in_ok-lease-clause-pulls g c width p h root same fits =
    let b = seen g.S.RowSeat.view c.args.tree.now in
    let d = seen g.S.RowSeat.view c.lease.new.self in
    let T = c.in_ok-lease.lease.rows.items in
    let o = c.in_ok-lease.ensures.ok in
    let l = subst (λ k. Leases b 0 k T d) (sym same) o.1 in
    let less = subst (λ k. k < c.args.streams) (sym same) c.if-leased-streams.true in
    (less, o.0 ∙ sym same, l.covered, leased_tables b d p 0 T h l, main_leases b d p 0 T h root less fits (root_open h root) l c.in_ok-lease.ensures.scopes)

pub returns-in_ok-lease-clause-guests : goal.returns-in_ok-lease-clause-guests
returns-in_ok-lease-clause-guests g c =
    let m = c.requires.main in
    let b = seen g.S.RowSeat.view c.args.tree.now in
    let d = seen g.S.RowSeat.view c.lease.new.self in
    let T = c.in_ok-lease.lease.rows.items in
    keeps_leases b d m.1 0 T m.2 (root_open m.2 m.3) (subst (λ k. Leases b 0 k T d) (sym m.4) c.in_ok-lease.ensures.ok.1)

pub returns-in_ok-lease-clause-events : goal.returns-in_ok-lease-clause-events
returns-in_ok-lease-clause-events g c = leases_take g.S.Pay.Finish.ends (seen g.S.RowSeat.view c.args.tree.now) (seen g.S.RowSeat.view c.lease.new.self) 0 c.args.leased c.in_ok-lease.lease.rows.items c.in_ok-lease.ensures.ok.1

pub returns-else-leased-streams-clause-pulls : goal.returns-else-leased-streams-clause-pulls
returns-else-leased-streams-clause-pulls g c width p h root same fits =
    let few = h.few in
    let more = c.if-leased-streams.false in
    (omega (few, more, same, arith), main_closes (seen g.S.RowSeat.view c.args.tree.now) (seen g.S.RowSeat.view c.close.new.self) p Succeeded h root c.close.ensures.closes c.close.ensures.closed)

pub returns-else-leased-streams-clause-guests : goal.returns-else-leased-streams-clause-guests
returns-else-leased-streams-clause-guests g c =
    let m = c.requires.main in
    keeps_closes (seen g.S.RowSeat.view c.args.tree.now) (seen g.S.RowSeat.view c.close.new.self) 0 Succeeded (root_open m.2 m.3) c.close.ensures.closes

pub returns-in_ok-lease-clause-rows : goal.returns-in_ok-lease-clause-rows
returns-in_ok-lease-clause-rows g c = lease_pays (seen g.S.RowSeat.view c.args.tree.now) (seen g.S.RowSeat.view c.lease.new.self) 0 c.args.leased c.in_ok-lease.lease.rows.items c.in_ok-lease.ensures.ok.1

pub returns-else-leased-streams-clause-rows : goal.returns-else-leased-streams-clause-rows
returns-else-leased-streams-clause-rows g c = close_pays (seen g.S.RowSeat.view c.args.tree.now) (seen g.S.RowSeat.view c.close.new.self) 0 Succeeded c.requires.fits.sound.kept.holds.once c.close.ensures.closes

pub returns-in_ok-lease-clause-gives : goal.returns-in_ok-lease-clause-gives
returns-in_ok-lease-clause-gives g c = lease_gives (seen g.S.RowSeat.view c.args.tree.now) (seen g.S.RowSeat.view c.lease.new.self) 0 c.args.leased c.in_ok-lease.lease.rows.items c.in_ok-lease.ensures.ok.1

pub returns-else-leased-streams-clause-gives : goal.returns-else-leased-streams-clause-gives
returns-else-leased-streams-clause-gives g c = close_gives (seen g.S.RowSeat.view c.args.tree.now) (seen g.S.RowSeat.view c.close.new.self) Succeeded c.close.ensures.closes
