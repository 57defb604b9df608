use Rattle.std.proofs.Common.{◌≡◌, subst, arith}
use Rattle.scope_tree.specs.Calls.{TakesRoom}
use Rattle.chunk_core.specs.declared.code.Exit.TheVariants.{Canceled}
use Rattle.scope_tree.specs.Trees.{seen}
use Rattle.join_tree.proofs.Growing.{main_cancels, main_may_cancel}
use Rattle.join_tree.proofs.Keeping.{keeps_cancels, main_no_strangers}
use Rattle.join_tree.proofs.Paying.{cancel_opened, cancel_pays}
use Rattle.join_tree.proofs.Given.{cancel_gives}
use Rattle.join_tree.proofs.outer.cancel_waiting.Goals as goal

pub cancel-requires-clause-may : goal.cancel-requires-clause-may
cancel-requires-clause-may g c = let m = c.requires.main in let a = main_may_cancel (seen g.S.RowSeat.view c.args.tree.now) m.2 m.3 c.args.lease.stream c.args.lease.rows.items m.4 m.5 in (a.kept, a.ended)

pub cancel-requires-clause-pairs : goal.cancel-requires-clause-pairs
cancel-requires-clause-pairs g c = let m = c.requires.main in (main_may_cancel (seen g.S.RowSeat.view c.args.tree.now) m.2 m.3 c.args.lease.stream c.args.lease.rows.items m.4 m.5).pairs

pub cancel-requires-clause-room : goal.cancel-requires-clause-room
cancel-requires-clause-room g c =
    let m = c.requires.main in
    let n = main_no_strangers (seen g.S.RowSeat.view c.args.tree.now) m.2 m.3 c.args.lease.stream c.args.lease.rows.items m.4 m.5 in
    let u = c.requires.fits.sound.used in omega (n, u, arith)

pub returns-clause-main : goal.returns-clause-main
returns-clause-main g c width n p us h is = main_cancels (seen g.S.RowSeat.view c.args.tree.now) (seen g.S.RowSeat.view c.cancel.new.self) p us c.args.lease.stream c.args.lease.rows.items h is c.cancel.ensures.cancels c.cancel.ensures.scopes

pub returns-clause-guests : goal.returns-clause-guests
returns-clause-guests g c =
    let m = c.requires.main in
    keeps_cancels (seen g.S.RowSeat.view c.args.tree.now) (seen g.S.RowSeat.view c.cancel.new.self) m.2 m.3 c.args.lease.stream c.args.lease.rows.items m.4 m.5 c.cancel.ensures.cancels

pub returns-clause-rows : goal.returns-clause-rows
returns-clause-rows g c = cancel_pays (seen g.S.RowSeat.view c.args.tree.now) (seen g.S.RowSeat.view c.cancel.new.self) c.args.lease.stream c.args.lease.rows.items Canceled c.requires.fits.sound.kept.holds.once c.cancel.ensures.cancels

pub returns-clause-opened : goal.returns-clause-opened
returns-clause-opened g c = cancel_opened (seen g.S.RowSeat.view c.args.tree.now) (seen g.S.RowSeat.view c.cancel.new.self) c.args.lease.stream c.args.lease.rows.items Canceled c.cancel.ensures.cancels

pub returns-clause-room : goal.returns-clause-room
returns-clause-room g c =
    let m = c.requires.main in
    let n = main_no_strangers (seen g.S.RowSeat.view c.args.tree.now) m.2 m.3 c.args.lease.stream c.args.lease.rows.items m.4 m.5 in
    let r = c.cancel.ensures.room in
    let l = r.1 in
    subst (λ k. TakesRoom 0 k (seen g.S.RowSeat.view c.args.tree.now) (seen g.S.RowSeat.view c.cancel.new.self)) (let e : r.0 ≡ 0 = omega (l, n, arith) in e) r.2

pub returns-clause-gives : goal.returns-clause-gives
returns-clause-gives g c = cancel_gives (seen g.S.RowSeat.view c.args.tree.now) (seen g.S.RowSeat.view c.cancel.new.self) c.args.lease.stream c.args.lease.rows.items Canceled c.cancel.ensures.cancels
