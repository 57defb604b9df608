use Rattle.std.proofs.Common.{[], sym, subst, arith}
use Rattle.chunk_core.specs.Lists.{IsAmong}
use Rattle.chunk_core.specs.Lists.IsAmong.{here}
use Rattle.scope_tree.specs.Trees.{seen}
use Rattle.tree_scripts.specs.Waiting.{CancelsAndFinishes}
use Rattle.scope_tree.specs.Trace.{own_rows}
use Rattle.chunk_core.proofs.Distinct.{test_distinct}
use Rattle.tree_scripts.proofs.Finished.{cancel_rest, cancel_settles, no_leases}
use Rattle.scope_tree.proofs.Leasing.{among_pairs}
use Rattle.scope_tree.proofs.Rooms.{strangers_none}
use Rattle.scope_tree.proofs.Owed.{nothing_owed}
use Rattle.tree_scripts.proofs.scripts.cancel_and_finish.Goals as goal
use Rattle.scope_tree.proofs.Lists.{away_le}

pub cancel-requires-clause-may : goal.cancel-requires-clause-may
cancel-requires-clause-may g c = (subst (λ l. IsAmong c.args.lease.stream l) (sym c.requires.waits.kept) (here []), λ e. absurd (c.requires.waits.by e))

pub cancel-requires-clause-pairs : goal.cancel-requires-clause-pairs
cancel-requires-clause-pairs g c = λ r m. subst (λ l. IsAmong (c.args.lease.stream, r) l) (sym c.requires.waits.pairs) (among_pairs c.args.lease.stream r c.args.lease.rows.items m)

pub cancel-requires-clause-room : goal.cancel-requires-clause-room
cancel-requires-clause-room g c =
    let n = strangers_none (own_rows (g.S.RowSeat.view c.args.tree.seat)) c.args.lease.rows.items c.requires.waits.rows in let u = c.requires.fits.sound.used in omega (n, u, arith)

pub cancel-requires-clause-free : goal.cancel-requires-clause-free
cancel-requires-clause-free g c =
    let t = c.args.tree in let v = g.S.RowSeat.view t.seat in let T = c.args.lease.rows.items in
    let n = nothing_owed v t.branches.items t.acquisitions.items c.requires.fits.sound.kept c.requires.waits.closed in let a = away_le T v.opened in let s = c.requires.waits.spare in omega (n, a, s, arith)

pub finish_alone-requires-clause-leases : goal.finish_alone-requires-clause-leases
finish_alone-requires-clause-leases g c = let r = cancel_rest c.cancel.ensures.cancels c.requires.waits in no_leases (g.S.RowSeat.view c.cancel.new.self.seat) r.1 r.2

pub returns : goal.returns
returns g c =
    let t = c.args.tree in let z = c.requires.fits.sound in let T = c.args.lease.rows.items in let e = c.finish_alone.ensures in
    subst (λ l. CancelsAndFinishes g.S.Pay.Finish.ends (seen g.S.RowSeat.view t) c.args.lease.stream T c.args.exit c.finish_alone.result.0 l) (sym e.shelf)
    (cancel_settles c.cancel.ensures.cancels c.requires.waits t.acquisitions.items c.finish_alone.result.0 z.shelved (test_distinct T c.args.lease.distinct) e.ledger e.rising)
