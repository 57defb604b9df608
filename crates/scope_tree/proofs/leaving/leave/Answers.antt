use Rattle.std.proofs.Common.{[], subst, arith}
use Rattle.chunk_core.specs.Lists.{IsAmong}
use Rattle.chunk_core.specs.Lists.IsAmong.{here}
use Rattle.chunk_core.proofs.Members.{among_last, among_nil}
use Rattle.scope_tree.proofs.Lists.{away_one}
use Rattle.scope_tree.proofs.Releasing.{releases_ends, releases_stays}
use Rattle.scope_tree.specs.Released.Holder.{lease}
use Rattle.scope_tree.proofs.leaving.leave.Goals as goal

pub leave-requires-clause-row : goal.leave-requires-clause-row
leave-requires-clause-row g c = c.requires.can.rows c.args.row (here [])

pub finalize-requires-clause-row : goal.finalize-requires-clause-row
finalize-requires-clause-row g c = let y = c.in-Yours.ensures.view in rw y.1 (among_last _ _, λ m. among_nil (subst (λ l. IsAmong c.args.row l) c.requires.can.taken m))

pub finalize-requires-clause-spare : goal.finalize-requires-clause-spare
finalize-requires-clause-spare g c =
    let y = c.in-Yours.ensures.view in let v = g.S.RowSeat.view c.args.seat.now in let s = c.requires.can.spare in let m = away_one c.args.row [] v.opened y.2.closed in rw y.1 (omega (s, m, arith))

pub finalize-requires-clause-room : goal.finalize-requires-clause-room
finalize-requires-clause-room g c =
    let y = c.in-Yours.ensures.view in let m = away_one c.args.row [] (g.S.RowSeat.view c.args.seat.now).opened y.2.closed in let a = c.requires.room in omega (m, a, arith)

pub returns-in-Stays-clause-released : goal.returns-in-Stays-clause-released
returns-in-Stays-clause-released g c = releases_stays {h = lease c.args.stream} _ _ _ _ c.in-Stays.ensures.view

pub returns-in-Yours-clause-released : goal.returns-in-Yours-clause-released
returns-in-Yours-clause-released g c = releases_ends {h = lease c.args.stream} _ _ _ _ _ _ c.in-Yours.ensures.view c.finalize.ensures.ended
