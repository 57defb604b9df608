use Rattle.std.proofs.Common.{[], subst}
use Rattle.chunk_core.specs.Lists.{IsAmong}
use Rattle.chunk_core.specs.Lists.IsAmong.{here}
use Rattle.chunk_core.proofs.Members.{among_last, among_nil}
use Rattle.scope_tree.proofs.Releasing.{releases_ends, releases_stays}
use Rattle.scope_tree.specs.Released.Holder.{owner}
use Rattle.scope_tree.proofs.tear.release.Goals as goal

pub close-requires-clause-row : goal.close-requires-clause-row
close-requires-clause-row g c = c.requires.can.rows c.args.row (here [])

pub finalize-requires-clause-row : goal.finalize-requires-clause-row
finalize-requires-clause-row g c = let y = c.in-Yours.ensures.view in rw y.2 (among_last _ _, λ m. among_nil (subst (λ l. IsAmong c.args.row l) c.requires.can.taken m))

pub returns-in-Stays-clause-released : goal.returns-in-Stays-clause-released
returns-in-Stays-clause-released g c = releases_stays {h = owner} _ _ _ _ c.in-Stays.ensures.view

pub returns-in-Yours-clause-released : goal.returns-in-Yours-clause-released
returns-in-Yours-clause-released g c = releases_ends {h = owner} _ _ _ _ _ _ c.in-Yours.ensures.view c.finalize.ensures.ended
