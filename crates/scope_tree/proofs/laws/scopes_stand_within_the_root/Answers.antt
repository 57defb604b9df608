use Rattle.std.proofs.Common.{refl}
use Rattle.scope_tree.proofs.Staying.{each_within, root_alone}
use Rattle.scope_tree.proofs.laws.scopes_stand_within_the_root.Goals as goal

pub returns-clause-each : goal.returns-clause-each
returns-clause-each g c = let t = c.args.tree.now in each_within (g.S.RowSeat.view t.seat) t.branches.items t.acquisitions.items c.requires.tree.kept

pub returns-clause-root : goal.returns-clause-root
returns-clause-root g c = let t = c.args.tree.now in λ s w. root_alone (g.S.RowSeat.view t.seat) t.branches.items t.acquisitions.items c.requires.tree.kept 0 s refl w
