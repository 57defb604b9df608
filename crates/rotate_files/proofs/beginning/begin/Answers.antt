use Rattle.std.proofs.Common.{None, false, subst, sym}
use Rattle.scope_tree.specs.Trees.{seen}
use Rattle.hot_swap.specs.Swaps.{IsHolding, held, seen_tree}
use Rattle.rotate_files.specs.Copies.{IsCopying}
use Rattle.rotate_files.proofs.Beginnings.{begun, in_root, none_opened}
use Rattle.rotate_files.proofs.beginning.begin.Goals as goal

pub returns-clause-fits : goal.returns-clause-fits
returns-clause-fits g c = c.new-files.ensures.fits c.acquired.new.desk c.acquired.ensures.fits

pub returns-clause-copying : goal.returns-clause-copying
returns-clause-copying g c = λ old now prefix n path some made device.
    let view = g.S.RowSeat.view in
    let a = seen view c.args.tree in
    let b = seen view c.acquired.new.self in
    let e = c.acquired.ensures in
    let u = c.requires.unused in
    let f = c.new-files.ensures in
    let holding = f.holding (none_opened a b c.new-pay.result u e.acquires) (e.scopes.usable 0 u.root) (in_root a b c.new-pay.result u e.acquires) in
    subst (λ x. IsCopying g.V.Device.told old prefix n path x (held c.new-files.result) now 0 0 false 0) (sym f.seen)
    (begun a b c.new-pay.result u e.acquires g.V.Device.told old prefix n path (held c.new-files.result) f.none (subst (λ x. IsHolding x None) f.seen holding) e.empty e.room e.owed now c.args.device some made c.new-pay.ensures device)
