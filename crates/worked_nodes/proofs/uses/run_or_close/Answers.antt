use Rattle.std.proofs.Common.{[], sym, subst}
use Rattle.chunk_core.specs.declared.code.Exit.TheVariants.{Canceled}
use Rattle.scope_tree.specs.Calls.{IsOpenScope}
use Rattle.scope_tree.specs.Trees.{seen}
use Rattle.scope_tree.proofs.Use.{closed_now}
use Rattle.tree_laws.specs.Alone.{StaysAlone}
use Rattle.tree_laws.specs.Called.{Called}
use Rattle.tree_laws.specs.Called.Called.{none, closed}
use Rattle.tree_laws.proofs.Alone.{alone_closes}
use Rattle.pull_stepper.specs.Held.{FinishesDevice}
use Rattle.pull_stepper.proofs.Closing.{closed_as}
use Rattle.worked_nodes.proofs.uses.run_or_close.Goals as goal

pub returns-in-Err-clause-calls : goal.returns-in-Err-clause-calls
returns-in-Err-clause-calls g c =
    let view = g.S.RowSeat.view in let same = c.in-Err.ensures.unmade.0 in
    let a = seen view c.in-Err.field-0.tree in let b = seen view c.close.new.self in
    let root = subst (λ t. IsOpenScope (seen view t) 0) (sym same) c.requires.room.root in
    subst (λ t. Called (FinishesDevice g.V.Device.told) (seen view t) [] b) same (closed a b 0 Canceled none root c.close.ensures.closes)

pub returns-in-Err-clause-alone : goal.returns-in-Err-clause-alone
returns-in-Err-clause-alone g c =
    let view = g.S.RowSeat.view in
    subst (λ t. StaysAlone (view t.seat) (view c.close.new.self.seat)) c.in-Err.ensures.unmade.0 (alone_closes c.close.ensures.closes)

pub returns-in-Err-clause-exit : goal.returns-in-Err-clause-exit
returns-in-Err-clause-exit g c =
    let view = g.S.RowSeat.view in
    closed_as c.close.ensures.closes (subst (λ t. IsOpenScope (seen view t) 0) (sym c.in-Err.ensures.unmade.0) c.requires.room.root)

pub returns-in-Err-clause-root : goal.returns-in-Err-clause-root
returns-in-Err-clause-root g c = closed_now c.close.ensures.closes
