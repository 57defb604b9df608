use Rattle.std.proofs.Common.{◌∙◌, ap, subst, arith}
use Rattle.res_ledger.specs.declared.event.StreamNo.TheVariants.{Inner}
use Rattle.row_seat.specs.Views.{IsLedgerOf}
use Rattle.scope_tree.specs.Trees.{seen}
use Rattle.tree_laws.proofs.Alone.{alone_whole, first_at_start}
use Rattle.worked_nodes.proofs.Driving.{start_room}
use Rattle.worked_nodes.proofs.uses.run_alone.Goals as goal

pub run_or_close-loads-requires-clause-room : goal.run_or_close-loads-requires-clause-room
run_or_close-loads-requires-clause-room g c =
    let view = g.S.RowSeat.view in
    start_room c.args.node (seen view c.new-tree.result) (view c.args.seat) c.args.room.scopes c.args.room.rows c.requires.start.0 c.requires.start.1 c.new-tree.ensures.seen c.requires.first c.requires.room.0 c.requires.room.1

pub returns : goal.returns
returns g c =
    let view = g.S.RowSeat.view in let run = c.run_or_close-loads in
    let is = ap (λ x. x.seat) c.new-tree.ensures.seen ∙ c.requires.start.1 in
    let start = first_at_start (view c.new-tree.result.seat) (Inner 0) _ _ _ is (omega arith) in
    record { whole = alone_whole c.finish-ledger.result start run.ensures.calls run.ensures.alone run.ensures.root (subst (λ v. IsLedgerOf v c.finish-ledger.result) c.end-seat.ensures.seat c.finish-ledger.ensures) }
