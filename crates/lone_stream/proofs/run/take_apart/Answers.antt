-- The seat finishes, and its ledger tells of the stream.
use Rattle.std.proofs.Common.{[], ◌∙◌, ap, sym, subst, arith}
use Rattle.chunk_core.proofs.Members.{among_nil}
use Rattle.row_seat.specs.Views.{IsLedgerOf}
use Rattle.scope_tree.specs.Trees.{seen}
use Rattle.lone_stream.specs.Ran.{ComesHome}
use Rattle.lone_stream.proofs.StreamRuns.{stream_ran}
use Rattle.lone_stream.proofs.run.take_apart.Goals as goal

pub returns-clause-comes : goal.returns-clause-comes
returns-clause-comes g c = λ who n devices home a fresh leaves.
    let b = seen g.S.RowSeat.view c.args.ended.tree in
    let ledger = subst (λ v. IsLedgerOf v c.finish.result) c.end-seat.ensures.seat c.finish.ensures in
    rw c.end-seat.ensures.shelf
    (stream_ran g.V.Device.told who n devices home a b c.args.ended.how c.args.ended.unopened c.finish.result _ _ _ fresh.first fresh.seat (omega arith) fresh.scopes leaves ledger fresh.shelf)
