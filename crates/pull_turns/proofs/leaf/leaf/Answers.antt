use Rattle.pull_turns.proofs.Stepping.{both_err, by_err, faulty_stepped, finishing_stepped, nil_stepped, on_err, on_ok, read_broken, read_stepped, same_broken}
use Rattle.pull_turns.proofs.leaf.leaf.Goals as goal

pub returns-in-Nil-clause-stepped : goal.returns-in-Nil-clause-stepped
returns-in-Nil-clause-stepped g c = rw c.in-Nil.is (nil_stepped _ _ _ _ _ _)

pub returns-in-Start-clause-stepped : goal.returns-in-Start-clause-stepped
returns-in-Start-clause-stepped g c = rw c.in-Start.is (on_ok c.start.result (rw c.replace-node.ensures.value at c.start.ensures.stepped) (λ t h. h c.args.chunk))

pub returns-in-Start-clause-broken : goal.returns-in-Start-clause-broken
returns-in-Start-clause-broken g c = rw c.in-Start.is (rw c.replace-node.ensures.value at c.start.ensures.broken)

pub returns-in-Read-clause-stepped : goal.returns-in-Read-clause-stepped
returns-in-Read-clause-stepped g c =
    let ready = rw c.in-Read.is at c.requires.ready in
    rw c.in-Read.is (on_ok c.read_piece.result c.read_piece.ensures.piece (λ t h. read_stepped _ _ _ _ _ _ _ _ _ _ t ready h))

pub returns-in-Read-clause-broken : goal.returns-in-Read-clause-broken
returns-in-Read-clause-broken g c =
    let place = both_err _ _ c.read_piece.result c.read_piece.ensures.place c.read_piece.ensures.well in
    rw c.in-Read.is (by_err c.read_piece.result place (λ h. read_broken _ _ _ _ h.0 h.1))

pub returns-in_err-turn-in-Finishing-clause-broken : goal.returns-in_err-turn-in-Finishing-clause-broken
returns-in_err-turn-in-Finishing-clause-broken g c = on_err c.from_residual.result (same_broken _ _)

pub returns-in_ok-turn-in-Finishing-clause-stepped : goal.returns-in_ok-turn-in-Finishing-clause-stepped
returns-in_ok-turn-in-Finishing-clause-stepped g c =
    let ready = rw c.in-Finishing.is at c.requires.ready in
    rw (c.go_through.ensures, c.in-Finishing.is) (finishing_stepped _ _ g.met.F.PipeState.dues _ _ _ _ _ _ c.in_ok-turn-in-Finishing.turn c.in_ok-turn-in-Finishing.after ready (c.in_ok-turn-in-Finishing.ensures (g.F.PipeState.values c.args.tables.now)))

pub returns-in-Faulty-clause-stepped : goal.returns-in-Faulty-clause-stepped
returns-in-Faulty-clause-stepped g c = rw c.in-Faulty.is (faulty_stepped _ _ _ _ _ _ _ (rw c.in-Faulty.is at c.requires.ready))
