-- Each turn keeps the groups.
use Rattle.std.proofs.Common.{sym, ◌∙◌}
use Rattle.std.proofs.lemmas.Bool.{false≢true}
use Rattle.std.proofs.lemmas.Result.{err_from_is_err_and}
use Rattle.eval_reader.proofs.Grouping.{full}
use Rattle.eval_reader.proofs.reader.Reader.fill.Goals as goal

pub read-requires-clause-grouping : goal.read-requires-clause-grouping
read-requires-clause-grouping g c = let r = c.requires.grouping in (r.0, c.args.size, r.1, c.turns.invariant.grouping r.0 r.1 r.2)

pub returns-in_err-read-clause-stopped : goal.returns-in_err-read-clause-stopped
returns-in_err-read-clause-stopped g c =
    let p = err_from_is_err_and c.from_residual-in_err-read.result c.from_residual-in_err-read.ensures.1 in
    rw p.1 (λ a groups k. c.in_err-read.ensures.stopped a c.args.size groups (c.turns.invariant.grouping a groups k))

pub gather-requires-in-turns-clause-grouping : goal.gather-requires-in-turns-clause-grouping
gather-requires-in-turns-clause-grouping g c =
    let r = c.requires.grouping in (r.0, r.1, c.in_ok-read.ensures.grouping r.0 c.args.size r.1 (c.turns.invariant.grouping r.0 r.1 r.2))

pub returns-in_err-gather-2-clause-stopped : goal.returns-in_err-gather-2-clause-stopped
returns-in_err-gather-2-clause-stopped g c =
    let p = err_from_is_err_and c.from_residual-in_err-gather-2.result c.from_residual-in_err-gather-2.ensures.1 in
    rw p.1 (λ a groups k. c.in_err-gather-2.ensures.stopped a groups (c.in_ok-read.ensures.grouping a c.args.size groups (c.turns.invariant.grouping a groups k)))

pub returns-clause-whole : goal.returns-clause-whole
returns-clause-whole g c =
    let r = c.requires.grouping in
    full _ _ c.args.size _ _ _ (c.turns.invariant.grouping r.0 r.1 r.2) (λ p. false≢true (sym c.turns-test.false ∙ c.wants_more.ensures.1 p))
