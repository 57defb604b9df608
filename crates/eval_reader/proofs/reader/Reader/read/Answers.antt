-- A turn gave lines or nothing, or memory was wanting.
use Rattle.std.proofs.Common.{◌++◌, ap, refl, sym}
use Rattle.std.proofs.lemmas.Result.{err_from_is_err_and}
use Rattle.eval_reader.proofs.Grouping.{came, came_none, moved, moved_none, running, stopped}
use Rattle.eval_reader.proofs.reader.Reader.read.Goals as goal

pub returns-in_err-lines-clause-stopped : goal.returns-in_err-lines-clause-stopped
returns-in_err-lines-clause-stopped g c =
    let p = err_from_is_err_and c.from_residual.result c.from_residual.ensures.1 in
    rw p.1 (λ a n groups k. stopped _ _ n a _ groups k _ _ (c.in_err-lines.ensures.stopped a k.given k.reading) c.in_err-lines.ensures.memory (running _ _ c.requires.runs))

pub returns-in_default-clause-grouping : goal.returns-in_default-clause-grouping
returns-in_default-clause-grouping g c a n groups k =
    let e = c.in_ok-lines.ensures in
    came_none _ _ n a _ groups k _ c.requires.runs (moved_none _ _ a _ _ k.given (e.given a k.given k.reading) c.in_default.is) e.itself refl refl refl

pub returns-in-Some-clause-grouping : goal.returns-in-Some-clause-grouping
returns-in-Some-clause-grouping g c a n groups k =
    let e = c.in_ok-lines.ensures in
    came _ _ n a _ groups k _ c.in-Some.lines c.requires.runs (moved _ _ a _ _ _ _ k.given (e.given a k.given k.reading) c.in-Some.is refl) e.itself (ap (λ ws. ws ++ c.in-Some.lines) (sym c.requires.none)) refl refl
