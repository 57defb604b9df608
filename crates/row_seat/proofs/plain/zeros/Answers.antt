use Rattle.std.proofs.Common.{◌+◌, ap, ◌∙◌}
use Rattle.std.proofs.lemmas.List.{length_push}
use Rattle.row_seat.proofs.Starts.{zeros_push}
use Rattle.row_seat.proofs.plain.zeros.Goals as goal

pub loop-preserved : goal.loop-preserved
loop-preserved c = let xs = c.loop.words.items in let i = c.loop.invariant in rw c.in_ok-push.ensures.items (length_push xs 0 ∙ ap (λ k. k + 1) i.0, zeros_push xs i.1)
