use Rattle.std.proofs.Common.{◌∙◌, refl, true, ◌++◌, ◌∷◌, []}
use Rattle.stream_ops.proofs.Counts.{count_finishes}
use Rattle.stream_ops.proofs.count.CountPipeFeed.finish.Goals as goal

pub returns-clause-first : goal.returns-clause-first
returns-clause-first c m xs h =
    count_finishes c.args.self.now (record { count = c.args.self.now.count; told = true; none = c.args.self.now.none }) c.in_ok-of_vec.field-0
    (c.in_ok-of_vec.ensures ∙ (c.in_ok-push.ensures.items ∙ (λ i. c.new-lines.ensures.items i ++ c.in_ok-line_of.ensures i ∷ []))) refl m xs h
