use Rattle.std.proofs.Common.{◌<◌, ◌∙◌, length, refl, arith}
use Rattle.std.proofs.lemmas.Grind.{common_steps}
use Rattle.chunk_core.specs.declared.feed.Fed.TheVariants as fed
use Rattle.text_pipes.specs.LossyState.{Comes}
use Rattle.text_pipes.proofs.LossyFeeds.{lossy_finishes, nothing_read, mark_comes}
use Rattle.text_pipes.proofs.lossy.LossyPipeFeed.finish.Goals as goal

pub returns-then-is_empty-clause-first : goal.returns-then-is_empty-clause-first
returns-then-is_empty-clause-first c m xs h =
    let kept = c.args.self.now.held.items in
    lossy_finishes kept m xs fed.End (Comes c.args.self.now m.gives) h.0 h.1 (nothing_read kept (grind (arith, common_steps)), refl)

pub returns-clause-first : goal.returns-clause-first
returns-clause-first c m xs h =
    let kept = c.args.self.now.held.items in
    let some : 0 < length kept = grind (arith, common_steps) in
    let mark = c.in_ok-of_vec.ensures ∙ (c.in_ok-mark.ensures.items ∙ c.as_bytes.ensures.value) in
    mark_comes kept c.in_ok-of_vec.field-0 m xs _ h.0 h.1 some mark (c.clear.ensures.items, refl, refl)
