use Rattle.std.proofs.Common.{◌<◌, ◌∙◌, sym, ap, subst, arith, [], ◌∷◌, length}
use Rattle.std.proofs.lemmas.Grind.{common_steps}
use Rattle.chunk_core.specs.Feed.{Finishes}
use Rattle.chunk_core.specs.declared.feed.Fed.TheVariants as fed
use Rattle.chunk_core.specs.declared.load.Load.TheVariants as load
use Rattle.text_pipes.specs.LinesState.{Comes}
use Rattle.text_pipes.specs.declared.lines.LinesPipe.{LinesPipe}
use Rattle.text_pipes.proofs.LinesFeeds.{gives_lines, lines_whole, last_comes}
use Rattle.text_pipes.proofs.lines.LinesPipeFeed.finish.Goals as goal

pub returns-clause-first : goal.returns-clause-first
returns-clause-first c m xs h =
    let q = c.args.self.now in
    let b : LinesPipe = record { held = c.replace.new.dest; after_cr = q.after_cr; spare = q.spare } in
    let some : 0 < length q.held.items = grind (arith, common_steps) in
    let none = ap (λ v. v.items) c.replace.ensures.after ∙ c.new.ensures.items in
    let line = c.of_vec-line.ensures ∙ ap (λ v. v.items) c.replace.ensures.value in
    let given = c.in_ok-one_line.ensures ∙ ap (λ l. load.Lines (l ∷ [])) line in
    subst (λ l. Finishes m xs (fed.Out l) (Comes b m.gives)) (sym given)
    (lines_whole q m xs (fed.Out (load.Lines (q.held.items ∷ []))) (Comes b m.gives) h (last_comes q b m.gives (gives_lines m h.0) some none))
