use Rattle.std.proofs.Common.{◌≡◌, ◌<◌, ◌∙◌, sym, ap, subst, arith, [], ◌∷◌, length, None}
use Rattle.std.proofs.lemmas.Grind.{common_steps}
use Rattle.chunk_core.specs.Feed.{Continues, Finishes}
use Rattle.chunk_core.specs.declared.feed.Fed.TheVariants as fed
use Rattle.chunk_core.specs.declared.load.Load.TheVariants as load
use Rattle.pull_nodes.specs.Hex.{hex_line}
use Rattle.text_pipes.specs.HexState.{Comes}
use Rattle.text_pipes.specs.declared.hexadecimal.HexPipe.{HexPipe}
use Rattle.text_pipes.proofs.HexLines.{gives_lines, hex_whole, hex_comes}
use Rattle.text_pipes.proofs.hexadecimal.HexPipeFeed.finish.Goals as goal

some_held : (c : goal.In_ok-one_line) → 0 < length c.args.self.now.held.items
some_held c = grind (arith, common_steps)

line_given : (c : goal.In_ok-one_line) → c.in_ok-one_line.field-0 ≡ load.Lines (hex_line c.args.self.now.held.items ∷ [])
line_given c = c.in_ok-one_line.ensures ∙ ap (λ l. load.Lines (l ∷ [])) (c.in_ok-line.ensures ∙ ap hex_line c.as_slice.ensures.value)

pub returns-clause-first : goal.returns-clause-first
returns-clause-first c m xs h =
    let q = c.args.self.now in
    let b : HexPipe = record { held = c.clear.new.self; spare = q.spare } in
    subst (λ l. Finishes m xs (fed.Out l) (Comes b m.gives)) (sym (line_given c))
    (hex_whole q m xs (fed.Out (load.Lines (hex_line q.held.items ∷ []))) (Comes b m.gives) h (hex_comes q b m.gives (gives_lines m h.0) (some_held c) c.clear.ensures.items))

pub returns-clause-next : goal.returns-clause-next
returns-clause-next c kind ys d h =
    let q = c.args.self.now in
    let b : HexPipe = record { held = c.clear.new.self; spare = q.spare } in
    let whole = hex_comes q b kind h.0 (some_held c) c.clear.ensures.items in
    let given = subst (λ l. Continues kind l None (fed.Out (load.Lines (hex_line q.held.items ∷ []))) (Comes b kind)) (sym h.1) whole in
    let answer = subst (λ l. Continues kind ys None (fed.Out l) (Comes b kind)) (sym (line_given c)) given in
    subst (λ e. Continues kind ys e (fed.Out c.in_ok-one_line.field-0) (Comes b kind)) (sym h.2) answer
