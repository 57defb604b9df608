use Rattle.std.proofs.Common.{◌≡◌, ◌++◌, [], map, ap, sym, ◌∙◌, inl, inr, ⊎_elim, append-nil}
use Rattle.std.specs.Iterator.Adapters.{zip_first, zip_second}
use Rattle.std.specs.Slice.Iter.{iter_rest}
use Rattle.std.proofs.lemmas.Slice.Zip.{either_empty_from_Zip}
use Rattle.chunk_core.specs.Elements.{Line, Row}
use Rattle.pull_nodes.specs.Pairs.{pairs_of}
use Rattle.stream_sides.proofs.Behind.{no_pairs}
use Rattle.stream_sides.proofs.zip_state.rows_of.Goals as goal

pub returns : goal.returns
returns c =
    let lefts = map Line (iter_rest (zip_first c.loop-left.left-iterator)) in
    let rights = map Line (iter_rest (zip_second c.loop-left.left-iterator)) in
    let spent = either_empty_from_Zip _ c.next.new.self _ c.in-None.is c.next.ensures.steps in
    let none : pairs_of lefts rights ≡ [] = no_pairs lefts rights (⊎_elim (λ e. inl (ap (λ l. map Line l) e)) (λ e. inr (ap (λ l. map Line l) e)) spent) in
    sym (append-nil (map Row c.loop-left.rows.items)) ∙ (ap (λ l. map Row c.loop-left.rows.items ++ l) (sym none) ∙ c.loop-left.invariant)
