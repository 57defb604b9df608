use Rattle.std.proofs.Common.{ap, sym, ◌∙◌, map}
use Rattle.chunk_core.specs.Elements.{Line, Row}
use Rattle.stream_sides.specs.Waiting.{waits}
use Rattle.stream_sides.proofs.Behind.{none_paired}
use Rattle.stream_sides.proofs.zip_state.ZipState.pairs_with.Goals as goal

pub returns-in_default-clause-pairs : goal.returns-in_default-clause-pairs
returns-in_default-clause-pairs c =
    ap (λ rows. map Row rows) c.new.ensures.items
    ∙ sym (none_paired c.args.self.now c.self.inside.side c.args.side (map Line c.args.lines.now) (sym c.self.view_is ∙ ap (λ o. waits c.self.inside.side o) c.in_default.is))
