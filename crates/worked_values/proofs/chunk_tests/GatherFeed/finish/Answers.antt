use Rattle.std.proofs.Common.{◌≡◌, ◌<◌, ◌∙◌, ap, refl, arith, length, map, None}
use Rattle.std.proofs.lemmas.Grind.{common_steps}
use Rattle.chunk_core.specs.Elements.Element.{Byte}
use Rattle.chunk_core.specs.Elements.LoadKind.{Bytes}
use Rattle.chunk_core.proofs.Gathering.{gathered}
use Rattle.worked_values.proofs.chunk_tests.GatherFeed.finish.Goals as goal

pub returns-clause-first : goal.returns-clause-first
returns-clause-first c m xs h =
    let same : c.in_ok-of_vec.field-0 ≡ c.args.self.now.held.items = c.in_ok-of_vec.ensures ∙ ap (λ v. v.items) c.replace-held.ensures.value in
    let none = ap (λ v. v.items) c.replace-held.ensures.after ∙ c.new.ensures.items in
    let some : 0 < length c.args.self.now.held.items = grind (arith, common_steps) in
    gathered (λ k ys d. (k ≡ Bytes) × (ys ≡ map Byte c.replace-held.new.dest.items) × (d ≡ None)) m xs c.in_ok-of_vec.field-0 h.0 (rw same h.1) (rw same some) (refl, rw none refl, refl)
