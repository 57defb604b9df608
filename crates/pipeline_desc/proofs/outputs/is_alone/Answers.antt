use Rattle.std.proofs.Common.{List, ℕ, Some, ap, nat_le, sym, ◌∙◌}
use Rattle.pipeline_desc.specs.Outputs.{is_alone}
use Rattle.pipeline_desc.specs.Places.{all_places}
use Rattle.pipeline_desc.proofs.outputs.is_alone.Goals as goal

pub returns-in-Some : goal.returns-in-Some
returns-in-Some c =
    ap (λ n. nat_le n 1) c.count_in_all.ensures
    ∙ ap (is_alone (all_places c.args.tables.now c.args.list.now c.args.streams.now)) (ap (λ (t : List ℕ). Some t) c.as_str.ensures ∙ sym c.in-Some.is)
