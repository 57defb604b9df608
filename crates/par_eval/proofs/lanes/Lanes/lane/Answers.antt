use Rattle.std.proofs.Common.{◌≡◌, ◌<◌, List, length, sym, ap, ◌∙◌, subst}
use Rattle.atomic_table.proofs.Lists.{at_index}
use Rattle.chunk_core.specs.Totals.{IsAt}
use Rattle.par_eval.specs.Lanes.{LaneHubs}
use Rattle.par_eval.proofs.Places.{at_below}
use Rattle.par_eval.proofs.lanes.Lanes.lane.Goals as goal

pub bounds-lanes-number : goal.bounds-lanes-number
bounds-lanes-number g c = at_below c.as_slice-lanes.result.now c.args.number c.requires.0 (subst (λ (l : List LaneHubs). IsAt l c.args.number c.requires.0) (sym (c.as_slice-lanes.ensures.value ∙ c.self.view_is)) c.requires.1)

pub returns : goal.returns
returns g c = subst (λ (l : List LaneHubs). IsAt l c.args.number c.index-lanes-number.result) (c.as_slice-lanes.ensures.value ∙ c.self.view_is)
    (at_index c.as_slice-lanes.result.now c.args.number c.index-lanes-number.result
    (at_below c.as_slice-lanes.result.now c.args.number c.requires.0 (subst (λ (l : List LaneHubs). IsAt l c.args.number c.requires.0) (sym (c.as_slice-lanes.ensures.value ∙ c.self.view_is)) c.requires.1))
    c.index-lanes-number.is)
