use Rattle.std.proofs.Common.{◌≡◌, ◌∙◌, List, get_or, length, ap, refl, subst}
use Rattle.std.proofs.lemmas.Option.{slice_get_read}
use Rattle.pipeline_desc.specs.Meant.{PlanMeant, setting_at}
use Rattle.pipeline_desc.specs.Sound.{AreSoundStreams}
use Rattle.pipeline_desc.specs.declared.stream.StreamSpec.{StreamSpec}
use Rattle.pipeline_desc.proofs.plan.Plan.stream.Goals as goal

pub returns-clause-sound : goal.returns-clause-sound
returns-clause-sound c =
    let streams = c.args.self.now.streams in
    let s = c.index-as_slice-k.result in
    let same = c.as_slice.ensures ∙ ap (λ (p : PlanMeant). p.streams) c.self.view_is in
    let at = subst (λ (xs : List StreamSpec). s ≡ get_or xs c.args.k s) same c.index-as_slice-k.is in
    let sound = subst (λ (p : PlanMeant). AreSoundStreams (setting_at p.tables p.groups (length p.streams)) p.streams) c.self.view_is c.self.invariant.streams in
    sound c.args.k s (slice_get_read streams (length streams) c.args.k s refl c.requires at)
