use Rattle.std.proofs.Common.{◌∙◌, ap, sym}
use Rattle.pipeline_desc.specs.Meant.{PlanMeant}
use Rattle.pipeline_desc.proofs.NodeLaws.{no_list}
use Rattle.pipeline_desc.proofs.plan.Plan.listed.Goals as goal

pub unreachable-requires : goal.unreachable-requires
unreachable-requires c = no_list c.args.self.now (sym (ap (λ (p : PlanMeant). p.list) c.self.view_is) ∙ c.in-None.is) c.requires
