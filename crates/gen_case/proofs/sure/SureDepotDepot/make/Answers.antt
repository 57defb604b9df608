use Rattle.std.proofs.Common.{ap, ◌∙◌}
use Rattle.gen_case.specs.Sure.{are_unfailed}
use Rattle.gen_case.proofs.Making.{retired_same}
use Rattle.gen_case.proofs.sure.SureDepotDepot.make.Goals as goal

pub invariant_of-self : goal.invariant_of-self
invariant_of-self c = record {
  spared = c.make.ensures.same.1 ∙ c.args.self.now.spared;
  unfailed = ap are_unfailed (retired_same _ _ _ _ c.make.result c.make.ensures.made c.make.ensures.unmade) ∙ c.args.self.now.unfailed;
}
