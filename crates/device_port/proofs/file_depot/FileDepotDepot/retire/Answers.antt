use Rattle.std.proofs.Common.{◌<◌, ap, sym, ◌∙◌, subst, length}
use Rattle.device_port.specs.Depot.{CourseTold, HaveOwnNumbers, AreBelow}
use Rattle.device_port.specs.Real.{file_told}
use Rattle.device_port.proofs.Depots.{apart_more, below_more}
use Rattle.device_port.proofs.file_depot.FileDepotDepot.retire.Goals as goal

pub invariant_of-self : goal.invariant_of-self
invariant_of-self g c =
    let d = c.args.self.now in
    let course : CourseTold = d.course in
    let made : c.args.dev.number < d.count = subst (λ n. c.args.dev.number < n) d.counted c.requires.made in
    record {
      counted = ap (λ (t : CourseTold). length t.made) c.step.ensures ∙ d.counted;
      apart = subst (λ (t : CourseTold). HaveOwnNumbers t.retired) (sym c.step.ensures) (apart_more course.retired (file_told c.args.dev) d.apart c.requires.unknown);
      below = subst (λ (t : CourseTold). AreBelow d.count t.retired) (sym c.step.ensures) (below_more d.count course.retired (file_told c.args.dev) d.below made);
    }
