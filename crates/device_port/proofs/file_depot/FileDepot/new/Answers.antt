use Rattle.std.proofs.Common.{sym, ap, subst, length}
use Rattle.device_port.specs.Depot.{CourseTold, HaveOwnNumbers, AreBelow}
use Rattle.device_port.proofs.Depots.{apart_none, below_none}
use Rattle.device_port.proofs.file_depot.FileDepot.new.Goals as goal

pub invariant_of-result : goal.invariant_of-result
invariant_of-result g c = record {
  counted = ap (λ (t : CourseTold). length t.made) c.know.ensures;
  apart = subst (λ (t : CourseTold). HaveOwnNumbers t.retired) (sym c.know.ensures) apart_none;
  below = subst (λ (t : CourseTold). AreBelow 0 t.retired) (sym c.know.ensures) (below_none 0);
}
