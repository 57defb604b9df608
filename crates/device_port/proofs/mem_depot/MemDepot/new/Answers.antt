use Rattle.std.proofs.Common.{List, map, sym, subst, vec_len}
use Rattle.device_port.specs.Depot.{HaveOwnNumbers, AreBelow}
use Rattle.device_port.specs.Records.{record_told}
use Rattle.device_port.specs.declared.record.Record.{Record}
use Rattle.device_port.proofs.Depots.{apart_none, below_none}
use Rattle.device_port.proofs.mem_depot.MemDepot.new.Goals as goal

pub invariant_of-result-clause-apart : goal.invariant_of-result-clause-apart
invariant_of-result-clause-apart c = subst (λ (rs : List Record). HaveOwnNumbers (map record_told rs)) (sym c.new-2.ensures.items) apart_none

pub invariant_of-result-clause-below : goal.invariant_of-result-clause-below
invariant_of-result-clause-below c = subst (λ (rs : List Record). AreBelow (vec_len c.new.result) (map record_told rs)) (sym c.new-2.ensures.items) (below_none (vec_len c.new.result))
