use Rattle.std.proofs.Common.{refl}
use Rattle.headline_laws.specs.Refused.{cut_output, invented_output}
use Rattle.headline_laws.proofs.Asked.{refuses_cat}
use Rattle.headline_laws.proofs.Refusing.{invented_output_refused, cut_output_refused}
use Rattle.headline_laws.proofs.refused.invented_outputs.Goals as goal

pub returns : goal.returns
returns c = record { is_invented_output = refuses_cat invented_output refl invented_output_refused; is_cut_output = refuses_cat cut_output refl cut_output_refused }
