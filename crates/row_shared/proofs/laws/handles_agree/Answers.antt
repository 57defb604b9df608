use Rattle.row_shared.specs.Handles.{fits_other}
use Rattle.row_shared.proofs.laws.handles_agree.Goals as goal

pub returns : goal.returns
returns g c = λ s o d e. fits_other s o d e
