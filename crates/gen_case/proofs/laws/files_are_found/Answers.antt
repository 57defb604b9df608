use Rattle.gen_case.proofs.Found as found
use Rattle.gen_case.proofs.laws.files_are_found.Goals as goal

pub returns : goal.returns
returns c = found.files_are_found
