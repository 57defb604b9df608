use Rattle.gen_case.proofs.Ideal as ideal
use Rattle.gen_case.proofs.laws.lines_have_their_bytes.Goals as goal

pub returns : goal.returns
returns c = ideal.lines_have_their_bytes
