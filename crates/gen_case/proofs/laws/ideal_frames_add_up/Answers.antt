use Rattle.gen_case.proofs.Ideal as ideal
use Rattle.gen_case.proofs.laws.ideal_frames_add_up.Goals as goal

pub returns : goal.returns
returns c = ideal.ideal_frames_add_up
