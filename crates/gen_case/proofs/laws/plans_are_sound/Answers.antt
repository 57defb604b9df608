use Rattle.gen_case.proofs.Sound as sound
use Rattle.gen_case.proofs.laws.plans_are_sound.Goals as goal

pub returns : goal.returns
returns c = sound.plans_are_sound
