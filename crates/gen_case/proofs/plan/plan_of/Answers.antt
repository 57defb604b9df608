use Rattle.gen_case.proofs.Sound as sound
use Rattle.gen_case.proofs.plan.plan_of.Goals as goal

pub of-requires : goal.of-requires
of-requires c = rw (c.in_ok-tables.ensures, c.in_ok-streams.ensures) (sound.plans_are_sound c.args.case c.requires)
