use Rattle.join_tale.proofs.Ending.{ends, ends_late}
use Rattle.join_tale.proofs.Heeding.{heeds}
use Rattle.join_tale.proofs.Growing.{marked_caused, marked_known}
use Rattle.join_tale.proofs.Receiving.{drops, fails, lacks, meets, writes}
use Rattle.join_tale.proofs.Steps.{begins, learns, outer_ends, skips, starts, starts_met, wants}
use Rattle.join_tale.proofs.Turns.{houses, pulls}
use Rattle.join_tale.specs.Steps.{learned}
use Rattle.join_tale.proofs.laws.steps_keep_tale.Goals as goal

pub returns-clause-steps : goal.returns-clause-steps
returns-clause-steps c bounds = record {
  starts = starts bounds;
  starts_met = λ w vs cs is mark. starts_met bounds vs cs is mark;
  learns = λ t vs cs i new. learns bounds t i vs cs new;
  heeds = λ t os i. heeds bounds t i os;
  houses = houses bounds;
  pulls = pulls bounds;
  begins = begins bounds;
  skips = skips bounds;
  wants = λ t w vs cs is mark i. wants bounds t i vs cs is mark;
  writes = λ t k x i c o full doesnt. writes bounds t k x i o full c doesnt;
  meets = λ t k x w vs cs is mark i c o full does. meets bounds t k x i o full vs cs is mark c does;
  fails = λ t k x w vs cs is mark i c o full. fails bounds t k x i o full vs cs is mark c;
  lacks = λ t k x w vs cs is mark i c o full. lacks bounds t k x i o full vs cs is mark c;
  drops = λ t k x i c o full. drops bounds t k x i o full c;
  ends = λ t k h vs cs i c o tells. ends bounds t k h vs cs i o c tells;
  ends_late = λ t k h vs cs i c o tells. ends_late bounds t k h vs cs i o c tells;
  outer_ends = λ t h vs cs i none tells. outer_ends bounds t i h vs cs none tells;
}

pub returns-clause-marks : goal.returns-clause-marks
returns-clause-marks c bounds t d w vs cs mark is = record { caused = marked_caused bounds (learned t vs cs) d w vs cs mark is; known = marked_known t d w vs cs mark }
