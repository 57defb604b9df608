use Rattle.run_laws.proofs.Refusing.{another_value_refused, one_frame_too_many_refused, cut_behind_the_last_refused}
use Rattle.run_laws.proofs.refused.wrong_outputs.Goals as goal

pub returns : goal.returns
returns c = record {
  is_another_value = another_value_refused;
  is_one_frame_too_many = one_frame_too_many_refused;
  is_cut_behind_the_last = cut_behind_the_last_refused;
}
