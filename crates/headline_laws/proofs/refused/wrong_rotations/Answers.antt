use Rattle.headline_laws.proofs.Rotating.{closed_at_the_end_refused, cut_piece_refused, done_as_errored_refused, halted_rotation_refused, printed_too_refused, too_many_of_six_refused, unfailed_write_refused}
use Rattle.headline_laws.proofs.refused.wrong_rotations.Goals as goal

pub returns : goal.returns
returns c = record {
  is_cut_piece = cut_piece_refused;
  is_closed_at_the_end = closed_at_the_end_refused;
  is_too_many_of_six = too_many_of_six_refused;
  is_halted_rotation = halted_rotation_refused;
  is_unfailed_write = unfailed_write_refused;
  is_done_as_errored = done_as_errored_refused;
  is_printed_too = printed_too_refused;
}
