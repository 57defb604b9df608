use Rattle.std.proofs.Common.{refl}
use Rattle.std.specs.Fmt.{digits}
use Rattle.clap.proofs.OnLiterals.{clap_on_literals}
use Rattle.command_words.proofs.laws.rotations_spare_their_source.Goals as goal

pub returns : goal.returns
unfolding clap_on_literals digits
returns c = record { is_first = refl; is_last = refl; is_behind_the_last = refl; has_a_leading_zero = refl; has_two_zeros = refl; has_a_plus = refl; has_nothing_behind_the_dot = refl; has_no_dot = refl; has_another_mark = refl; has_another_prefix = refl; has_a_longer_prefix = refl; has_more_behind = refl; has_that_prefix = refl }
