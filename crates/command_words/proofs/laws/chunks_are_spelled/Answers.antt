use Rattle.std.proofs.Common.{refl}
use Rattle.clap.proofs.OnLiterals.{clap_on_literals}
use Rattle.command_words.proofs.laws.chunks_are_spelled.Goals as goal

pub returns : goal.returns
unfolding clap_on_literals
returns c = record { is_default = refl; is_apart = refl; is_attached = refl; is_apart_behind = refl; is_attached_behind = refl; has_a_plus = refl; has_two_plus = refl; is_attached_plus = refl; is_word = refl; is_attached_twice = refl; is_given_twice = refl; is_given_before_and_behind = refl; is_empty = refl; is_without_a_value = refl; has_the_path_for_its_value = refl; is_negative = refl; has_a_hyphen_for_its_value = refl; is_behind_two_hyphens = refl; is_shortened = refl }
