use Rattle.std.proofs.Common.{refl}
use Rattle.clap.proofs.OnLiterals.{clap_on_literals}
use Rattle.command_words.proofs.laws.rotations_are_spelled.Goals as goal

pub returns : goal.returns
unfolding clap_on_literals
returns c = record { is_apart = refl; is_attached = refl; is_between = refl; is_behind = refl; has_a_plus = refl; has_hyphens = refl; is_before_two_hyphens = refl; has_one_word_twice = refl; has_no_number = refl; has_no_value = refl; has_an_empty_value = refl; has_a_word_for_a_number = refl; has_a_unit = refl; is_negative = refl; is_given_twice = refl; is_shortened = refl; is_a_number_alone = refl; has_no_prefix = refl; has_no_word = refl; has_three_words = refl; has_an_empty_path = refl; has_an_empty_prefix = refl; has_a_short_option = refl; has_the_option_of_cat = refl; asks_for_help = refl; asks_shortly_for_help = refl; asks_for_the_version = refl }
