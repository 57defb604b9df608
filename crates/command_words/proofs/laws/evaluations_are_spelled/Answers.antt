use Rattle.std.proofs.Common.{refl}
use Rattle.clap.proofs.OnLiterals.{clap_on_literals}
use Rattle.command_words.proofs.laws.evaluations_are_spelled.Goals as goal

pub returns : goal.returns
unfolding clap_on_literals
returns c = record { is_default = refl; is_empty = refl; means_nothing = refl; has_both = refl; has_both_behind = refl; is_between = refl; is_behind_two_hyphens = refl; has_one_word = refl; has_no_word = refl; has_three_words = refl; has_an_empty_path = refl; has_no_value = refl; has_a_word_for_a_number = refl; is_given_twice = refl; is_shortened = refl; has_the_option_of_tee = refl; asks_for_help = refl }
