use Rattle.std.proofs.Common.{refl}
use Rattle.clap.proofs.OnLiterals.{clap_on_literals}
use Rattle.command_words.proofs.laws.cases_are_spelled.Goals as goal

pub returns : goal.returns
unfolding clap_on_literals
returns c = record { is_case = refl; is_behind_two_hyphens = refl; has_two_hyphens_within = refl; is_before_two_hyphens = refl; has_a_plus = refl; has_zeros = refl; has_two_words = refl; has_one_word = refl; has_no_word = refl; has_four_words = refl; has_an_empty_word = refl; has_a_word_for_a_number = refl; has_a_point = refl; has_a_separator = refl; has_two_plus = refl; is_negative = refl; is_negative_behind_two_hyphens = refl; has_a_hyphen = refl; has_an_option = refl; has_the_option_of_cat = refl; asks_for_help = refl; asks_shortly_for_help = refl; asks_for_the_version = refl }
