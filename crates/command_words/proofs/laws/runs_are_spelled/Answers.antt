use Rattle.std.proofs.Common.{refl}
use Rattle.clap.proofs.OnLiterals.{clap_on_literals}
use Rattle.command_words.proofs.laws.runs_are_spelled.Goals as goal

pub returns : goal.returns
unfolding clap_on_literals
returns c = record { is_default = refl; is_default_before_two_hyphens = refl; is_apart = refl; is_attached = refl; is_least = refl; is_below_the_least = refl; is_most = refl; is_above_the_most = refl; is_given_twice = refl; is_empty = refl; is_without_a_value = refl; is_negative = refl; is_shortened = refl; is_the_option_of_cat = refl; has_another_word = refl; has_a_hyphen = refl; has_a_word_behind_two_hyphens = refl; asks_for_help = refl; asks_shortly_for_help = refl; asks_for_the_version = refl }
