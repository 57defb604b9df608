use Rattle.std.proofs.Common.{refl}
use Rattle.clap.proofs.OnLiterals.{clap_on_literals}
use Rattle.command_words.proofs.laws.tees_are_spelled.Goals as goal

pub returns : goal.returns
unfolding clap_on_literals
returns c = record { is_one = refl; are_two = refl; is_empty = refl; means_nothing = refl; is_apart = refl; is_between = refl; is_between_branches = refl; is_behind = refl; is_behind_two_hyphens = refl; has_no_branch = refl; has_no_word = refl; has_an_empty_path = refl; has_no_value = refl; is_given_twice = refl; is_shortened = refl; has_a_short_option = refl; asks_for_help = refl }
