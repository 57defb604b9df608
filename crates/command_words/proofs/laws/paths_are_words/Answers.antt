use Rattle.std.proofs.Common.{refl}
use Rattle.clap.proofs.OnLiterals.{clap_on_literals}
use Rattle.command_words.proofs.laws.paths_are_words.Goals as goal

pub returns : goal.returns
unfolding clap_on_literals
returns c = record { is_hyphen = refl; is_behind_two_hyphens = refl; is_two_hyphens = refl; is_spelled_as_an_option = refl; is_before_two_hyphens = refl; is_help = refl; is_missing = refl; is_missing_behind_an_option = refl; is_missing_behind_two_hyphens = refl; is_empty = refl; is_one_of_two = refl; is_one_of_two_behind_two_hyphens = refl; is_short_option = refl; is_long_option = refl; asks_for_help = refl; asks_shortly_for_help = refl; asks_for_the_version = refl; asks_shortly_for_the_version = refl }
