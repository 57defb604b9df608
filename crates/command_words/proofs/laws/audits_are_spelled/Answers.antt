use Rattle.std.proofs.Common.{refl}
use Rattle.clap.proofs.OnLiterals.{clap_on_literals}
use Rattle.command_words.proofs.laws.audits_are_spelled.Goals as goal

pub returns : goal.returns
unfolding clap_on_literals
returns c = record { is_audit = refl; is_before_two_hyphens = refl; has_another_word = refl; has_a_word_behind_two_hyphens = refl; has_a_hyphen = refl; has_an_empty_word = refl; has_the_option_of_run = refl; is_shortened = refl; is_longer = refl; is_capital = refl; asks_for_help = refl; asks_shortly_for_help = refl; asks_for_the_version = refl }
