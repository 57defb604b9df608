use Rattle.std.proofs.Common.{refl}
use Rattle.clap.proofs.OnLiterals.{clap_on_literals}
use Rattle.command_words.proofs.laws.other_words_mean_nothing.Goals as goal

pub returns : goal.returns
unfolding clap_on_literals
returns c = record { is_no_word = refl; is_empty = refl; is_other = refl; is_capital = refl; is_shortened = refl; is_longer = refl; is_option = refl; asks_for_help = refl }
