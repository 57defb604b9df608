use Rattle.std.proofs.Common.{refl}
use Rattle.clap.proofs.OnLiterals.{clap_on_literals}
use Rattle.command_words.proofs.laws.evaluations_are_limited.Goals as goal

pub returns : goal.returns
unfolding clap_on_literals
returns c = record { has_one_hand = refl; has_no_hand = refl; has_most_hands = refl; has_too_many_hands = refl; has_one_line = refl; has_no_line = refl; has_most_lines = refl; has_too_many_lines = refl }
