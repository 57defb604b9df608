use Rattle.std.proofs.Common.{refl}
use Rattle.clap.proofs.OnLiterals.{clap_on_literals}
use Rattle.command_words.proofs.laws.cases_are_limited.Goals as goal

pub returns : goal.returns
unfolding clap_on_literals
returns c = record { has_least_numbers = refl; has_most_numbers = refl; seed_is_above_the_most = refl; seed_is_beyond_64_bits = refl; streams_are_below_the_least = refl; streams_are_above_the_most = refl; lines_are_above_the_most = refl }
