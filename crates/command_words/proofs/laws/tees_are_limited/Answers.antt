use Rattle.std.proofs.Common.{refl}
use Rattle.clap.proofs.OnLiterals.{clap_on_literals}
use Rattle.command_words.proofs.laws.tees_are_limited.Goals as goal

pub returns : goal.returns
unfolding clap_on_literals
returns c = record { is_least = refl; is_below_the_least = refl; is_most = refl; is_above_the_most = refl; has_sixteen = refl; has_seventeen = refl }
