use Rattle.command_words.proofs.Paths.{any_path, any_long_path}
use Rattle.command_words.proofs.laws.paths_are_limited.Goals as goal

pub returns : goal.returns
returns c = record { is_path = any_path; is_too_long = any_long_path }
