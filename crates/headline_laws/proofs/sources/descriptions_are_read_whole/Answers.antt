use Rattle.headline_laws.proofs.Reading.{read_whole}
use Rattle.headline_laws.proofs.sources.descriptions_are_read_whole.Goals as goal

pub returns : goal.returns
returns c = read_whole
