use Rattle.join_tale.proofs.Endings.{streams_end_once}
use Rattle.join_tale.proofs.laws.streams_end_once.Goals as goal

pub returns : goal.returns
returns c bounds = streams_end_once bounds
