use Rattle.channel_bounded.proofs.Moves.{begins}
use Rattle.channel_bounded.proofs.hub.Hub.new.Goals as goal

pub ruled-requires-clause-rule : goal.ruled-requires-clause-rule
ruled-requires-clause-rule g c = begins g.A.May.may c.requires.may
