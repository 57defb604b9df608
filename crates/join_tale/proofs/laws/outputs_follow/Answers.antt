use Rattle.join_tale.proofs.Endings.{outputs_follow}
use Rattle.join_tale.proofs.Loads.{loads_are_received}
use Rattle.join_tale.proofs.laws.outputs_follow.Goals as goal

pub returns-clause-outputs : goal.returns-clause-outputs
returns-clause-outputs c bounds = outputs_follow bounds

pub returns-clause-received : goal.returns-clause-received
returns-clause-received c bounds = loads_are_received bounds
