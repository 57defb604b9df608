use denote.Param.Send.{sendable}
use Rattle.pull_turns.proofs.Threads.{rest_send}
use Rattle.pull_turns.proofs.crossing.rests_cross.Goals as goal

pub is_send-requires-send-T : goal.is_send-requires-send-T
is_send-requires-send-T g c κs within = search (sendable, rest_send) depth 12
