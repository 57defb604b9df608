use denote.Param.Send.{sendable}
use Rattle.known.proofs.Threads.{known_send}
use Rattle.known.proofs.crossing.known_crosses.Goals as goal

pub is_send-requires-send-T : goal.is_send-requires-send-T
is_send-requires-send-T g c κs within = search (sendable, known_send) depth 8
