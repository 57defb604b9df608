use denote.Param.Send.{sendable}
use Rattle.stream_jobs.proofs.Threads.{job_send}
use Rattle.stream_jobs.proofs.crossing.jobs_cross.Goals as goal

pub is_send-requires-send-T : goal.is_send-requires-send-T
is_send-requires-send-T g c κs within = search (sendable, job_send) depth 14
