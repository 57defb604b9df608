-- The worker's closure and the job that it gives back may go to another thread.
use denote.Param.Send.{sendable}
use Rattle.pull_stepper.proofs.held.Held.TheSendSync as held
use Rattle.stream_jobs.proofs.Threads.{job_send}
use Rattle.stream_workers.proofs.place.Place.TheSendSync as place
use Rattle.stream_workers.proofs.Threads.{carried_send}
use Rattle.stream_workers.proofs.begins.begin.Goals as goal

pub spawn_with-started-requires-send-T : goal.spawn_with-started-requires-send-T
spawn_with-started-requires-send-T g c κs within = search (sendable, held.the_send, job_send) depth 14

pub spawn_with-started-requires-send-F : goal.spawn_with-started-requires-send-F
spawn_with-started-requires-send-F g c κs within = search (sendable, held.the_send, carried_send, place.the_sync) depth 16

-- what the closure holds that came back is what was given to the thread
pub spawn_with-job-requires : goal.spawn_with-job-requires
spawn_with-job-requires g c κs within = (within.0, (within.1.0, (within.1.1.0, (within.1.1.1.0, (within.1.1.1.1.0, (within.1.1.1.1.1.0, (within.1.1.1.1.1.1.0, (within.1.1.1.1.1.1.1.0, (within.1.1.1.1.1.1.1.1, rw c.in-Err.ensures.err (record { job = c.requires.job; fits_desk = c.requires.fits; place = c.requires.at; may_send = c.requires.may }))))))))))
