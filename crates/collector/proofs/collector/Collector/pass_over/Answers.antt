-- The lease of the stream that is next was cancelled.
use Rattle.collector.proofs.collector.Collector.pass_over.Goals as goal

pub returns-clause-passes : goal.returns-clause-passes
returns-clause-passes g c =
    let e = c.cancel_waiting.ensures in
    record { main = e.main; guests = e.guests; rows = e.rows; scopes = e.scopes; room = e.room; gives = e.gives; opened = e.opened; events = e.events }
