-- What is printed of the text is the text, and it isn't empty where the load wasn't.
use Rattle.std.proofs.Common.{◌∙◌}
use Rattle.stream_jobs.proofs.Texts.{bytes_rendering, bytes_some}
use Rattle.stream_jobs.proofs.rendering.rendered.Goals as goal

pub returns-in-Ok : goal.returns-in-Ok
returns-in-Ok c = record { same = bytes_rendering c.in-Ok.text ∙ c.in-Ok.ensures; some = λ l. bytes_some c.in-Ok.text _ c.in-Ok.ensures l }
