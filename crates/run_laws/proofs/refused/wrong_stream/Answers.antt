use Rattle.run_laws.proofs.Refusing.{done_without_close_refused, begins_unwanted_refused, canceled_by_another_refused}
use Rattle.run_laws.proofs.refused.wrong_stream.Goals as goal

pub returns : goal.returns
returns c = record {
  is_done_without_close = done_without_close_refused;
  is_begins_unwanted = begins_unwanted_refused;
  is_canceled_by_another = canceled_by_another_refused;
}
