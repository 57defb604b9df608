use Rattle.ledger_text.proofs.Readings.{refusal_is_one, text_is_not_refused, text_is_one}
use Rattle.ledger_text.proofs.laws.reading_is_one.Goals as goal

pub returns : goal.returns
returns c = record { ledger = text_is_one; text = text_is_not_refused; refusal = refusal_is_one }
