use Rattle.tee_rules.proofs.Worked.{broken_right, first_right, last_right, not_opened_right}
use Rattle.tee_rules.proofs.laws.worked_tees.Goals as goal

pub returns : goal.returns
returns c = record { first = first_right; last = last_right; not_opened = not_opened_right; broken = broken_right }
