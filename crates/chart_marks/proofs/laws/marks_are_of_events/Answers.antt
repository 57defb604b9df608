use Rattle.chart_marks.proofs.Counted.{mark_is_one, marks_are_counted}
use Rattle.chart_marks.proofs.Ended.{whole_ledger_ends}
use Rattle.chart_marks.proofs.Ends.{end_is_first, no_end_is_none}
use Rattle.chart_marks.proofs.laws.marks_are_of_events.Goals as goal

pub returns : goal.returns
returns c = record { one = mark_is_one; counted = marks_are_counted; first = end_is_first; none = no_end_is_none; whole = whole_ledger_ends }
