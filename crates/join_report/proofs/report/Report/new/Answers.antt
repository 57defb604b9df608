-- Nothing has come.
use Rattle.std.proofs.Common.{refl}
use Rattle.join_report.proofs.Writing.{starts, starts_met}
use Rattle.join_report.proofs.report.Report.new.Goals as goal

pub returns-clause-some : goal.returns-clause-some
returns-clause-some c e = starts _ _ _ refl c.is_none_wanted.ensures refl refl c.in_ok-streams.ensures.hows c.in_ok-streams.ensures.unwritten e

pub returns-clause-none : goal.returns-clause-none
returns-clause-none c e = starts_met _ _ _ refl c.is_none_wanted.ensures refl refl c.in_ok-streams.ensures.hows c.in_ok-streams.ensures.unwritten e
