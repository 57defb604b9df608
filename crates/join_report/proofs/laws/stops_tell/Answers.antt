-- Each law is a lemma.
use Rattle.join_report.proofs.Learning.{learns_known, settles, unknown_is}
use Rattle.join_report.proofs.laws.stops_tell.Goals as goal

pub returns-clause-learns : goal.returns-clause-learns
returns-clause-learns c t old new vs cs k l = learns_known t old new vs cs k l

pub returns-clause-unknown : goal.returns-clause-unknown
returns-clause-unknown c t s context k n = unknown_is t s context k n

pub returns-clause-settles : goal.returns-clause-settles
returns-clause-settles c t s k i z = settles t s k i z
