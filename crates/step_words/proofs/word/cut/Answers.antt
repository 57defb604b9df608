use Rattle.std.proofs.Common.{sym}
use Rattle.step_words.proofs.Bars.{cut_found, cut_none}
use Rattle.step_words.proofs.word.cut.Goals as goal

pub returns-in-Some : goal.returns-in-Some
returns-in-Some c = cut_found c.args.text.now c.in-Some.at (sym c.in-Some.ensures)

pub returns-in-None : goal.returns-in-None
returns-in-None c = cut_none c.args.text.now (sym c.in-None.ensures)
