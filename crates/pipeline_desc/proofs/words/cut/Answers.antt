use Rattle.std.proofs.Common.{sym}
use Rattle.pipeline_desc.proofs.Parts.{cut_found, cut_none}
use Rattle.pipeline_desc.proofs.words.cut.Goals as goal

pub returns-in-Some-clause-name : goal.returns-in-Some-clause-name
returns-in-Some-clause-name c = (cut_found c.args.word.now c.in-Some.at (sym c.in-Some.ensures)).0

pub returns-in-Some-clause-argument : goal.returns-in-Some-clause-argument
returns-in-Some-clause-argument c = (cut_found c.args.word.now c.in-Some.at (sym c.in-Some.ensures)).1

pub returns-in-None-clause-name : goal.returns-in-None-clause-name
returns-in-None-clause-name c = (cut_none c.args.word.now (sym c.in-None.ensures)).0

pub returns-in-None-clause-argument : goal.returns-in-None-clause-argument
returns-in-None-clause-argument c = (cut_none c.args.word.now (sym c.in-None.ensures)).1
