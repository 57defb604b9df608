use Rattle.step_words.proofs.KindsFit.{kinds_fit}
use Rattle.step_words.proofs.word.steps.Goals as goal

pub returns-clause-kinds : goal.returns-clause-kinds
returns-clause-kinds c = kinds_fit c.in_ok-steps.steps c.in_ok-kind_given.ensures.kind
