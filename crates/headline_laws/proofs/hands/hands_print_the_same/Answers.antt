use Rattle.headline_laws.proofs.Evaluating.{answer_of_call, the_same}
use Rattle.headline_laws.proofs.hands.hands_print_the_same.Goals as goal

pub returns : goal.returns
returns c = record { answer = answer_of_call; same = the_same }
