use Rattle.cut_text.proofs.Whole.{gives_back, is_not_refused, tail_is_whole}
use Rattle.cut_text.proofs.laws.whole_text_is_given_back.Goals as goal

pub returns : goal.returns
returns c = record { back = gives_back; not_refused = is_not_refused; whole = tail_is_whole }
