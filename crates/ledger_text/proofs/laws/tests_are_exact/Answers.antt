use Rattle.res_ledger.proofs.Ordering.{ordered_sound, ordered_complete}
use Rattle.res_ledger.proofs.Judged.{legal_sound, legal_found, complete_sound, complete_found}
use Rattle.ledger_text.proofs.laws.tests_are_exact.Goals as goal

pub returns : goal.returns
returns c = record { ordered = λ L. (ordered_sound L, ordered_complete L); legal = λ L. (legal_sound L, legal_found L); complete = λ L l. (complete_sound L l, complete_found L l) }
