-- A ledger that is written out is right where it passes the tests, and not where it fails one.
use Rattle.std.proofs.Common.{◌≡◌, true, false, List, sym, ◌∙◌}
use Rattle.std.proofs.lemmas.Bool.{false≢true}
use Rattle.res_ledger.specs.declared.event.Event.{Event}
use Rattle.res_ledger.specs.Ledger.{IsLegal}
use Rattle.res_ledger.specs.Order.{is_ordered}
use Rattle.res_ledger.specs.Judge.{is_legal, is_complete}
use Rattle.res_ledger.proofs.Ordering.{ordered_sound, ordered_complete}
use Rattle.res_ledger.proofs.Judged.{legal_sound, legal_found, complete_sound, complete_found}
use Rattle.ledger_laws.specs.Written.{IsRight, IsOnlyIncomplete, IsOnlyDisordered}

pub right : (L : List Event) → is_legal L ≡ true → is_complete L ≡ true → is_ordered L ≡ true → IsRight L
right L l c o = let legal = legal_sound L l in (legal, complete_sound L legal c, ordered_sound L o)

pub illegal : (L : List Event) → is_legal L ≡ false → ¬ (IsLegal L)
illegal L h l = false≢true (sym h ∙ legal_found L l)

pub only_incomplete : (L : List Event) → is_legal L ≡ true → is_complete L ≡ false → IsOnlyIncomplete L
only_incomplete L l h = let legal = legal_sound L l in (legal, λ c. false≢true (sym h ∙ complete_found L legal c))

pub only_disordered : (L : List Event) → is_legal L ≡ true → is_complete L ≡ true → is_ordered L ≡ false → IsOnlyDisordered L
only_disordered L l c h = let legal = legal_sound L l in (legal, complete_sound L legal c, λ o. false≢true (sym h ∙ ordered_complete L o))
