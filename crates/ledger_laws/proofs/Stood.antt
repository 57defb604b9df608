-- The standing of a row in a ledger that is written out.
use Rattle.std.proofs.Common.{◌≡◌, ℕ, true, List, subst}
use Rattle.res_ledger.specs.declared.event.Event.{Event}
use Rattle.res_ledger.specs.Judge.{is_legal, is_acquired}
use Rattle.res_ledger.specs.Standing.{Standing, HasStanding, standing_of}
use Rattle.res_ledger.proofs.Judged.{legal_sound, acquired_in}
use Rattle.res_ledger.proofs.Standings.{standing_is_exact}

pub stood : (L : List Event) (r : ℕ) (s : Standing) → is_legal L ≡ true → is_acquired L r ≡ true → standing_of L r ≡ s → HasStanding L r s
stood L r s l a h = subst (λ t. HasStanding L r t) h (standing_is_exact L (legal_sound L l) r (acquired_in L r a))
