use Rattle.std.proofs.Common.{◌≡◌, ◌↔◌, Bool, true, false, not, refl}
use Rattle.std.proofs.lemmas.Bool.{false≢true}
use Rattle.ledger_books.proofs.scopes.is_usable.Goals as goal

closed_or : {A B : Type 0} (b : Bool) → A → (b ≡ true) ↔ B → (not b ≡ true) ↔ (A × ¬ B)
closed_or true a e = ((λ h. absurd (false≢true h)), (λ p. absurd (p.1 (e.0 refl))))
closed_or false a e = ((λ h. (a, (λ z. false≢true (e.1 z)))), (λ p. refl))

pub returns : goal.returns
returns c = closed_or c.is_closed.result (c.is_known.ensures.0 c.if-not-is_known.false) c.is_closed.ensures
