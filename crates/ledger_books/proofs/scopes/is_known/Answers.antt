use Rattle.std.proofs.Common.{◌≡◌, ◌↔◌, ◌⊎◌, inl, inr, ℕ, Bool, true, Option, Some, None, sym, ◌∙◌}
use Rattle.std.specs.Prelude.{is_some, MatchOption}
use Rattle.std.proofs.lemmas.Bool.{false≢true}
use Rattle.ledger_books.proofs.Placed.{at_among}
use Rattle.ledger_books.proofs.scopes.is_known.Goals as goal

known : {T A : Type 0} (B : T → Type 0) (s : ℕ) (o : Option T) (b : Bool) → (s ≡ 0 → ⊥) → ((t : T) → B t → A) → MatchOption o (¬ A) B → b ≡ is_some o → (b ≡ true) ↔ ((s ≡ 0) ⊎ A)
known B s None b z f m h = ((λ e. absurd (false≢true (sym h ∙ e))), (λ c. elim c [ inl e ↦ absurd (z e) | inr a ↦ absurd (m a) ]))
known B s (Some t) b z f m h = ((λ e. inr (f t m)), (λ c. h))

pub returns : goal.returns
returns c = known _ c.args.scope c.opened.result c.is_some.result c.if-scope-eq0.false (λ t n. (t.1, (n.0, at_among c.args.past.now t.0 n.0 n.1, n.2, n.3))) c.opened.ensures c.is_some.ensures
