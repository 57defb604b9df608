-- The ends of branches, one after another.
use Rattle.std.proofs.Common.{◌≡◌, ◌⊎◌, ℕ, List, [], ◌∷◌, ◌++◌, length, Option, Some, None, inl, inr, sym, ◌∙◌, subst}
use Rattle.chunk_core.proofs.Totals.{one_at}
use Rattle.chunk_core.specs.Totals.{IsAt}
use Rattle.chunk_core.specs.declared.code.How.{How}
use Rattle.tee_pump.proofs.Places.{at_snoc}

none_some : (h : How) → None ≡ Some h → ⊥
none_some h e = cc

pub not_untold : (told : List (Option How)) (n : ℕ) (x : Option How) → IsAt told n x → (h : How) × IsAt told n (Some h) → x ≡ None → ⊥
not_untold told n x at t e = none_some t.0 (sym e ∙ one_at told n x (Some t.0) at t.1)

pub told_more : (told : List (Option How)) (ends new : List How) (n : ℕ) (x : Option How) (h : How) → length ends ≡ n → ((i : ℕ) (y : How) → IsAt ends i y → IsAt told i (Some y)) → IsAt told n x → x ≡ Some h → new ≡ ends ++ h ∷ [] → (i : ℕ) (y : How) → IsAt new i y → IsAt told i (Some y)
told_more told ends new n x h c each at e g i y now = more (at_snoc ends h y i (subst (λ l. IsAt l i y) g now))
  where
    more : IsAt ends i y ⊎ ((i ≡ length ends) × (y ≡ h)) → IsAt told i (Some y)
    more (inl o) = each i y o
    more (inr t) = subst (λ z. IsAt told i (Some z)) (sym t.1) (subst (λ k. IsAt told k (Some h)) (sym (t.0 ∙ c)) (subst (IsAt told n) e at))
