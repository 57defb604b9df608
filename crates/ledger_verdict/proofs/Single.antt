-- A ledger has one verdict.
use Rattle.std.proofs.Common.{◌≡◌, ℕ, zero, suc, ◌<◌, List, [], ◌∷◌, ◌++◌, ◌⊎◌, inl, inr, refl, sym, ap, ◌∙◌, subst, ⊎_elim, append_assoc, append-nil, length, length-append, arith}
use Rattle.chunk_core.specs.declared.code.Exit.TheVariants.{Succeeded}
use Rattle.chunk_core.proofs.Cuts.{cut}
use Rattle.res_ledger.specs.declared.event.Event.{Event}
use Rattle.res_ledger.specs.Ledger.{IsLegal}
use Rattle.res_ledger.specs.Own.{own}
use Rattle.res_ledger.specs.Order.{IsInBlocks, IsOrdered}
use Rattle.res_ledger.specs.Whole.{IsComplete}
use Rattle.res_ledger.proofs.Prefixes.{front_legal}
use Rattle.ledger_verdict.specs.declared.verdict.Rule.{Rule}
use Rattle.ledger_verdict.specs.declared.verdict.Rule.TheVariants.{Legal, Ordered, Complete}
use Rattle.ledger_verdict.specs.declared.verdict.Verdict.{Verdict}
use Rattle.ledger_verdict.specs.declared.verdict.Verdict.TheVariants.{Clean, Broken}
use Rattle.ledger_verdict.specs.Verdict.{IsOrderedSoFar, IsBrokenAt, IsVerdict, VerdictIsOne}
use Rattle.ledger_verdict.proofs.Fronts.{front_is_ordered_so_far}

-- an ordered ledger is ordered so far
pub ordered_is_so_far : (L : List Event) → IsOrdered L → IsOrderedSoFar L
ordered_is_so_far L o k = (Succeeded, [], subst (IsInBlocks _ _ []) (sym (append-nil (own k L))) (o k))

-- it is legal and ordered so far
abbrev IsSound : List Event → Type 0
IsSound P = IsLegal P × IsOrderedSoFar P

front_sound : (P Q : List Event) → IsSound (P ++ Q) → IsSound P
front_sound P Q s = (front_legal P Q s.0, front_is_ordered_so_far P Q s.0 s.1)

-- no event of a sound ledger breaks a rule
no_break : (L : List Event) (i : ℕ) → IsSound L → IsBrokenAt L i (λ P. ¬ (IsSound P)) → ⊥
no_break L i s b = let p = b.1 in p.5 (front_sound (p.0 ++ p.2 ∷ []) p.1 (subst IsSound (p.3 ∙ sym (append_assoc p.0 (p.2 ∷ []) p.1)) s))

same_fronts : (P Q : List Event) (e : Event) (R S : List Event) (f : Event) → P ++ e ∷ Q ≡ R ++ f ∷ S → length P ≡ length R → P ++ e ∷ [] ≡ R ++ f ∷ []
same_fronts [] Q e [] S f h n = ap (λ x. x ∷ []) (cut e Q S f h).0
same_fronts [] Q e (r ∷ R) S f h n = absurd (omega arith)
same_fronts (p ∷ P) Q e [] S f h n = absurd (omega arith)
same_fronts (p ∷ P) Q e (r ∷ R) S f h n =
    let c = cut p (P ++ e ∷ Q) (R ++ f ∷ S) r h in
    ap (λ x. x ∷ (P ++ e ∷ [])) c.0 ∙ ap (λ l. r ∷ l) (same_fronts P Q e R S f c.1 (omega arith))

earlier : (L : List Event) (i j : ℕ) (A B : List Event → Type 0) → ((P : List Event) → A P → ¬ (IsSound P)) → IsBrokenAt L i A → IsBrokenAt L j B → i < j → ⊥
earlier L i j A B bad b c l =
    let p = b.1 in
    bad (p.0 ++ p.2 ∷ []) p.5 (c.0 (p.0 ++ p.2 ∷ []) p.1 (p.3 ∙ sym (append_assoc p.0 (p.2 ∷ []) p.1)) (omega (arith, length-append p.0 (p.2 ∷ []))))

compared : (i j : ℕ) → (i ≡ j) ⊎ ((i < j) ⊎ (j < i))
compared zero zero = inl refl
compared zero (suc j) = inr (inl (omega arith))
compared (suc i) zero = inr (inr (omega arith))
compared (suc i) (suc j) = ⊎_elim (λ e. inl (ap suc e)) (λ o. inr (⊎_elim (λ l. inl (omega arith)) (λ l. inr (omega arith)) o)) (compared i j)

-- the first place is one, and the front that breaks there
one_place : (L : List Event) (i j : ℕ) (A B : List Event → Type 0) → ((P : List Event) → A P → ¬ (IsSound P)) → ((P : List Event) → B P → ¬ (IsSound P)) → IsBrokenAt L i A → IsBrokenAt L j B → (i ≡ j) × ((P : List Event) × A P × B P)
one_place L i j A B bad_a bad_b a b = ⊎_elim
    (λ e. let p = a.1 in let q = b.1 in (e, (p.0 ++ p.2 ∷ [], p.5, subst B (sym (same_fronts p.0 p.1 p.2 q.0 q.1 q.2 (sym p.3 ∙ q.3) (p.4 ∙ e ∙ sym q.4))) q.5)))
    (λ o. absurd (⊎_elim (earlier L i j A B bad_a a b) (earlier L j i B A bad_b b a) o))
    (compared i j)

-- what each rule's breaking says
abbrev Breaks : Rule → List Event → Type 0
Breaks Legal P = ¬ (IsLegal P)
Breaks Ordered P = IsLegal P × ¬ (IsOrderedSoFar P)
Breaks Complete P = ⊥

bad : (r : Rule) (P : List Event) → Breaks r P → ¬ (IsSound P)
bad Legal P b s = b s.0
bad Ordered P b s = b.1 s.1
bad Complete P b s = b

-- what a verdict says of the whole
abbrev Kind : List Event → Verdict → Type 0
Kind L v = ((i : ℕ) × (r : Rule) × (v ≡ Broken i r) × IsBrokenAt L i (Breaks r)) ⊎ (IsSound L × (((v ≡ Clean) × IsComplete L) ⊎ ((v ≡ Broken (length L) Complete) × ¬ (IsComplete L))))

kind : (L : List Event) (v : Verdict) → IsVerdict L v → Kind L v
kind L Clean h = inr ((h.0, ordered_is_so_far L h.2), inl (refl, h.1))
kind L (Broken i Legal) h = inl (i, Legal, refl, h)
kind L (Broken i Ordered) h = inl (i, Ordered, refl, h)
kind L (Broken i Complete) h = inr ((h.1, h.2), inr (ap (λ n. Broken n Complete) h.0, h.3))

one_rule : (r q : Rule) (P : List Event) → Breaks r P → Breaks q P → r ≡ q
one_rule Legal Legal P a b = refl
one_rule Legal Ordered P a b = absurd (a b.0)
one_rule Legal Complete P a b = absurd b
one_rule Ordered Legal P a b = absurd (b a.0)
one_rule Ordered Ordered P a b = refl
one_rule Ordered Complete P a b = absurd b
one_rule Complete q P a b = absurd a

weaker : (L : List Event) (i : ℕ) (r : Rule) → IsBrokenAt L i (Breaks r) → IsBrokenAt L i (λ P. ¬ (IsSound P))
weaker L i r b = let p = b.1 in (b.0, (p.0, p.1, p.2, p.3, p.4, bad r (p.0 ++ p.2 ∷ []) p.5))

pub verdict_is_one : VerdictIsOne
verdict_is_one L v w a b = ⊎_elim
    (λ x. ⊎_elim
    (λ y. let t = one_place L x.0 y.0 (Breaks x.1) (Breaks y.1) (bad x.1) (bad y.1) x.3 y.3 in
    x.2 ∙ ap (λ n. Broken n x.1) t.0 ∙ ap (Broken y.0) (one_rule x.1 y.1 t.1.0 t.1.1 t.1.2) ∙ sym y.2)
    (λ y. absurd (no_break L x.0 y.0 (weaker L x.0 x.1 x.3)))
    (kind L w b))
    (λ x. ⊎_elim
    (λ y. absurd (no_break L y.0 x.0 (weaker L y.0 y.1 y.3)))
    (λ y. ⊎_elim
    (λ c. ⊎_elim (λ d. c.0 ∙ sym d.0) (λ d. absurd (d.1 c.1)) y.1)
    (λ c. ⊎_elim (λ d. absurd (c.1 d.1)) (λ d. c.0 ∙ sym d.0) y.1)
    x.1)
    (kind L w b))
    (kind L v a)
