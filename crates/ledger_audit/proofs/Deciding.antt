-- The verdict, by the first event that breaks a rule.
use Rattle.std.proofs.Common.{◌≡◌, ℕ, ◌≤◌, List, [], ◌∷◌, ◌++◌, sym, ap, ◌∙◌, subst, append_assoc, length, length-append, take, arith}
use Rattle.res_ledger.specs.declared.event.Event.{Event}
use Rattle.res_ledger.specs.Ledger.{IsLegal}
use Rattle.res_ledger.specs.Whole.{IsComplete}
use Rattle.res_ledger.proofs.Prefixes.{front_legal}
use Rattle.ledger_verdict.specs.declared.verdict.Rule.TheVariants.{Legal, Ordered, Complete}
use Rattle.ledger_verdict.specs.declared.verdict.Verdict.TheVariants.{Clean, Broken}
use Rattle.ledger_verdict.specs.Verdict.{IsOrderedSoFar, IsSoundUpTo, IsVerdict}
use Rattle.ledger_verdict.proofs.Settled.{ordered_so_far_is_ordered}
use Rattle.ledger_verdict.proofs.Verdicts.{sound_up_to}
use Rattle.ledger_books.specs.Keyed.{IsFirstIllegal}
use Rattle.ledger_audit.specs.Orders.{IsFirstDisordered}
use Rattle.ledger_audit.proofs.Reaching.{take_front}

module _ (L : List Event) (i : ℕ) (b : IsFirstIllegal L i) where
  pub front_is : take i L ≡ b.0
  front_is = ap (λ n. take n L) (sym b.4) ∙ ap (take (length b.0)) b.3 ∙ take_front b.0 (b.2 ∷ b.1)

  pub front_is_legal : IsLegal (take i L)
  front_is_legal = subst IsLegal (sym front_is) b.5

  pub within : i ≤ length L
  within = let a = length-append b.0 (b.2 ∷ b.1) in let e = ap length b.3 in let f = b.4 in omega (arith, a, e, f)

  -- where the front is ordered so far, its next event is the first that breaks a rule
  pub broken_legal : IsOrderedSoFar (take i L) → IsVerdict L (Broken i Legal)
  broken_legal so =
      let s : IsSoundUpTo L (length b.0) = subst (λ l. IsSoundUpTo l (length b.0)) (sym b.3) (sound_up_to b.0 (b.2 ∷ b.1) b.5 (subst IsOrderedSoFar front_is so)) in
      (subst (IsSoundUpTo L) b.4 s, (b.0, b.1, b.2, b.3, b.4, b.6))

-- the first event of a legal front with which it isn't ordered so far is the first that breaks a rule
pub broken_ordered : (L M R : List Event) → L ≡ M ++ R → IsLegal M → (j : ℕ) → IsFirstDisordered M j → IsVerdict L (Broken j Ordered)
broken_ordered L M R e legal j b =
    let cut : L ≡ b.0 ++ b.2 ∷ (b.1 ++ R) = e ∙ ap (λ l. l ++ R) b.3 ∙ append_assoc b.0 (b.2 ∷ b.1) R in
    let one : M ≡ (b.0 ++ b.2 ∷ []) ++ b.1 = b.3 ∙ sym (append_assoc b.0 (b.2 ∷ []) b.1) in
    let legal_P : IsLegal b.0 = front_legal b.0 (b.2 ∷ b.1) (subst IsLegal b.3 legal) in
    let s : IsSoundUpTo L (length b.0) = subst (λ l. IsSoundUpTo l (length b.0)) (sym cut) (sound_up_to b.0 (b.2 ∷ (b.1 ++ R)) legal_P b.5) in
    (subst (IsSoundUpTo L) b.4 s, (b.0, b.1 ++ R, b.2, cut, b.4, (front_legal (b.0 ++ b.2 ∷ []) b.1 (subst IsLegal one legal), b.6)))

pub clean : (L : List Event) → IsLegal L → IsOrderedSoFar L → IsComplete L → IsVerdict L Clean
clean L legal so full = (legal, full, ordered_so_far_is_ordered L legal full so)

pub incomplete : (L : List Event) (n : ℕ) → n ≡ length L → IsLegal L → IsOrderedSoFar L → ¬ (IsComplete L) → IsVerdict L (Broken n Complete)
incomplete L n e legal so no_end = (e, legal, so, no_end)
