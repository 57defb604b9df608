-- A ledger that is ordered so far, by what is due at its end.
use Rattle.std.proofs.Common.{◌≡◌, ℕ, Bool, true, cond, List, [], ◌∷◌, ◌++◌, refl, sym, ap, ◌∙◌, subst, reverse, Option, None, Some}
use Rattle.std.proofs.lemmas.Bool.{false≢true}
use Rattle.chunk_core.specs.Lists.{has}
use Rattle.chunk_core.specs.declared.code.Exit.{Exit}
use Rattle.chunk_core.specs.declared.code.Exit.TheVariants.{Succeeded}
use Rattle.chunk_core.proofs.Bools.{itself}
use Rattle.res_ledger.specs.declared.event.StreamNo.{StreamNo}
use Rattle.res_ledger.specs.declared.event.What.{What}
use Rattle.res_ledger.specs.declared.event.What.TheVariants.{Final}
use Rattle.res_ledger.specs.declared.event.Event.{Event}
use Rattle.res_ledger.specs.Own.{own}
use Rattle.res_ledger.specs.Order.{IsInBlocks, Picks, IsInOrder, covered, covered_by, finals, firsts, any_row, is_in_blocks}
use Rattle.res_ledger.specs.Order.Picks.{none as nothing}
use Rattle.res_ledger.proofs.Tests.{exit_same}
use Rattle.res_ledger.proofs.Ordering.{runs_sound, runs_complete, in_order_sound}
use Rattle.ledger_verdict.specs.Verdict.{IsInOrderSoFar}
use Rattle.ledger_verdict.specs.Pending.{Due, nothing_due, passes, is_over, behind, go_on, due_after, due_along}
use Rattle.ledger_verdict.proofs.Machine.{ends, blocks_are, along_append}

-- rows that a lease covers may wait
abbrev pub may_of : List Event → ℕ → Bool
may_of L r = has r (covered L)

abbrev pub due_of : List Event → ℕ → List ℕ
due_of L j = reverse (covered_by L j)

-- what is due at the end of what k noted
abbrev pub due_at : List Event → StreamNo → Option Due
due_at L k = due_along (may_of L) (due_of L) [] nothing_due (own k L)

no_finals : {may : ℕ → Type 0} (fs : List (ℕ × Bool)) → Picks may (firsts fs) [] → fs ≡ []
no_finals [] p = refl
no_finals (f ∷ fs) p = absurd (elim p [ ])

-- what passes the test stands in blocks
pub test_blocks : (may : ℕ → Bool) (due : ℕ → List ℕ) (E : List What) → is_in_blocks may due [] Succeeded any_row [] E ≡ true → IsInBlocks (λ r. may r ≡ true) due [] E
test_blocks may due E h =
    let t = runs_sound may due E [] Succeeded any_row [] h in
    let z = no_finals t.0 t.3 in
    subst (λ l. IsInBlocks (λ r. may r ≡ true) due [] l) (sym (t.2 ∙ ap (λ fs. finals Succeeded fs ++ t.1) z))
    (subst (λ l. IsInBlocks (λ r. may r ≡ true) due l t.1) (ap (finals Succeeded) z) t.4)

started : (may : ℕ → Bool) (o p : Option Due) (go : Due → Option Due) → elim o as (λ x. Option Due) [ None ↦ None | Some e ↦ go e ] ≡ p → ends may p ≡ true → (d : Due) × (o ≡ Some d)
started may None p go e h = absurd (false≢true (ap (ends may) e ∙ h))
started may (Some d) p go e h = (d, refl)

-- where what k noted is in order so far, something is due at its end
pub so_far_due : (L : List Event) (k : StreamNo) → IsInOrderSoFar L k → (d : Due) × (due_at L k ≡ Some d)
so_far_due L k s =
    let F = finals s.0 s.1 in
    let t : is_in_blocks (may_of L) (due_of L) [] Succeeded any_row [] (own k L ++ F) ≡ true = runs_complete (may_of L) (due_of L) s.2 Succeeded any_row [] nothing in
    let e = sym (blocks_are (may_of L) (due_of L) (own k L ++ F) [] nothing_due) ∙ t in
    started (may_of L) (due_at L k) (due_along (may_of L) (due_of L) [] nothing_due (own k L ++ F)) (λ d. due_along (may_of L) (due_of L) (own k L) d F) (sym (along_append (may_of L) (due_of L) (own k L) F [] nothing_due)) e

-- a Final of each of these rows
abbrev pub each_final : List ℕ → List (ℕ × Bool)
each_final [] = []
each_final (r ∷ rs) = (r, true) ∷ each_final rs

module _ (may : ℕ → Bool) (due : ℕ → List ℕ) where
  step_true : (A : List What) (x : Exit) (s : Bool) (r : ℕ) (rs : List ℕ) → due_after may due A (record { exit = x; strict = s; rows = r ∷ rs }) (Final r x true) ≡ Some (record { exit = x; strict = s; rows = rs })
  step_true A x s r rs =
      ap (λ b. cond {A = Option Due} b (go_on x s (behind (passes may (record { exit = x; strict = s; rows = r ∷ rs })) r (r ∷ rs))) None) (exit_same x)
      ∙ ap (λ b. go_on x s (cond {A = Option (List ℕ)} b (Some rs) (cond (passes may (record { exit = x; strict = s; rows = r ∷ rs }) r) (behind (passes may (record { exit = x; strict = s; rows = r ∷ rs })) r rs) None))) (itself r)

  -- where each row that is due has its Final, nothing is due
  pub ended_by : (A : List What) (x : Exit) (s : Bool) (rs : List ℕ) → due_along may due A (record { exit = x; strict = s; rows = rs }) (finals x (each_final rs)) ≡ Some (record { exit = x; strict = s; rows = [] })
  ended_by A x s [] = refl
  ended_by A x s (r ∷ rs) =
      ap (λ o. elim o as (λ z. Option Due) [ None ↦ None | Some e ↦ due_along may due (A ++ Final r x true ∷ []) e (finals x (each_final rs)) ]) (step_true A x s r rs)
      ∙ ended_by (A ++ Final r x true ∷ []) x s rs

-- where something is due at the end of what k noted, it is in order so far
pub due_so_far : (L : List Event) (k : StreamNo) (d : Due) → due_at L k ≡ Some d → IsInOrderSoFar L k
due_so_far L k d e =
    let F = finals d.exit (each_final d.rows) in
    let a : due_along (may_of L) (due_of L) [] nothing_due (own k L ++ F) ≡ Some (record { exit = d.exit; strict = d.strict; rows = [] }) =
    along_append (may_of L) (due_of L) (own k L) F [] nothing_due
    ∙ ap (λ o. elim o as (λ z. Option Due) [ None ↦ None | Some x ↦ due_along (may_of L) (due_of L) (own k L) x F ]) e
    ∙ ended_by (may_of L) (due_of L) (own k L) d.exit d.strict d.rows in
    (d.exit, each_final d.rows, test_blocks (may_of L) (due_of L) (own k L ++ F) (blocks_are (may_of L) (due_of L) (own k L ++ F) [] nothing_due ∙ ap (ends (may_of L)) a))

-- where nothing is due at the end that may not wait, what k noted is in order
pub due_over : (L : List Event) (k : StreamNo) (d : Due) → due_at L k ≡ Some d → is_over (may_of L) d ≡ true → IsInOrder L k
due_over L k d e h = in_order_sound L k (blocks_are (may_of L) (due_of L) (own k L) [] nothing_due ∙ ap (ends (may_of L)) e ∙ h)
