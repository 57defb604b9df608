-- The test of the order, one event at a time.
use Rattle.std.proofs.Common.{◌≡◌, ℕ, Bool, true, false, cond, ◌&&◌, nat_eq, List, [], ◌∷◌, ◌++◌, refl, sym, ap, ◌∙◌, append_assoc, append-nil, Option, None, Some}
use Rattle.res_ledger.specs.declared.event.What.{What}
use Rattle.res_ledger.specs.declared.event.What.TheVariants.{Cancel, Close, Final}
use Rattle.res_ledger.specs.Own.{teardown}
use Rattle.res_ledger.specs.Order.{passes_after, any_row, same_exit, is_in_blocks}
use Rattle.ledger_verdict.specs.Pending.{Due, passes, is_over, behind, go_on, due_after, due_along}

-- what is due may all be left out
abbrev pub ends : (ℕ → Bool) → Option Due → Bool
ends may None = false
ends may (Some d) = is_over may d

abbrev pub on_some : (List ℕ → Bool) → Option (List ℕ) → Bool
on_some go None = false
on_some go (Some ys) = go ys

pub passes_after_is : (m : ℕ → Bool) (r : ℕ) (xs : List ℕ) (go : List ℕ → Bool) → passes_after m r xs go ≡ on_some go (behind m r xs)
passes_after_is m r [] go = refl
passes_after_is m r (y ∷ ys) go =
    elim (nat_eq y r) as (λ b. cond b (go ys) (m y && passes_after m r ys go) ≡ on_some go (cond b (Some ys) (cond (m y) (behind m r ys) None))) [
      | true ↦ refl
      | false ↦ elim (m y) as (λ c. (c && passes_after m r ys go) ≡ on_some go (cond c (behind m r ys) None)) [ true ↦ passes_after_is m r ys go | false ↦ refl ]
    ]

module _ (may : ℕ → Bool) (due : ℕ → List ℕ) where
  -- the test is what stands at the end
  pub blocks_are : (E A : List What) (d : Due) → is_in_blocks may due A d.exit (passes may d) d.rows E ≡ ends may (due_along may due A d E)
  blocks_are [] A d = refl
  blocks_are (Cancel j y ∷ E) A d =
      elim (is_over may d) as (λ b. (b && is_in_blocks may due (A ++ Cancel j y ∷ []) y any_row (due j) E) ≡ ends may (elim (cond {A = Option Due} b (Some (record { exit = y; strict = false; rows = due j })) None) [ None ↦ None | Some e ↦ due_along may due (A ++ Cancel j y ∷ []) e E ])) [
        | true ↦ blocks_are E (A ++ Cancel j y ∷ []) (record { exit = y; strict = false; rows = due j })
        | false ↦ refl
      ]
  blocks_are (Close s y ∷ E) A d =
      elim (is_over may d) as (λ b. (b && is_in_blocks may due (A ++ Close s y ∷ []) y may (teardown A s) E) ≡ ends may (elim (cond {A = Option Due} b (Some (record { exit = y; strict = true; rows = teardown A s })) None) [ None ↦ None | Some e ↦ due_along may due (A ++ Close s y ∷ []) e E ])) [
        | true ↦ blocks_are E (A ++ Close s y ∷ []) (record { exit = y; strict = true; rows = teardown A s })
        | false ↦ refl
      ]
  blocks_are (Final r y ok ∷ E) A d =
      let go : List ℕ → Bool = λ ys. is_in_blocks may due (A ++ Final r y ok ∷ []) d.exit (passes may d) ys E in
      elim (same_exit y d.exit) as (λ b. (b && passes_after (passes may d) r d.rows go) ≡ ends may (elim (cond {A = Option Due} b (go_on d.exit d.strict (behind (passes may d) r d.rows)) None) [ None ↦ None | Some e ↦ due_along may due (A ++ Final r y ok ∷ []) e E ])) [
        | true ↦ passes_after_is (passes may d) r d.rows go ∙ elim (behind (passes may d) r d.rows) as (λ o. on_some go o ≡ ends may (elim (go_on d.exit d.strict o) [ None ↦ None | Some e ↦ due_along may due (A ++ Final r y ok ∷ []) e E ])) [
          | None ↦ refl
          | Some ys ↦ blocks_are E (A ++ Final r y ok ∷ []) (record { exit = d.exit; strict = d.strict; rows = ys })
        ]
        | false ↦ refl
      ]
  blocks_are (w ∷ E) A d =
      elim (is_over may d) as (λ b. (b && is_in_blocks may due (A ++ w ∷ []) d.exit any_row [] E) ≡ ends may (elim (cond {A = Option Due} b (Some (record { exit = d.exit; strict = false; rows = [] })) None) [ None ↦ None | Some e ↦ due_along may due (A ++ w ∷ []) e E ])) [
        | true ↦ blocks_are E (A ++ w ∷ []) (record { exit = d.exit; strict = false; rows = [] })
        | false ↦ refl
      ]

  -- one list after another
  pub along_append : (E F A : List What) (d : Due) → due_along may due A d (E ++ F) ≡ elim (due_along may due A d E) [ None ↦ None | Some e ↦ due_along may due (A ++ E) e F ]
  along_append [] F A d = ap (λ l. due_along may due l d F) (sym (append-nil A))
  along_append (w ∷ E) F A d =
      elim (due_after may due A d w) as (λ o. elim o as (λ x. Option Due) [ None ↦ None | Some e ↦ due_along may due (A ++ w ∷ []) e (E ++ F) ] ≡ elim (elim o as (λ x. Option Due) [ None ↦ None | Some e ↦ due_along may due (A ++ w ∷ []) e E ]) as (λ x. Option Due) [ None ↦ None | Some e ↦ due_along may due (A ++ w ∷ E) e F ]) [
        | None ↦ refl
        | Some e ↦ along_append E F (A ++ w ∷ []) e ∙ ap (λ l. elim (due_along may due (A ++ w ∷ []) e E) as (λ x. Option Due) [ None ↦ None | Some f ↦ due_along may due l f F ]) (append_assoc A (w ∷ []) E)
      ]
