-- What is due after a Final, by what the mark tells.
use Rattle.std.proofs.Common.{◌≡◌, ℕ, Bool, true, false, cond, List, [], ◌∷◌, refl, ap, ◌∙◌, Option, None}
use Rattle.std.specs.List.{list_all as all}
use Rattle.chunk_core.specs.declared.code.Exit.{Exit}
use Rattle.res_ledger.specs.Order.{any_row, same_exit}
use Rattle.ledger_verdict.specs.Pending.{Due, passes, is_over, behind, go_on}
use Rattle.ledger_audit.specs.Marks.{after_final}

all_any : (xs : List ℕ) → all any_row xs ≡ true
all_any [] = refl
all_any (x ∷ xs) = all_any xs

module _ (may : ℕ → Bool) (d : Due) where
  pub over_any : d.strict ≡ false → is_over may d ≡ true
  over_any h = ap (λ b. all (cond {A = ℕ → Bool} b may any_row) d.rows) h ∙ all_any d.rows

  pub over_all : (xs : List ℕ) → d.strict ≡ true → d.rows ≡ xs → is_over may d ≡ all may xs
  over_all xs h e = ap (λ b. all (cond {A = ℕ → Bool} b may any_row) d.rows) h ∙ ap (all may) e

  pub final_is : (r : ℕ) (y x : Exit) (m : ℕ → Bool) (b : Bool) (xs : List ℕ) → cond {A = ℕ → Bool} b may any_row ≡ m → d.exit ≡ x → d.strict ≡ b → d.rows ≡ xs → same_exit y x ≡ true → after_final may d r y ≡ go_on d.exit d.strict (behind m r xs)
  final_is r y x m b xs c e s w h =
      ap (λ c. cond {A = Option Due} c (go_on d.exit d.strict (behind (passes may d) r d.rows)) None) (ap (same_exit y) e ∙ h)
      ∙ ap (λ c. go_on d.exit d.strict (behind (cond {A = ℕ → Bool} c may any_row) r d.rows)) s
      ∙ ap (λ n. go_on d.exit d.strict (behind n r d.rows)) c
      ∙ ap (λ l. go_on d.exit d.strict (behind m r l)) w
