-- What a stream's last Close or Cancel still has to come.
use Rattle.std.specs.Prelude.{ℕ, Bool, true, false, if◌then◌else◌, nat_eq, List, [], ◌∷◌, ◌++◌, Option, None, Some}
use Rattle.std.specs.List.{list_all as all}
use Rattle.chunk_core.specs.declared.code.Exit.{Exit}
use Rattle.chunk_core.specs.declared.code.Exit.TheVariants.{Succeeded}
use Rattle.res_ledger.specs.declared.event.What.{What}
use Rattle.res_ledger.specs.declared.event.What.TheVariants.{Cancel, Close, Final}
use Rattle.res_ledger.specs.Own.{teardown}
use Rattle.res_ledger.specs.Order.{any_row, same_exit}

-- the rows that may still have their Final, in order, which then has this exit; where it is strict, only rows that a lease covers may be left out
pub record Due : Type 0 where
  pub exit : Exit
  pub strict : Bool
  pub rows : List ℕ

-- nothing
abbrev pub nothing_due : Due
nothing_due = record { exit = Succeeded; strict = false; rows = [] }

-- a row may be left out
abbrev pub passes : (ℕ → Bool) → Due → ℕ → Bool
passes may d = if d.strict then may else any_row

-- each row that is due may be left out
abbrev pub is_over : (ℕ → Bool) → Due → Bool
is_over may d = all (passes may d) d.rows

-- what stands in xs behind r, where all before r passes
abbrev pub behind : (ℕ → Bool) → ℕ → List ℕ → Option (List ℕ)
behind m r [] = None
behind m r (y ∷ ys) = if nat_eq y r then Some ys else (if m y then behind m r ys else None)

abbrev pub go_on : Exit → Bool → Option (List ℕ) → Option Due
go_on x s None = None
go_on x s (Some ys) = Some (record { exit = x; strict = s; rows = ys })

-- what is due after w, noted behind A; None where w may not come there
abbrev pub due_after : (ℕ → Bool) → (ℕ → List ℕ) → List What → Due → What → Option Due
due_after may due A d (Cancel j y) = if is_over may d then Some (record { exit = y; strict = false; rows = due j }) else None
due_after may due A d (Close s y) = if is_over may d then Some (record { exit = y; strict = true; rows = teardown A s }) else None
due_after may due A d (Final r y ok) = if same_exit y d.exit then go_on d.exit d.strict (behind (passes may d) r d.rows) else None
due_after may due A d w = if is_over may d then Some (record { exit = d.exit; strict = false; rows = [] }) else None

-- what is due after E
abbrev pub due_along : (ℕ → Bool) → (ℕ → List ℕ) → List What → Due → List What → Option Due
due_along may due A d [] = Some d
due_along may due A d (w ∷ E) = elim (due_after may due A d w) [ None ↦ None | Some e ↦ due_along may due (A ++ w ∷ []) e E ]
