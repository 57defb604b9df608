-- A rotation of which nothing was begun.
use Rattle.std.proofs.Common.{◌≡◌, ◌≤◌, ℕ, true, false, List, [], ◌∷◌, ◌++◌, None, drop, length, refl, sym, ap, ◌∙◌, subst, append-nil, arith}
use Rattle.std.proofs.Math.Seq.{drop-append_seam}
use Rattle.std.specs.List.{AllByRecursion}
use Rattle.res_ledger.specs.declared.event.Event.{Event}
use Rattle.device_port.specs.Device.{DeviceTold}
use Rattle.device_port.specs.Depot.{DepotTold}
use Rattle.run_rules.specs.Homes.{is_tried}
use Rattle.cat_run.specs.declared.outcome.Outcome.{Outcome}
use Rattle.cat_run.specs.Cat.{run_record_of}
use Rattle.cat_run.proofs.Unmade.{outcome_is, performs_nothing, unmade_outcome}
use Rattle.rotate_rules.specs.Pieces.{rotate_work}
use Rattle.rotate_rules.specs.Rotation.{HoldsTwo, IsRotation, RotatesFiles}

no_middle : {A : Type 0} (P Q : List A) (e : A) → [] ≡ P ++ e ∷ Q → ⊥
no_middle [] Q e is = cc
no_middle (x ∷ P) Q e is = cc

holds_none : HoldsTwo []
holds_none P Q e is = absurd (no_middle P Q e is)

dropped_all : {A : Type 0} (xs : List A) → drop (length xs) xs ≡ []
dropped_all xs = ap (λ ys. drop (length xs) ys) (sym (append-nil xs)) ∙ drop-append_seam xs []

rotates_none : (path prefix : List ℕ) (n : ℕ) (old : DepotTold) → RotatesFiles path prefix n (run_record_of old old [] None [] unmade_outcome)
rotates_none path prefix n old = record {
  performs = performs_nothing (rotate_work path prefix n) old;
  rotation = record {
    two = holds_none;
    never_halted = tt;
    begun = λ e. refl;
    memory = λ e. tt;
    tried = subst (λ ds. AllByRecursion (λ (d : DeviceTold). is_tried d ≡ true) ds) (sym (dropped_all old.retired)) tt;
    told = tt;
  };
}

-- whatever the outcome, where it says so
pub rotates_nothing : (path prefix : List ℕ) (n : ℕ) (old new : DepotTold) (o : Outcome) → o.ends ≡ [] → o.ledger ≡ [] → o.sink_failed ≡ false → o.memory ≡ true → new ≡ old → RotatesFiles path prefix n (run_record_of old new [] None [] o)
rotates_nothing path prefix n old new o ends ledger sink memory same =
    subst (λ x. RotatesFiles path prefix n (run_record_of old x [] None [] o)) (sym same)
    (subst (λ x. RotatesFiles path prefix n (run_record_of old old [] None [] x)) (sym (outcome_is o [] [] false true ends ledger sink memory)) (rotates_none path prefix n old))
