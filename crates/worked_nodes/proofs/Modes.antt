-- What a device is for, by its place.
use Rattle.std.proofs.Common.{◌≡◌, ℕ, zero, suc, ◌+◌, List, [], ◌∷◌, map, Some, None, sym, ◌∙◌, arith}
use Rattle.std.specs.List.{slice_get}
use Rattle.pull_stepper.specs.Sites.{slot_of}
use Rattle.pull_stepper.proofs.Slots.{slot_here, slot_past}

-- the device in the slot of a place stands as far in the list as the place is from the first
pub slot_get : {V : Type 0} (k i p : ℕ) (d : V) (ds : List V) → k + i ≡ p → slot_of p i (map Some ds) ≡ Some (Some d) → slice_get ds k ≡ Some d
slot_get k i p d [] e h = absurd (let f : None ≡ Some (Some d) = h in cc)
slot_get zero i p d (x ∷ ds) e h = let f : Some (Some x) ≡ Some (Some d) = sym (slot_here p i (Some x) (map Some ds) (omega (arith, e))) ∙ h in cc
slot_get (suc k) i p d (x ∷ ds) e h = slot_get k (suc i) p d ds (omega (arith, e)) (sym (slot_past p i (Some x) (map Some ds) (λ n. omega (arith, e, n))) ∙ h)
