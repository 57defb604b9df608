-- The numbers of devices, and the bytes at a path.
use Rattle.std.proofs.Common.{◌≡◌, ◌≢◌, ℕ, ◌<◌, ◌≤◌, ◌+◌, true, false, ◌||◌, List, [], ◌∷◌, ◌++◌, length, nat_eq, refl, sym, arith, ⊎_elim, ◌⊎◌, ◌∙◌, ap, subst}
use Rattle.std.proofs.lemmas.Bool.{false≢true, cases_Bool}
use Rattle.std.proofs.lemmas.Bool.Decides.{eqb_tells}
use Rattle.std.specs.Cmp.{nat_eq_equiv}
use Rattle.std.proofs.lemmas.List.{length-map, map-append}
use Rattle.std.proofs.lemmas.List.Folds.{list_any-append}
use Rattle.std.proofs.lemmas.Map.Keys.{IsDistinct-push}
use Rattle.std.proofs.lemmas.Map.Steps.{length-le_from_distinct_below}
use Rattle.std.specs.List.{IsDistinct, list_any}
use Rattle.device_port.specs.Device.{DeviceTold, Place}
use Rattle.device_port.specs.Depot.{device_numbers, HaveOwnNumbers, AreBelow, IsUnknown, CourseTold, DepotTold, depot_of}

pub apart_none : HaveOwnNumbers []
unfolding IsDistinct
apart_none = tt

pub below_none : (n : ℕ) → AreBelow n []
below_none n q h = absurd (false≢true h)

-- there are at most n devices with numbers below n
pub few : (n : ℕ) (ds : List DeviceTold) → HaveOwnNumbers ds → AreBelow n ds → length ds ≤ n
few n ds a b = let e : length (device_numbers ds) ≤ n = length-le_from_distinct_below (device_numbers ds) n a b in rw length-map at e

-- a number that is unknown is not among the numbers
pub absent : (n : ℕ) (ds : List DeviceTold) → IsUnknown n ds → list_any (nat_eq n) (device_numbers ds) ≡ false
absent n [] u = refl
absent n (d ∷ ds) u = ⊎_elim
    (λ (e : (nat_eq n d.number ≡ true) × (n ≡ d.number)). absurd (u.0 (sym e.1)))
    (λ (e : (nat_eq n d.number ≡ false) × (n ≢ d.number)). rw e.0 (absent n ds u.1))
    (eqb_tells n d.number)

pub unknown : (n : ℕ) (ds : List DeviceTold) → list_any (nat_eq n) (device_numbers ds) ≡ false → IsUnknown n ds
unknown n [] h = tt
unknown n (d ∷ ds) h = ⊎_elim
    (λ (e : (nat_eq n d.number ≡ true) × (n ≡ d.number)). absurd (false≢true (sym (rw e.0 at h))))
    (λ (e : (nat_eq n d.number ≡ false) × (n ≢ d.number)). (λ k. e.1 (sym k), unknown n ds (rw e.0 at h)))
    (eqb_tells n d.number)

-- the next number is unknown
pub next_unknown : (n : ℕ) (ds : List DeviceTold) → AreBelow n ds → IsUnknown n ds
next_unknown n ds b = ⊎_elim
    (λ (h : list_any (nat_eq n) (device_numbers ds) ≡ true). let lt : n < n = b n h in absurd (omega arith))
    (λ (h : list_any (nat_eq n) (device_numbers ds) ≡ false). unknown n ds h)
    (cases_Bool (list_any (nat_eq n) (device_numbers ds)))

-- one device more
pub apart_more : (ds : List DeviceTold) (d : DeviceTold) → HaveOwnNumbers ds → IsUnknown d.number ds → HaveOwnNumbers (ds ++ d ∷ [])
apart_more ds d a u = rw (map-append (λ (x : DeviceTold). x.number) ds (d ∷ [])) (IsDistinct-push nat_eq_equiv (device_numbers ds) d.number a (absent d.number ds u))

pub below_more : (n : ℕ) (ds : List DeviceTold) (d : DeviceTold) → AreBelow n ds → d.number < n → AreBelow n (ds ++ d ∷ [])
below_more n ds d b lt q h =
    let k : (list_any (nat_eq q) (device_numbers ds) || (nat_eq q d.number || false)) ≡ true = sym (list_any-append (nat_eq q) (device_numbers ds) (d.number ∷ [])) ∙ subst (λ ns. list_any (nat_eq q) ns ≡ true) (map-append (λ (x : DeviceTold). x.number) ds (d ∷ [])) h in
    ⊎_elim
    (λ (e : list_any (nat_eq q) (device_numbers ds) ≡ true). b q e)
    (λ (e : list_any (nat_eq q) (device_numbers ds) ≡ false). ⊎_elim
    (λ (w : (nat_eq q d.number ≡ true) × (q ≡ d.number)). let eq : q ≡ d.number = w.1 in omega arith)
    (λ (w : (nat_eq q d.number ≡ false) × (q ≢ d.number)). absurd (false≢true (rw (e, w.0) at k)))
    (eqb_tells q d.number))
    (cases_Bool (list_any (nat_eq q) (device_numbers ds)))

pub below_longer : (n : ℕ) (ds : List DeviceTold) → AreBelow n ds → AreBelow (n + 1) ds
below_longer n ds b q h = let lt : q < n = b q h in omega arith

-- one place more, where no files are told
pub course_made : (old new : CourseTold) (d : DeviceTold) (p : Place) → new ≡ record old { made = old.made ++ d.place ∷ [] } → d.place ≡ p → depot_of new ≡ record (depot_of old) { made = old.made ++ p ∷ [] }
course_made old new d p e h = ap depot_of e ∙ ap (λ q. let r : DepotTold = record (depot_of old) { made = old.made ++ q ∷ [] } in r) h
