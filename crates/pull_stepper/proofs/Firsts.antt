-- The least of some numbers.
use Rattle.std.proofs.Common.{◌≡◌, ℕ, suc, ◌+◌, ◌-◌, ◌<◌, ◌≤◌, min, true, zero, nat_eq, List, [], ◌∷◌, ◌++◌, length, ◌⊎◌, inl, inr, ⊎_elim, refl, sym, ap, subst, ◌∙◌, Option, Some, None, unwrap_or, arith}
use Rattle.std.proofs.lemmas.Bool.{cases_lt}
use Rattle.std.proofs.lemmas.Map.Made.{length-le_from_is_member}
use Rattle.std.proofs.Math.Nat.{eq-or-lt_of_le}
use Rattle.std.specs.Cmp.{nat_eq_equiv}
use Rattle.std.specs.List.{list_any as any}
use Rattle.chunk_core.specs.Lists.{IsAmong, are_distinct}
use Rattle.chunk_core.specs.Lists.IsAmong.{here, there}
use Rattle.chunk_core.proofs.Members.{among_cons}
use Rattle.chunk_core.proofs.Bools.{or_left, or_right, number, itself, any_found}
use Rattle.chunk_core.proofs.Filters.{among_append}
use Rattle.row_seat.specs.Views.{run}
use Rattle.row_seat.proofs.Times.{run_length}
use Rattle.pull_stepper.specs.Placing.{first_of, least, lesser_of}
use Rattle.chunk_core.proofs.Distinct.{test_distinct}

lesser_assoc : (p q r : Option ℕ) → lesser_of p (lesser_of q r) ≡ lesser_of (lesser_of p q) r
lesser_assoc None q r = refl
lesser_assoc (Some p) None r = refl
lesser_assoc (Some p) (Some q) None = refl
lesser_assoc (Some p) (Some q) (Some r) = let e : min p (min q r) ≡ min (min p q) r = omega arith in ap Some e

pub least_append : (ps qs : List ℕ) → least (ps ++ qs) ≡ lesser_of (least ps) (least qs)
least_append [] qs = refl
least_append (p ∷ ps) qs = ap (lesser_of (Some p)) (least_append ps qs) ∙ lesser_assoc (Some p) (least ps) (least qs)

-- m is one of the numbers, and none is below it
record IsLeast (ps : List ℕ) (m : ℕ) : Type 0 where
  among : IsAmong m ps
  below : (p : ℕ) → IsAmong p ps → m ≤ p

least_of_more : (p q m : ℕ) (ps : List ℕ) → IsLeast (q ∷ ps) m → IsLeast (p ∷ q ∷ ps) (min p m)
least_of_more p q m ps h = record {
  among = elim (lesser p m) [
    | inl e ↦ subst (λ x. IsAmong x (p ∷ q ∷ ps)) (sym e) (here (q ∷ ps))
    | inr e ↦ subst (λ x. IsAmong x (p ∷ q ∷ ps)) (sym e) (there p h.among)
  ];
  below = λ r i. elim (among_cons i) [
    | inl e ↦ omega arith
    | inr j ↦ let l = h.below r j in omega arith
  ];
}
  where
    lesser : (a b : ℕ) → (min a b ≡ a) ⊎ (min a b ≡ b)
    lesser a b = ⊎_elim (λ l. inl (omega arith)) (λ l. inr (omega arith)) (cases_lt a b)

first_is_least : (p : ℕ) (ps : List ℕ) → (m : ℕ) × (least (p ∷ ps) ≡ Some m) × IsLeast (p ∷ ps) m
first_is_least p [] = (p, refl, record { among = here []; below = λ q i. elim (among_cons i) [ inl e ↦ omega arith | inr j ↦ elim j [ ] ] })
first_is_least p (q ∷ ps) =
    let f = first_is_least q ps in
    (min p f.0, ap (lesser_of (Some p)) f.1, least_of_more p q f.0 ps f.2)

in_run : (p n k : ℕ) → n ≤ p → p < n + k → any (nat_eq p) (run n k) ≡ true
in_run p n zero a b = absurd (omega arith)
in_run p n (suc k) a b = ⊎_elim
    (λ e. or_left (nat_eq p n) (any (nat_eq p) (run (suc n) k)) (subst (λ m. nat_eq p m ≡ true) (sym e) (itself p)))
    (λ l. or_right (nat_eq p n) (any (nat_eq p) (run (suc n) k)) (in_run p (suc n) k (omega arith) (omega arith)))
    (eq-or-lt_of_le a)

pub among_run : (p n k : ℕ) → n ≤ p → p < n + k → IsAmong p (run n k)
among_run p n k a b = let f = any_found (nat_eq p) (run n k) (in_run p n k a b) in subst (λ x. IsAmong x (run n k)) (sym (number p f.0 f.2)) f.1

-- distinct numbers from m on, below m + k, are at most k
few : (ps : List ℕ) (m k : ℕ) → are_distinct ps ≡ true → ((p : ℕ) → IsAmong p ps → (m ≤ p) × (p < m + k)) → length ps ≤ k
few ps m k d h =
    let l = length-le_from_is_member nat_eq_equiv ps (run m k) (test_distinct ps d)
    (λ q t. let f = any_found (nat_eq q) ps t in let w = h q (subst (λ x. IsAmong x ps) (sym (number q f.0 f.2)) f.1) in in_run q m k w.0 w.1) in
    subst (λ n. length ps ≤ n) (run_length m k) l

-- n distinct numbers from `from` on, below from + n, begin with it
pub first_is : (ps : List ℕ) (from : ℕ) → are_distinct ps ≡ true → 0 < length ps → ((p : ℕ) → IsAmong p ps → (from ≤ p) × (p < from + length ps)) → first_of ps ≡ from
first_is [] from d some h = absurd (omega arith)
first_is (p ∷ ps) from d some h =
    let f = first_is_least p ps in
    let w = h f.0 f.2.among in
    let l = few (p ∷ ps) f.0 (from + length (p ∷ ps) - f.0) d (λ q i. let v = h q i in let b = f.2.below q i in (omega arith, omega arith)) in
    let e : f.0 ≡ from = omega (arith, w.0, w.1) in
    ap (λ o. unwrap_or o 0) f.1 ∙ e

-- distinct numbers from `from` on are no more than there are below a limit that each is below
pub span_limit : (ps : List ℕ) (from limit : ℕ) → are_distinct ps ≡ true → 0 < length ps → ((p : ℕ) → IsAmong p ps → (from ≤ p) × (p < limit)) → from + length ps ≤ limit
span_limit [] from limit d some h = absurd (omega arith)
span_limit (p ∷ ps) from limit d some h =
    let w = h p (here ps) in
    let l = few (p ∷ ps) from (limit - from) d (λ q i. let v = h q i in let a = v.0 in let b = v.1 in (a, omega (arith, a, b))) in
    omega (arith, w.0, w.1, l)

pub below_join : (n : ℕ) (ps qs : List ℕ) → ((p : ℕ) → IsAmong p ps → p < n) → ((p : ℕ) → IsAmong p qs → p < n) → (p : ℕ) → IsAmong p (ps ++ qs) → p < n
below_join n ps qs f g p i = ⊎_elim (f p) (g p) (among_append p ps qs i)
