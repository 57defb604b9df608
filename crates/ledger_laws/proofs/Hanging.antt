-- The rows that a Close takes down, by the lists of a stream: each was acquired in a scope that hangs below, and stands there once.
use Rattle.std.proofs.Common.{◌≡◌, ◌≢◌, ℕ, Bool, true, false, cond, ◌&&◌, not, nat_eq, List, [], ◌∷◌, ◌++◌, ◌⊎◌, inl, inr, refl, sym, ap, ◌∙◌, subst, ⊎_elim, eq-eqb}
use Rattle.std.specs.List.{IsDistinct}
use Rattle.chunk_core.specs.Lists.{IsAmong, has}
use Rattle.chunk_core.specs.Lists.IsAmong.{here, there}
use Rattle.chunk_core.proofs.Members.{among_cons, among_nil, among_left}
use Rattle.chunk_core.proofs.Filters.{among_append, among_right, chosen}
use Rattle.chunk_core.proofs.Distinct.{distinct_nil, distinct_append}
use Rattle.chunk_core.proofs.Bools.{both, number, not_so}
use Rattle.res_ledger.specs.declared.event.What.TheVariants.{Close}
use Rattle.res_ledger.specs.Ledger.LiesWithin.{same, below}
use Rattle.res_ledger.specs.Own.{rows, latest, rows_beneath}

-- c is s, or lies below it by scopes that aren't shut
pub data Hangs (os : List (ℕ × ℕ)) (shut : ℕ → Bool) : ℕ → ℕ → Type 0 where
  self : (s : ℕ) → Hangs os shut s s
  child : (c p s : ℕ) → IsAmong (c, p) os → shut c ≡ false → Hangs os shut p s → Hangs os shut c s

hangs_more : {os : List (ℕ × ℕ)} {shut : ℕ → Bool} {c s : ℕ} (o : ℕ × ℕ) → Hangs os shut c s → Hangs (o ∷ os) shut c s
hangs_more o (self s) = self s
hangs_more o (child c p s m h u) = child c p s (there o m) h (hangs_more o u)

hangs_then : {os : List (ℕ × ℕ)} {shut : ℕ → Bool} {c m s : ℕ} → Hangs os shut c m → Hangs os shut m s → Hangs os shut c s
hangs_then (self s) u = u
hangs_then (child c p s m h v) u = child c p _ m h (hangs_then v u)

-- x was opened
abbrev pub IsIn : ℕ → List (ℕ × ℕ) → Type 0
IsIn x os = (q : ℕ) × IsAmong (x, q) os

-- each scope is opened once, and after its parent
abbrev pub IsForward : List (ℕ × ℕ) → Type 0
IsForward [] = Unit {0}
IsForward (o ∷ os) = ¬ (IsIn o.0 os) × ¬ (IsIn o.1 os) × (o.1 ≢ o.0) × IsForward os

pub latest_in : (xs : List (ℕ × ℕ)) (s r : ℕ) → IsAmong r (latest xs s) → IsAmong (r, s) xs
latest_in [] s r m = absurd (among_nil m)
latest_in (x ∷ xs) s r m = ⊎_elim
    (λ l. there x (latest_in xs s r l))
    (λ l. let t = chosen (nat_eq x.1 s) (x.0 ∷ []) r l in
    let e : (ℕ × ℕ) = (r, s) in
    let i : e ≡ x = ⊎_elim (λ q. pair_is r s x q (sym (number x.1 s t.0))) (λ n. absurd (among_nil n)) (among_cons t.1) in subst (λ y. IsAmong y (x ∷ xs)) (sym i) (here xs))
    (among_append r (latest xs s) (cond (nat_eq x.1 s) (x.0 ∷ []) []) m)
  where
    pair_is : (r s : ℕ) (x : ℕ × ℕ) → r ≡ x.0 → s ≡ x.1 → (r, s) ≡ x
    pair_is r s x e f = ap (λ (a : ℕ). (a, s)) e ∙ ap (λ (b : ℕ). (x.0, b)) f

-- a row that is taken down below s: its scope was opened in os, hangs below s, and isn't s
pub record Below (os : List (ℕ × ℕ)) (shut : ℕ → Bool) (xs : List (ℕ × ℕ)) (s r : ℕ) : Type 0 where
  pub scope : ℕ
  pub parent : ℕ
  pub row : IsAmong (r, scope) xs
  pub opened : IsAmong (scope, parent) os
  pub free : shut scope ≡ false
  pub hangs : Hangs os shut parent s

module _ (shut : ℕ → Bool) (xs : List (ℕ × ℕ)) where
  pub beneath_in : (os : List (ℕ × ℕ)) (s r : ℕ) → IsAmong r (rows_beneath os shut xs s) → Below os shut xs s r
  beneath_in [] s r m = absurd (among_nil m)
  beneath_in (o ∷ os) s r m = ⊎_elim
      (λ l. let b = beneath_in os s r l in record { scope = b.scope; parent = b.parent; row = b.row; opened = there o b.opened; free = b.free; hangs = hangs_more o b.hangs })
      (λ l. let t = chosen (nat_eq o.1 s && not (shut o.0)) (rows_beneath os shut xs o.0 ++ latest xs o.0) r l in
      let g = both (nat_eq o.1 s) (not (shut o.0)) t.0 in
      let f : shut o.0 ≡ false = not_so (shut o.0) g.1 in
      let top : Hangs (o ∷ os) shut o.1 s = subst (λ x. Hangs (o ∷ os) shut o.1 x) (number o.1 s g.0) (self o.1) in
      ⊎_elim
      (λ n. let b = beneath_in os o.0 r n in record { scope = b.scope; parent = b.parent; row = b.row; opened = there o b.opened; free = b.free; hangs = hangs_then (hangs_more o b.hangs) (child o.0 o.1 s (here os) f top) })
      (λ n. record { scope = o.0; parent = o.1; row = latest_in xs o.0 r n; opened = here os; free = f; hangs = top })
      (among_append r (rows_beneath os shut xs o.0) (latest xs o.0) t.1))
      (among_append r (rows_beneath os shut xs s) (cond (nat_eq o.1 s && not (shut o.0)) (rows_beneath os shut xs o.0 ++ latest xs o.0) []) m)

-- the parent of a scope that was opened once
pub parent_is : (os : List (ℕ × ℕ)) → IsForward os → (c p q : ℕ) → IsAmong (c, p) os → IsAmong (c, q) os → p ≡ q
parent_is [] f c p q m n = absurd (among_nil m)
parent_is (o ∷ os) f c p q m n = ⊎_elim
    (λ e. ⊎_elim (λ d. ap (λ (x : ℕ × ℕ). x.1) (e ∙ sym d)) (λ j. absurd (f.0 (q, subst (λ x. IsAmong (x, q) os) (ap (λ (x : ℕ × ℕ). x.0) e) j))) (among_cons n))
    (λ i. ⊎_elim (λ d. absurd (f.0 (p, subst (λ x. IsAmong (x, p) os) (ap (λ (x : ℕ × ℕ). x.0) d) i))) (λ j. parent_is os f.3 c p q i j) (among_cons n))
    (among_cons m)

module _ (os : List (ℕ × ℕ)) (shut : ℕ → Bool) where
  hangs_root : IsForward os → (s t : ℕ) → ¬ (IsIn s os) → Hangs os shut s t → s ≡ t
  hangs_root f s t ns (self x) = refl
  hangs_root f s t ns (child c p x m h v) = absurd (ns (p, m))

  -- what hangs below t and isn't t has a parent that does
  hangs_up : IsForward os → (c p t : ℕ) → IsAmong (c, p) os → ¬ (IsIn t os) → Hangs os shut c t → Hangs os shut p t
  hangs_up f c p t m nt (self x) = absurd (nt (p, m))
  hangs_up f c p t m nt (child x q y n h v) = subst (λ z. Hangs os shut z y) (parent_is os f x q p n m) v

  -- below a scope that was opened in os hangs nothing that hangs below one that wasn't
  hangs_one : IsForward os → {s t c : ℕ} → ¬ (IsIn s os) → ¬ (IsIn t os) → Hangs os shut c s → Hangs os shut c t → s ≡ t
  hangs_one f ns nt (self s) v = hangs_root f s _ ns v
  hangs_one f ns nt (child c p s m h u) v = hangs_one f ns nt u (hangs_up f c p _ m nt v)

module _ (shut : ℕ → Bool) (xs : List (ℕ × ℕ)) (one : (r c d : ℕ) → IsAmong (r, c) xs → IsAmong (r, d) xs → c ≡ d) where
  beneath_not : (os : List (ℕ × ℕ)) → IsForward os → (s r : ℕ) → ¬ (IsAmong (r, s) xs) ⊎ ¬ (IsIn s os) → IsAmong r (rows_beneath os shut xs s) → IsAmong (r, s) xs → ⊥
  beneath_not os f s r (inl n) m i = n i
  beneath_not os f s r (inr n) m i = let b = beneath_in shut xs os s r m in n (b.parent, subst (λ x. IsAmong (x, b.parent) os) (one r b.scope s b.row i) b.opened)

  -- no row of s stands below s
  pub below_self : (os : List (ℕ × ℕ)) → IsForward os → (s r : ℕ) → IsAmong r (rows_beneath os shut xs s) → IsAmong (r, s) xs → ⊥
  below_self [] f s r m i = among_nil m
  below_self (o ∷ os) f s r m i = ⊎_elim
      (λ l. below_self os f.3 s r l i)
      (λ l. let t = chosen (nat_eq o.1 s && not (shut o.0)) (rows_beneath os shut xs o.0 ++ latest xs o.0) r l in
      let g = number o.1 s (both (nat_eq o.1 s) (not (shut o.0)) t.0).0 in
      ⊎_elim
      (λ n. let b = beneath_in shut xs os o.0 r n in f.1 (b.parent, subst (λ x. IsAmong (x, b.parent) os) (one r b.scope s b.row i ∙ sym g) b.opened))
      (λ n. f.2 (g ∙ one r s o.0 i (latest_in xs o.0 r n)))
      (among_append r (rows_beneath os shut xs o.0) (latest xs o.0) t.1))
      (among_append r (rows_beneath os shut xs s) (cond (nat_eq o.1 s && not (shut o.0)) (rows_beneath os shut xs o.0 ++ latest xs o.0) []) m)

  if_distinct : (b : Bool) (ys : List ℕ) → IsDistinct nat_eq ys → IsDistinct nat_eq (cond b ys [])
  if_distinct true ys d = d
  if_distinct false ys d = distinct_nil

  pub beneath_distinct : ((s : ℕ) → IsDistinct nat_eq (latest xs s)) → (os : List (ℕ × ℕ)) → IsForward os → (s : ℕ) → IsDistinct nat_eq (rows_beneath os shut xs s)
  beneath_distinct d [] f s = distinct_nil
  beneath_distinct d (o ∷ os) f s =
      distinct_append (rows_beneath os shut xs s) (cond (nat_eq o.1 s && not (shut o.0)) (rows_beneath os shut xs o.0 ++ latest xs o.0) [])
      (beneath_distinct d os f.3 s)
      (if_distinct (nat_eq o.1 s && not (shut o.0)) (rows_beneath os shut xs o.0 ++ latest xs o.0)
      (distinct_append (rows_beneath os shut xs o.0) (latest xs o.0) (beneath_distinct d os f.3 o.0) (d o.0)
      (λ r m n. below_self os f.3 o.0 r m (latest_in xs o.0 r n))))
      (λ r m l.
      let t = chosen (nat_eq o.1 s && not (shut o.0)) (rows_beneath os shut xs o.0 ++ latest xs o.0) r l in
      let g = number o.1 s (both (nat_eq o.1 s) (not (shut o.0)) t.0).0 in
      let b = beneath_in shut xs os s r m in
      ⊎_elim
      (λ n. let c = beneath_in shut xs os o.0 r n in
      let same_scope : b.scope ≡ c.scope = one r b.scope c.scope b.row c.row in
      let same_parent : c.parent ≡ b.parent = parent_is os f.3 b.scope c.parent b.parent (subst (λ x. IsAmong (x, c.parent) os) (sym same_scope) c.opened) b.opened in
      f.2 (g ∙ hangs_one os shut f.3 (λ i. f.1 (i.0, subst (λ x. IsAmong (x, i.0) os) (sym g) i.1)) f.0 b.hangs (subst (λ x. Hangs os shut x o.0) same_parent c.hangs)))
      (λ n. f.0 (b.parent, subst (λ x. IsAmong (x, b.parent) os) (one r b.scope o.0 b.row (latest_in xs o.0 r n)) b.opened))
      (among_append r (rows_beneath os shut xs o.0) (latest xs o.0) t.1))

-- a row of s stands in its rows
pub in_latest : (xs : List (ℕ × ℕ)) (s r : ℕ) → IsAmong (r, s) xs → IsAmong r (latest xs s)
in_latest [] s r m = absurd (among_nil m)
in_latest (x ∷ xs) s r m = ⊎_elim
    (λ e. let same : x.1 ≡ s = ap (λ (y : ℕ × ℕ). y.1) (sym e) in let row : r ≡ x.0 = ap (λ (y : ℕ × ℕ). y.0) e in
    among_right r (latest xs s) (cond (nat_eq x.1 s) (x.0 ∷ []) []) (subst (λ b. IsAmong r (cond b (x.0 ∷ []) [])) (sym (eq-eqb x.1 s same)) (subst (λ z. IsAmong r (z ∷ [])) row (here []))))
    (λ i. among_left (cond (nat_eq x.1 s) (x.0 ∷ []) []) (in_latest xs s r i))
    (among_cons m)

module _ (shut : ℕ → Bool) where
  -- a way up to s that takes the scope that was opened first ends with it
  hangs_split : (o : ℕ × ℕ) (os : List (ℕ × ℕ)) → IsForward (o ∷ os) → {c s : ℕ} → Hangs (o ∷ os) shut c s → Hangs os shut c s ⊎ (Hangs os shut c o.0 × (o.1 ≡ s) × (shut o.0 ≡ false))
  hangs_split o os f (self s) = inl (self s)
  hangs_split o os f (child c p s m h u) = ⊎_elim
      (λ e. let top : p ≡ o.1 = ap (λ (y : ℕ × ℕ). y.1) e in let low : c ≡ o.0 = ap (λ (y : ℕ × ℕ). y.0) e in
      ⊎_elim
      (λ v. inr (subst (λ z. Hangs os shut z o.0) (sym low) (self o.0), hangs_root os shut f.3 o.1 s f.1 (subst (λ z. Hangs os shut z s) top v), subst (λ z. shut z ≡ false) low h))
      (λ v. absurd (f.2 (hangs_root os shut f.3 o.1 o.0 f.1 (subst (λ z. Hangs os shut z o.0) top v.0))))
      (hangs_split o os f u))
      (λ i. ⊎_elim (λ v. inl (child c p s i h v)) (λ v. inr (child c p o.0 i h v.0, v.1, v.2)) (hangs_split o os f u))
      (among_cons m)

  -- each row of a scope that hangs below s, and isn't s, is taken down below it
  pub beneath_found : (xs os : List (ℕ × ℕ)) → IsForward os → (s r c : ℕ) → IsAmong (r, c) xs → Hangs os shut c s → (c ≡ s) ⊎ IsAmong r (rows_beneath os shut xs s)
  beneath_found xs [] f s r c m (self x) = inl refl
  beneath_found xs [] f s r c m (child x p y n h u) = absurd (among_nil n)
  beneath_found xs (o ∷ os) f s r c m u = ⊎_elim
      (λ v. ⊎_elim (λ e. inl e) (λ i. inr (among_left (cond (nat_eq o.1 s && not (shut o.0)) (rows_beneath os shut xs o.0 ++ latest xs o.0) []) i)) (beneath_found xs os f.3 s r c m v))
      (λ v. inr (among_right r (rows_beneath os shut xs s) (cond (nat_eq o.1 s && not (shut o.0)) (rows_beneath os shut xs o.0 ++ latest xs o.0) [])
      (subst (λ b. IsAmong r (cond b (rows_beneath os shut xs o.0 ++ latest xs o.0) [])) (sym (ap (λ b. b && not (shut o.0)) (eq-eqb o.1 s v.1) ∙ ap not v.2))
      (⊎_elim (λ e. among_right r (rows_beneath os shut xs o.0) (latest xs o.0) (in_latest xs o.0 r (subst (λ z. IsAmong (r, z) xs) e m))) (λ i. among_left (latest xs o.0) i) (beneath_found xs os f.3 o.0 r c m v.0)))))
      (hangs_split o os f u)
