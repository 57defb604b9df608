-- What is taken down with a scope is distinct, and is what the definition says.
use Rattle.std.proofs.Common.{◌≡◌, ℕ, ◌+◌, ◌<◌, ◌≤◌, ◌⊎◌, zero, suc, Bool, true, false, cond, eqb, ◌&&◌, not, List, [], ◌∷◌, ◌++◌, length, drop, slice_index_or, inl, inr, refl, sym, ap, ◌∙◌, subst, ⊎_elim, arith, eq-eqb, ne_eqb, nat_eq}
use Rattle.std.proofs.lemmas.Bool.{cases_eq}
use Rattle.chunk_core.specs.Lists.{IsAmong}
use Rattle.chunk_core.specs.Lists.IsAmong.{here, there}
use Rattle.chunk_core.proofs.Members.{among_nil, among_cons, among_left}
use Rattle.res_ledger.specs.Own.{rows_beneath, latest}
use Rattle.scope_tree.specs.declared.branch.Branch.{Branch}
use Rattle.scope_tree.specs.declared.branch.AcquiredRow.{AcquiredRow}
use Rattle.scope_tree.specs.Kids.{lasts, kids, whole}
use Rattle.std.specs.List.{IsDistinct}
use Rattle.scope_tree.specs.Trace.{numbers}
use Rattle.scope_tree.specs.Kept.{marks, acquisition_rows, acquisition_pairs}
use Rattle.scope_tree.proofs.Shapes.{kids_other}
use Rattle.chunk_core.proofs.Distinct.{distinct_append, distinct_head, distinct_nil, distinct_one, distinct_tail}
use Rattle.chunk_core.proofs.Filters.{among_append, among_right, chosen}

pub numbers_held : (hs : List AcquiredRow) → numbers (acquisition_pairs hs) ≡ acquisition_rows hs
numbers_held [] = refl
numbers_held (h ∷ hs) = ap (λ l. h.row ∷ l) (numbers_held hs)

unless_elim : {x : ℕ} (b : Bool) (X : List ℕ) → IsAmong x (cond b [] X) → (b ≡ false) × IsAmong x X
unless_elim true X m = absurd (among_nil m)
unless_elim false X m = (refl, m)

pub eqb_eq : (a b : ℕ) → eqb a b ≡ true → a ≡ b
eqb_eq a b h = ⊎_elim (λ e. e) (λ ne. absurd (let f : eqb a b ≡ false = ne_eqb a b ne in cc)) (cases_eq a b)

pub row_of_pair : (r t : ℕ) (hs : List AcquiredRow) → IsAmong (r, t) (acquisition_pairs hs) → IsAmong r (acquisition_rows hs)
row_of_pair r t [] m = absurd (among_nil m)
row_of_pair r t (h ∷ hs) m = ⊎_elim (λ e. subst (λ z. IsAmong r (z ∷ acquisition_rows hs)) (ap (λ y. y.0) e) (here (acquisition_rows hs))) (λ n. there h.row (row_of_pair r t hs n)) (among_cons m)

pub one_scope : (r t u : ℕ) (hs : List AcquiredRow) → IsDistinct nat_eq (acquisition_rows hs) → IsAmong (r, t) (acquisition_pairs hs) → IsAmong (r, u) (acquisition_pairs hs) → t ≡ u
one_scope r t u [] d m n = absurd (among_nil m)
one_scope r t u (h ∷ hs) d m n =
    ⊎_elim
    (λ e. ⊎_elim (λ f. ap (λ y. y.1) e ∙ sym (ap (λ y. y.1) f)) (λ n'. absurd (distinct_head h.row (acquisition_rows hs) d (subst (λ z. IsAmong z (acquisition_rows hs)) (ap (λ y. y.0) e) (row_of_pair r u hs n')))) (among_cons n))
    (λ m'. ⊎_elim (λ f. absurd (distinct_head h.row (acquisition_rows hs) d (subst (λ z. IsAmong z (acquisition_rows hs)) (ap (λ y. y.0) f) (row_of_pair r t hs m')))) (λ n'. one_scope r t u hs (distinct_tail h.row (acquisition_rows hs) d) m' n') (among_cons n))
    (among_cons m)

pub lasts_pair : (r s : ℕ) (hs : List AcquiredRow) → IsAmong r (lasts hs s) → IsAmong (r, s) (acquisition_pairs hs)
lasts_pair r s [] m = absurd (among_nil m)
lasts_pair r s (h ∷ hs) m =
    ⊎_elim
    (λ l. let y : ℕ × ℕ = (h.row, h.scope) in there y (lasts_pair r s hs l))
    (λ w. let t = chosen (eqb h.scope s) (h.row ∷ []) r w in
    ⊎_elim (λ e. let q : h.scope ≡ s = eqb_eq h.scope s t.0 in subst (λ z. IsAmong z (acquisition_pairs (h ∷ hs))) (let p : (h.row, h.scope) ≡ (r, s) = (cc (e, q)) in p) (here (acquisition_pairs hs))) (λ n. absurd (among_nil n)) (among_cons t.1))
    (among_append _ (lasts hs s) (cond (eqb h.scope s) (h.row ∷ []) []) m)

pub pair_lasts : (r s : ℕ) (hs : List AcquiredRow) → IsAmong (r, s) (acquisition_pairs hs) → IsAmong r (lasts hs s)
pair_lasts r s [] m = absurd (among_nil m)
pair_lasts r s (h ∷ hs) m =
    ⊎_elim
    (λ e. among_right r (lasts hs s) (cond (eqb h.scope s) (h.row ∷ []) []) (subst (λ b. IsAmong r (cond b (h.row ∷ []) [])) (sym (eq-eqb h.scope s (sym (ap (λ y. y.1) e)))) (subst (λ z. IsAmong r (z ∷ [])) (ap (λ y. y.0) e) (here []))))
    (λ n. among_left (cond (eqb h.scope s) (h.row ∷ []) []) (pair_lasts r s hs n))
    (among_cons m)

pub distinct_lasts : (s : ℕ) (hs : List AcquiredRow) → IsDistinct nat_eq (acquisition_rows hs) → IsDistinct nat_eq (lasts hs s)
distinct_lasts s [] d = distinct_nil
distinct_lasts s (h ∷ hs) d =
    distinct_append (lasts hs s) (cond (eqb h.scope s) (h.row ∷ []) []) (distinct_lasts s hs (distinct_tail h.row (acquisition_rows hs) d))
    (elim (eqb h.scope s) as (λ b. IsDistinct nat_eq (cond b (h.row ∷ []) [])) [ true ↦ distinct_one h.row | false ↦ distinct_nil ])
    (λ x m n. let t = chosen (eqb h.scope s) (h.row ∷ []) x n in ⊎_elim (λ e. distinct_head h.row (acquisition_rows hs) d (subst (λ z. IsAmong z (acquisition_rows hs)) e (row_of_pair x s hs (lasts_pair x s hs m)))) among_nil (among_cons t.1))

-- the parts of what stands below s in the scopes from n on
pub kids_cases : (r n s : ℕ) (b : Branch) (bs : List Branch) (hs : List AcquiredRow) → IsAmong r (kids n (b ∷ bs) hs s) → IsAmong r (kids (suc n) bs hs s) ⊎ ((b.parent ≡ s) × (b.shut ≡ false) × (IsAmong r (kids (suc n) bs hs n) ⊎ IsAmong r (lasts hs n)))
kids_cases r n s b bs hs m =
    ⊎_elim
    (λ l. inl l)
    (λ w. let t = chosen (eqb b.parent s) (cond b.shut [] (kids (suc n) bs hs n ++ lasts hs n)) r w in let u = unless_elim b.shut (kids (suc n) bs hs n ++ lasts hs n) t.1 in
    inr (eqb_eq b.parent s t.0, u.0, among_append _ (kids (suc n) bs hs n) (lasts hs n) u.1))
    (among_append _ (kids (suc n) bs hs s) (cond (eqb b.parent s) (cond b.shut [] (kids (suc n) bs hs n ++ lasts hs n)) []) m)

pub kids_pair : (r n s : ℕ) (bs : List Branch) (hs : List AcquiredRow) → IsAmong r (kids n bs hs s) → (t : ℕ) × (n ≤ t) × IsAmong (r, t) (acquisition_pairs hs)
kids_pair r n s [] hs m = absurd (among_nil m)
kids_pair r n s (b ∷ bs) hs m =
    ⊎_elim
    (λ l. let t = kids_pair r (suc n) s bs hs l in let q = t.1 in (t.0, (omega arith), t.2))
    (λ w. ⊎_elim (λ l. let t = kids_pair r (suc n) n bs hs l in let q = t.1 in (t.0, (omega arith), t.2)) (λ l. (n, (omega arith), lasts_pair r n hs l)) w.2)
    (kids_cases r n s b bs hs m)

module _ (hs : List AcquiredRow) (d : IsDistinct nat_eq (acquisition_rows hs)) where
  apart : (r n s t : ℕ) (bs : List Branch) → IsAmong r (kids n bs hs s) → IsAmong r (lasts hs t) → t < n → ⊥
  apart r n s t bs m l lt = let p = kids_pair r n s bs hs m in let e = one_scope r p.0 t hs d p.2 (lasts_pair r t hs l) in let q = p.1 in omega arith

  one_root : (r n s c : ℕ) (bs : List Branch) → s < n → c < n → IsAmong r (kids n bs hs s) → IsAmong r (kids n bs hs c) → s ≡ c
  one_root r n s c [] ls lc m k = absurd (among_nil m)
  one_root r n s c (b ∷ bs) ls lc m k =
      let ls' : s < suc n = omega arith in let lc' : c < suc n = omega arith in let ln : n < suc n = omega arith in
      ⊎_elim
      (λ m1. ⊎_elim
      (λ k1. one_root r (suc n) s c bs ls' lc' m1 k1)
      (λ k2. absurd (⊎_elim (λ k3. let e = one_root r (suc n) s n bs ls' ln m1 k3 in omega arith) (λ k3. apart r (suc n) s n bs m1 k3 ln) k2.2))
      (kids_cases r n c b bs hs k))
      (λ m2. ⊎_elim
      (λ k1. absurd (⊎_elim (λ m3. let e = one_root r (suc n) c n bs lc' ln k1 m3 in omega arith) (λ m3. apart r (suc n) c n bs k1 m3 ln) m2.2))
      (λ k2. sym m2.0 ∙ k2.0)
      (kids_cases r n c b bs hs k))
      (kids_cases r n s b bs hs m)

  pub distinct_kids : (n s : ℕ) (bs : List Branch) → s < n → IsDistinct nat_eq (kids n bs hs s)
  distinct_kids n s [] l = distinct_nil
  distinct_kids n s (b ∷ bs) l =
      let ls : s < suc n = omega arith in let ln : n < suc n = omega arith in
      distinct_append (kids (suc n) bs hs s) (cond (eqb b.parent s) (cond b.shut [] (kids (suc n) bs hs n ++ lasts hs n)) []) (distinct_kids (suc n) s bs ls)
      (elim (eqb b.parent s) as (λ p. IsDistinct nat_eq (cond p (cond b.shut [] (kids (suc n) bs hs n ++ lasts hs n)) [])) [
        | true ↦ elim b.shut as (λ q. IsDistinct nat_eq (cond q [] (kids (suc n) bs hs n ++ lasts hs n))) [ true ↦ distinct_nil | false ↦ distinct_append (kids (suc n) bs hs n) (lasts hs n) (distinct_kids (suc n) n bs ln) (distinct_lasts n hs d) (λ x m k. apart x (suc n) n n bs m k ln) ]
        | false ↦ distinct_nil
      ])
      (λ x m w. let t = chosen (eqb b.parent s) (cond b.shut [] (kids (suc n) bs hs n ++ lasts hs n)) x w in let u = unless_elim b.shut (kids (suc n) bs hs n ++ lasts hs n) t.1 in
      ⊎_elim (λ k. let e = one_root x (suc n) s n bs ls ln m k in omega arith) (λ k. apart x (suc n) s n bs m k ln) (among_append _ (kids (suc n) bs hs n) (lasts hs n) u.1))

  pub distinct_whole : (s : ℕ) (bs : List Branch) → IsDistinct nat_eq (whole bs hs s)
  distinct_whole s bs =
      let l : s < suc s = omega arith in
      distinct_append (kids (suc s) (drop (suc s) bs) hs s) (lasts hs s) (distinct_kids (suc s) s (drop (suc s) bs) l) (distinct_lasts s hs d) (λ x m k. apart x (suc s) s s (drop (suc s) bs) m k l)

-- the definition on events
pub latest_is : (hs : List AcquiredRow) (s : ℕ) → lasts hs s ≡ latest (acquisition_pairs hs) s
latest_is [] s = refl
latest_is (h ∷ hs) s = ap (λ l. l ++ cond (eqb h.scope s) (h.row ∷ []) []) (latest_is hs s)

-- two conditions are one
nested : (a b : Bool) (X : List ℕ) → cond a (cond b [] X) [] ≡ cond (a && not b) X []
nested true true X = refl
nested true false X = refl
nested false b X = refl

pub below_is : (n : ℕ) (bs : List Branch) (hs : List AcquiredRow) (f : ℕ → Bool) (s : ℕ) → ((i : ℕ) (d : Branch) → i < length bs → (slice_index_or bs i d).shut ≡ f (i + n)) → kids n bs hs s ≡ rows_beneath (marks n bs) f (acquisition_pairs hs) s
below_is n [] hs f s h = refl
below_is n (b ∷ bs) hs f s h =
    let g : (i : ℕ) (d : Branch) → i < length bs → (slice_index_or bs i d).shut ≡ f (i + suc n) = λ i d l. let e : suc i + n ≡ i + suc n = omega arith in h (suc i) d (omega arith) ∙ ap f e in
    let z : b.shut ≡ f n = let e : zero + n ≡ n = omega arith in h zero b (omega arith) ∙ ap f e in
    let A = below_is (suc n) bs hs f s g in let B = below_is (suc n) bs hs f n g in let C = latest_is hs n in
    ap (λ l. l ++ cond (eqb b.parent s) (cond b.shut [] (kids (suc n) bs hs n ++ lasts hs n)) []) A
    ∙ ap (λ q. rows_beneath (marks (suc n) bs) f (acquisition_pairs hs) s ++ cond (eqb b.parent s) (cond q [] (kids (suc n) bs hs n ++ lasts hs n)) []) z
    ∙ ap (λ l. rows_beneath (marks (suc n) bs) f (acquisition_pairs hs) s ++ cond (eqb b.parent s) (cond (f n) [] (l ++ lasts hs n)) []) B
    ∙ ap (λ l. rows_beneath (marks (suc n) bs) f (acquisition_pairs hs) s ++ cond (eqb b.parent s) (cond (f n) [] (rows_beneath (marks (suc n) bs) f (acquisition_pairs hs) n ++ l)) []) C
    ∙ ap (λ l. rows_beneath (marks (suc n) bs) f (acquisition_pairs hs) s ++ l) (nested (eqb b.parent s) (f n) (rows_beneath (marks (suc n) bs) f (acquisition_pairs hs) n ++ latest (acquisition_pairs hs) n))

-- no scope up to s is a child of s
pub kids_up : (bs : List Branch) (hs : List AcquiredRow) (s j : ℕ) (d : Branch) → ((c : ℕ) (d : Branch) → 1 ≤ c → c < length bs → (slice_index_or bs c d).parent < c) → j ≤ s → s < length bs → kids 1 (drop 1 bs) hs s ≡ kids (suc j) (drop (suc j) bs) hs s
kids_up bs hs s zero d p l m = refl
kids_up bs hs s (suc j) d p l m =
    let q = p (suc j) d (omega arith) (omega arith) in
    kids_up bs hs s j d p (omega arith) m ∙ kids_other bs hs s (suc (suc j)) (suc j) d refl (omega arith) (λ e. omega arith)

-- an acquired row stands with its scope
pub pair_at : (hs : List AcquiredRow) (i : ℕ) (d : AcquiredRow) → i < length hs → IsAmong ((slice_index_or hs i d).row, (slice_index_or hs i d).scope) (acquisition_pairs hs)
pair_at [] i d l = absurd (omega arith)
pair_at (h ∷ hs) zero d l = here (acquisition_pairs hs)
pair_at (h ∷ hs) (suc i) d l = let y : ℕ × ℕ = (h.row, h.scope) in there y (pair_at hs i d (omega arith))
