-- At most two rows are open along swaps.
use Rattle.std.proofs.Common.{◌≡◌, ◌⊎◌, ℕ, suc, ◌+◌, ◌≤◌, Bool, true, false, not, cond, nat_eq, List, [], ◌∷◌, ◌++◌, length, map, filter, Option, None, Some, inl, inr, refl, sym, ap, ◌∙◌, subst, ⊎_elim, arith, length-append}
use Rattle.std.specs.List.{list_any as any}
use Rattle.std.proofs.lemmas.List.{length-map, map-append}
use Rattle.std.proofs.lemmas.List.Elements.{filter-append}
use Rattle.chunk_core.specs.declared.code.Exit.TheVariants.{Succeeded}
use Rattle.chunk_core.specs.Lists.{IsAmong}
use Rattle.chunk_core.specs.Lists.IsAmong.{here, there}
use Rattle.chunk_core.proofs.Bools.{any_at, any_found, itself}
use Rattle.chunk_core.proofs.Filters.{among_append, among_right}
use Rattle.chunk_core.proofs.Members.{among_cons, among_left, among_nil}
use Rattle.res_ledger.specs.declared.event.What.{What}
use Rattle.res_ledger.specs.declared.event.What.TheVariants.{Open, Acquire, Close, Final}
use Rattle.res_ledger.specs.Own.{rows}
use Rattle.res_ledger.specs.Whole.{is_final}
use Rattle.res_ledger.proofs.Mapped.{among_map}
use Rattle.scope_tree.proofs.Bridge.{rows_append}
use Rattle.hot_swap.specs.declared.swap.Held.{Held}
use Rattle.hot_swap.specs.TwoRows.{NotesSwaps, SwapsHoldTwo, has_final, rows_open}
use Rattle.hot_swap.specs.TwoRows.NotesSwaps.{none, first, next}

-- a list in two parts, twice
pub two_fronts : {A : Type 0} (xs ys us vs : List A) → xs ++ ys ≡ us ++ vs → ((zs : List A) × (xs ≡ us ++ zs) × (vs ≡ zs ++ ys)) ⊎ ((zs : List A) × (us ≡ xs ++ zs) × (ys ≡ zs ++ vs))
two_fronts [] ys us vs e = inr (us, refl, e)
two_fronts (x ∷ xs) ys [] vs e = inl (x ∷ xs, refl, sym e)
two_fronts (x ∷ xs) ys (u ∷ us) vs e =
    let h : x ≡ u = cc in
    let t : xs ++ ys ≡ us ++ vs = cc in
    ⊎_elim
    (λ z. inl (z.0, ap (λ l. x ∷ l) z.1 ∙ ap (λ y. y ∷ (us ++ z.0)) h, z.2))
    (λ z. inr (z.0, ap (λ y. y ∷ us) (sym h) ∙ ap (λ l. x ∷ l) z.1, z.2))
    (two_fronts xs ys us vs t)

-- how many pass
pub fewer_pass : (p q : ℕ → Bool) (xs : List ℕ) → ((x : ℕ) → p x ≡ true → q x ≡ true) → length (filter p xs) ≤ length (filter q xs)
fewer_pass p q [] h = omega arith
fewer_pass p q (x ∷ xs) h =
    let rest = fewer_pass p q xs h in
    (elim (p x) as (λ b. p x ≡ b → length (cond b (x ∷ filter p xs) (filter p xs)) ≤ length (cond (q x) (x ∷ filter q xs) (filter q xs))) [
      | true ↦ λ e. subst (λ b. suc (length (filter p xs)) ≤ length (cond b (x ∷ filter q xs) (filter q xs))) (sym (h x e)) (omega (arith, rest))
      | false ↦ λ e. (elim (q x) as (λ b. length (filter p xs) ≤ length (cond b (x ∷ filter q xs) (filter q xs))) [ true ↦ omega (arith, rest) | false ↦ rest ])
    ]) refl

pub few_pass : (p : ℕ → Bool) (xs : List ℕ) → length (filter p xs) ≤ length xs
few_pass p [] = omega arith
few_pass p (x ∷ xs) = let rest = few_pass p xs in elim (p x) as (λ b. length (cond b (x ∷ filter p xs) (filter p xs)) ≤ length (x ∷ xs)) [ true ↦ omega (arith, rest) | false ↦ omega (arith, rest) ]

none_pass : (p : ℕ → Bool) (xs : List ℕ) → ((x : ℕ) → IsAmong x xs → p x ≡ false) → filter p xs ≡ []
none_pass p [] h = refl
none_pass p (x ∷ xs) h = ap (λ b. cond b (x ∷ filter p xs) (filter p xs)) (h x (here xs)) ∙ none_pass p xs (λ y m. h y (there x m))

-- what ended stays so
pub final_left : (E F : List What) (r : ℕ) → has_final E r ≡ true → has_final (E ++ F) r ≡ true
final_left E F r t = let w = any_found (is_final r) E t in any_at (is_final r) w.0 (E ++ F) (among_left F w.1) w.2

final_right : (E F : List What) (r : ℕ) → has_final F r ≡ true → has_final (E ++ F) r ≡ true
final_right E F r t = let w = any_found (is_final r) F t in any_at (is_final r) w.0 (E ++ F) (among_right w.0 E F w.1) w.2

-- the rows of the front that pass, and those behind
parted : (E F : List What) → let p : ℕ → Bool = λ r. not (has_final (E ++ F) r) in rows_open (E ++ F) ≡ filter p (map (λ x. x.0) (rows E)) ++ filter p (map (λ x. x.0) (rows F))
parted E F =
    let p : ℕ → Bool = λ r. not (has_final (E ++ F) r) in
    ap (λ l. filter p (map (λ (x : ℕ × ℕ). x.0) l)) (rows_append E F) ∙ ap (filter p) (map-append (λ (x : ℕ × ℕ). x.0) (rows E) (rows F)) ∙ filter-append p (map (λ (x : ℕ × ℕ). x.0) (rows E)) (map (λ (x : ℕ × ℕ). x.0) (rows F))

not_final : (b c : Bool) → (b ≡ true → c ≡ true) → not c ≡ true → not b ≡ true
not_final true c h n = absurd (let e : false ≡ true = ap not (sym (h refl)) ∙ n in cc)
not_final false c h n = refl

-- behind a front no more rows are open than were acquired there
pub open_more : (E F : List What) → length (rows_open (E ++ F)) ≤ length (rows_open E) + length (rows F)
open_more E F =
    let p : ℕ → Bool = λ r. not (has_final (E ++ F) r) in
    let R : List ℕ = map (λ (x : ℕ × ℕ). x.0) (rows E) in
    let S : List ℕ = map (λ (x : ℕ × ℕ). x.0) (rows F) in
    let front = fewer_pass p (λ r. not (has_final E r)) R (λ r n. not_final (has_final E r) (has_final (E ++ F) r) (final_left E F r) n) in
    let back = few_pass p S in
    let size = length-map (rows F) (λ (x : ℕ × ℕ). x.0) in
    let both = ap length (parted E F) ∙ length-append (filter p R) (filter p S) in
    omega (arith, front, back, size, both)

-- where all rows of the front have ended
open_behind : (E F : List What) → ((r c : ℕ) → IsAmong (r, c) (rows E) → has_final (E ++ F) r ≡ true) → length (rows_open (E ++ F)) ≤ length (rows F)
open_behind E F h =
    let p : ℕ → Bool = λ r. not (has_final (E ++ F) r) in
    let R : List ℕ = map (λ (x : ℕ × ℕ). x.0) (rows E) in
    let S : List ℕ = map (λ (x : ℕ × ℕ). x.0) (rows F) in
    let front = ap length (none_pass p R (λ r m. let y = among_map (λ (x : ℕ × ℕ). x.0) r (rows E) m in ap not (subst (λ q. has_final (E ++ F) q ≡ true) y.2 (h y.0.0 y.0.1 y.1)))) in
    let back = few_pass p S in
    let size = length-map (rows F) (λ (x : ℕ × ℕ). x.0) in
    let both = ap length (parted E F) ∙ length-append (filter p R) (filter p S) in
    omega (arith, front, back, size, both)

none_some : {A : Type 0} (x : A) → None ≡ Some x → ⊥
none_some x e = cc

some_is : {A : Type 0} (x y : A) → Some x ≡ Some y → x ≡ y
some_is x y e = cc

-- each row has ended but the one that is held
settled : {E : List What} {h : Option Held} (r c : ℕ) → NotesSwaps E h → IsAmong (r, c) (rows E) → (has_final E r ≡ true) ⊎ ((k : Held) × (h ≡ Some k) × (r ≡ k.row))
settled r c none m = absurd (among_nil m)
settled r c (first {E = E} k n) m =
    ⊎_elim
    (λ i. ⊎_elim (λ t. inl (final_left E (Open k.scope 0 ∷ Acquire k.row k.scope ∷ []) r t)) (λ x. absurd (none_some x.0 x.1)) (settled r c n i))
    (λ i. ⊎_elim (λ e. inr (k, refl, ap (λ (x : ℕ × ℕ). x.0) e)) (λ z. absurd (among_nil z)) (among_cons i))
    (among_append (r, c) (rows E) ((k.row, k.scope) ∷ []) (subst (IsAmong (r, c)) (rows_append E (Open k.scope 0 ∷ Acquire k.row k.scope ∷ [])) m))
settled r c (next {E = E} {g = g} k ok n) m =
    let F = Open k.scope 0 ∷ Acquire k.row k.scope ∷ Close g.scope Succeeded ∷ Final g.row Succeeded ok ∷ [] in
    ⊎_elim
    (λ i.
    ⊎_elim
    (λ t. inl (final_left E F r t))
    (λ x. let e : r ≡ g.row = x.2 ∙ ap (λ (j : Held). j.row) (sym (some_is g x.0 x.1)) in inl (final_right E F r (subst (λ q. has_final F q ≡ true) (sym e) (any_at (is_final g.row) (Final g.row Succeeded ok) F (there (Open k.scope 0) (there (Acquire k.row k.scope) (there (Close g.scope Succeeded) (here [])))) (itself g.row)))))
    (settled r c n i))
    (λ i. ⊎_elim (λ e. inr (k, refl, ap (λ (x : ℕ × ℕ). x.0) e)) (λ z. absurd (among_nil z)) (among_cons i))
    (among_append (r, c) (rows E) ((k.row, k.scope) ∷ []) (subst (IsAmong (r, c)) (rows_append E F) m))

-- at most one row is open behind a swap
pub one_open : {E : List What} {h : Option Held} → NotesSwaps E h → length (rows_open E) ≤ 1
one_open none = omega arith
one_open (first {E = E} k n) =
    let F = Open k.scope 0 ∷ Acquire k.row k.scope ∷ [] in
    open_behind E F (λ r c m. ⊎_elim (λ t. final_left E F r t) (λ x. absurd (none_some x.0 x.1)) (settled r c n m))
one_open (next {E = E} {g = g} k ok n) =
    let F = Open k.scope 0 ∷ Acquire k.row k.scope ∷ Close g.scope Succeeded ∷ Final g.row Succeeded ok ∷ [] in
    open_behind E F (λ r c m.
    ⊎_elim
    (λ t. final_left E F r t)
    (λ x. let e : r ≡ g.row = x.2 ∙ ap (λ (j : Held). j.row) (sym (some_is g x.0 x.1)) in final_right E F r (subst (λ q. has_final F q ≡ true) (sym e) (any_at (is_final g.row) (Final g.row Succeeded ok) F (there (Open k.scope 0) (there (Acquire k.row k.scope) (there (Close g.scope Succeeded) (here [])))) (itself g.row))))
    (settled r c n m))

-- within what a swap notes at most two are
within_swap : (E F A B : List What) → length (rows_open E) ≤ 1 → length (rows F) ≤ 1 → ((U : List What) → E ≡ A ++ U → length (rows_open A) ≤ 2) → E ++ F ≡ A ++ B → length (rows_open A) ≤ 2
within_swap E F A B one few before e =
    ⊎_elim
    (λ z. before z.0 z.1)
    (λ z.
    let more = open_more E z.0 in
    let parts = ap length (ap rows z.2 ∙ rows_append z.0 B) ∙ length-append (rows z.0) (rows B) in
    let same = ap (λ l. length (rows_open l)) z.1 in
    omega (arith, more, parts, same))
    (two_fronts E F A B e)

pub along : {E : List What} {h : Option Held} (A B : List What) → NotesSwaps E h → E ≡ A ++ B → length (rows_open A) ≤ 2
along [] B none e = omega arith
along (a ∷ A) B none e = cc
along A B (first {E = E} k n) e = within_swap E (Open k.scope 0 ∷ Acquire k.row k.scope ∷ []) A B (one_open n) (omega arith) (λ U u. along A U n u) e
along A B (next {E = E} {g = g} k ok n) e = within_swap E (Open k.scope 0 ∷ Acquire k.row k.scope ∷ Close g.scope Succeeded ∷ Final g.row Succeeded ok ∷ []) A B (one_open n) (omega arith) (λ U u. along A U n u) e

pub holds_two : SwapsHoldTwo
holds_two E h A B n e = along A B n e
