-- What a lease covers, as a list and as a fact.
use Rattle.std.proofs.Common.{◌≡◌, ◌≢◌, ℕ, ◌+◌, ◌-◌, ◌<◌, ◌≤◌, ◌⊎◌, ◌↔◌, zero, suc, Bool, true, false, cond, eqb, nat_eq, not, ◌&&◌, ◌||◌, List, [], ◌∷◌, ◌++◌, length, drop, slice_index_or, inl, inr, refl, sym, ap, ◌∙◌, subst, ⊎_elim, arith, append_assoc, append-nil, eq-eqb, ne_eqb, reverse}
use Rattle.std.proofs.lemmas.Bool.{cases_eq}
use Rattle.std.proofs.lemmas.List.{get_or_default}
use Rattle.chunk_core.proofs.Bools.{both, either, or_left, or_right, and_true, number, itself, any_at, any_found, has_in, in_has}
use Rattle.res_ledger.specs.declared.event.What.TheVariants.{Open, Acquire}
use Rattle.row_seat.specs.declared.view.View.{View}
use Rattle.chunk_core.specs.Lists.{IsAmong, has}
use Rattle.res_ledger.specs.Ledger.{LiesWithin, IsClosed, IsCoveredBy, IsOpened}
use Rattle.chunk_core.specs.Lists.IsAmong.{here, there}
use Rattle.chunk_core.proofs.Members.{among_nil, among_cons}
use Rattle.res_ledger.specs.Own.{opens, rows, closes, up, ancestors, is_closed, is_child, reaches, picked, leased_rows}
use Rattle.scope_tree.specs.declared.branch.Branch.{Branch}
use Rattle.scope_tree.specs.declared.branch.AcquiredRow.{AcquiredRow}
use Rattle.scope_tree.specs.Kept.{marks, Kept}
use Rattle.scope_tree.specs.Trace.{trace}
use Rattle.scope_tree.proofs.Bridge.{noted_in, in_noted, in_opens, opens_in, in_rows, rows_in, within_cases}
use Rattle.res_ledger.proofs.Noted.{notes_closes}
use Rattle.scope_tree.specs.Walks.{Clear, Shaded, StandsAbove}
use Rattle.scope_tree.proofs.Walking.{clear_open, shaded_closed, stands_within, within_stands}
use Rattle.scope_tree.proofs.Beneath.{noted_parent, closed_sound, up_within, noted_scope, not_true', shut_not, length-drop', at_drop}
use Rattle.chunk_core.proofs.Reversed.{among_reverse, reverse_cons}

any_picked : (f : ℕ → Bool) (xs : List (ℕ × ℕ)) (r : ℕ) → IsAmong r (picked f xs) → (t : ℕ) × IsAmong (r, t) xs × (f t ≡ true)
any_picked f [] r m = absurd (among_nil m)
any_picked f (x ∷ xs) r m = elim (f x.1) as (λ b. f x.1 ≡ b → IsAmong r (cond b (x.0 ∷ picked f xs) (picked f xs)) → (t : ℕ) × IsAmong (r, t) (x ∷ xs) × (f t ≡ true)) [
  | true ↦ λ q n. ⊎_elim (λ e. (x.1, subst (λ z. IsAmong (z, x.1) (x ∷ xs)) (sym e) (here xs), q)) (λ i. let t = any_picked f xs r i in (t.0, there x t.1, t.2)) (among_cons n)
  | false ↦ λ q n. let t = any_picked f xs r n in (t.0, there x t.1, t.2)
] refl m

picked_any : (f : ℕ → Bool) (xs : List (ℕ × ℕ)) (r t : ℕ) → IsAmong (r, t) xs → f t ≡ true → IsAmong r (picked f xs)
picked_any f [] r t m h = absurd (among_nil m)
picked_any f (x ∷ xs) r t m h = ⊎_elim
    (λ e. subst (λ b. IsAmong r (cond b (x.0 ∷ picked f xs) (picked f xs))) (sym (ap f (sym (ap (λ y. y.1) e)) ∙ h)) (subst (λ z. IsAmong r (z ∷ picked f xs)) (ap (λ y. y.0) e) (here (picked f xs))))
    (λ n. let i = picked_any f xs r t n h in elim (f x.1) as (λ b. IsAmong r (cond b (x.0 ∷ picked f xs) (picked f xs))) [ true ↦ there x.0 i | false ↦ i ])
    (among_cons m)

child_in : (os : List (ℕ × ℕ)) (c s : ℕ) → is_child os c s ≡ true → IsAmong (c, s) os
child_in os c s h =
    let f = any_found (λ (o : ℕ × ℕ). nat_eq o.0 c && nat_eq o.1 s) os h in let b = both (nat_eq f.0.0 c) (nat_eq f.0.1 s) f.2 in
    subst (λ y. IsAmong y os) (let a : f.0.0 ≡ c = number f.0.0 c b.0 in let d : f.0.1 ≡ s = number f.0.1 s b.1 in let z : (f.0.0, f.0.1) ≡ (c, s) = (cc (a, d)) in z) f.1

in_child : (os : List (ℕ × ℕ)) (c s : ℕ) → IsAmong (c, s) os → is_child os c s ≡ true
in_child os c s m = any_at (λ (o : ℕ × ℕ). nat_eq o.0 c && nat_eq o.1 s) (c, s) os m (and_true (nat_eq c c) (nat_eq s s) (itself c) (itself s))

abbrev root : Branch
root = record { parent = 0; shut = false }

-- the scopes up to n, the latest first
abbrev down : List Branch → ℕ → List (ℕ × ℕ)
down bs zero = []
down bs (suc n) = (suc n, (slice_index_or bs (suc n) root).parent) ∷ down bs n

down_marks : (bs cs : List Branch) (m : ℕ) → ((i : ℕ) (d : Branch) → i < length cs → slice_index_or cs i d ≡ slice_index_or bs (i + suc m) d) → reverse (marks (suc m) cs) ++ down bs m ≡ down bs (m + length cs)
down_marks bs [] m h = let e : m ≡ m + 0 = omega arith in ap (down bs) e
down_marks bs (b ∷ cs) m h =
    let e : suc m + length cs ≡ m + suc (length cs) = omega arith in
    let z : b ≡ slice_index_or bs (suc m) root = let q : zero + suc m ≡ suc m = omega arith in h zero root (omega arith) ∙ ap (λ i. slice_index_or bs i root) q in
    let g : (i : ℕ) (d : Branch) → i < length cs → slice_index_or cs i d ≡ slice_index_or bs (i + suc (suc m)) d = λ i d l. let q : suc i + suc m ≡ i + suc (suc m) = omega arith in h (suc i) d (omega arith) ∙ ap (λ n. slice_index_or bs n d) q in
    ap (λ l. l ++ down bs m) (reverse_cons (suc m, b.parent) (marks (suc (suc m)) cs))
    ∙ append_assoc (reverse (marks (suc (suc m)) cs)) ((suc m, b.parent) ∷ []) (down bs m)
    ∙ ap (λ y. let x : ℕ × ℕ = (suc m, y.parent) in reverse (marks (suc (suc m)) cs) ++ x ∷ down bs m) z
    ∙ down_marks bs cs (suc m) g ∙ ap (down bs) e

reverse_marks : (bs : List Branch) → 1 ≤ length bs → reverse (marks 1 (drop 1 bs)) ≡ down bs (length bs - 1)
reverse_marks bs l =
    let t = length-drop' 1 bs l in let e : 0 + length (drop 1 bs) ≡ length bs - 1 = omega arith in
    sym (append-nil (reverse (marks 1 (drop 1 bs)))) ∙ down_marks bs (drop 1 bs) 0 (λ i d q. at_drop 1 i d bs) ∙ ap (down bs) e

less_of : (s n : ℕ) → s ≢ suc n → s ≤ suc n → s ≤ n
less_of s n ne l = grind arith

reach_of : (a b c : Bool) → (not a && (b || c)) ≡ true → (a ≡ false) × ((b ≡ true) ⊎ (c ≡ true))
reach_of true b c h = absurd (shut_not (sym h))
reach_of false b c h = (refl, either b c h)

reach_to : (a b c : Bool) → a ≡ false → (b ≡ true) ⊎ (c ≡ true) → (not a && (b || c)) ≡ true
reach_to a b c e h = and_true (not a) (b || c) (ap not e) (⊎_elim (λ i. or_left b c i) (λ i. or_right b c i) h)

module _ {P : Type 0} (v : View P) (bs : List Branch) (hs : List AcquiredRow) (k : Kept v bs hs) where
  up_down : (n s a : ℕ) → n < length bs → s ≤ n → LiesWithin v.events v.by s a → IsAmong a (up (down bs n) s)
  up_down zero s a l q w = ⊎_elim (λ e. subst (λ z. IsAmong z (s ∷ [])) e (here [])) (λ t. absurd (let o = noted_scope v bs hs k s t.0 t.1 in let z = o.0 in omega arith)) (within_cases w)
  up_down (suc n) s a l q w =
      let d : Branch = root in
      ⊎_elim
      (λ e. subst (λ b. IsAmong a (cond b (s ∷ up (down bs n) (slice_index_or bs (suc n) d).parent) (up (down bs n) s))) (sym (eq-eqb (suc n) s e))
      (⊎_elim
      (λ i. subst (λ z. IsAmong z (s ∷ up (down bs n) (slice_index_or bs (suc n) d).parent)) i (here (up (down bs n) (slice_index_or bs (suc n) d).parent)))
      (λ t. let o = noted_scope v bs hs k s t.0 t.1 in let same : (slice_index_or bs (suc n) d).parent ≡ t.0 = subst (λ z. (slice_index_or bs z d).parent ≡ t.0) (sym e) (o.2 d) in
      let less = k.mirrors.parents (suc n) d (omega arith) l in
      there s (up_down n (slice_index_or bs (suc n) d).parent a (omega arith) (omega arith) (subst (λ z. LiesWithin v.events v.by z a) (sym same) t.2)))
      (within_cases w)))
      (λ ne. subst (λ b. IsAmong a (cond b (s ∷ up (down bs n) (slice_index_or bs (suc n) d).parent) (up (down bs n) s))) (sym (ne_eqb (suc n) s ne)) (up_down n s a (omega arith) (less_of s n (λ e. ne (sym e)) q) w))
      (cases_eq (suc n) s)

  -- a scope above s is found
  pub above_in : (s a : ℕ) → s < length bs → LiesWithin v.events v.by s a → IsAmong a (ancestors (trace v) s)
  above_in s a l w =
      let n = length bs - 1 in let z = k.mirrors.size in
      subst (λ o. IsAmong a (up o s)) (sym (ap reverse k.mirrors.opens ∙ reverse_marks bs k.mirrors.size)) (up_down n s a (omega arith) (omega arith) w)

  pub closed_complete : (s : ℕ) → s < length bs → IsClosed v.events v.by s → is_closed (trace v) s ≡ true
  closed_complete s l c = any_at (λ a. has a (closes (trace v))) c.0 (ancestors (trace v) s) (above_in s c.0 l c.1) (in_has c.0 (closes (trace v)) (notes_closes v.events v.by c.0 c.2))

  closed_range : (s : ℕ) → IsClosed v.events v.by s → s < length bs
  closed_range s c = ⊎_elim (λ e. subst (λ z. z < length bs) (sym e) (k.mirrors.ended c.0 (notes_closes v.events v.by c.0 c.2))) (λ t. (noted_scope v bs hs k s t.0 t.1).1) (within_cases c.1)

  -- the list has the rows that a Lease on s covers
  pub leased_is : (s r : ℕ) → s < length bs → IsAmong r (leased_rows (trace v) s) ↔ IsCoveredBy v.events v.by s r
  leased_is s r l =
      let E = trace v in
      let to : IsAmong r (leased_rows E s) → IsCoveredBy v.events v.by s r = λ m.
      let t = any_picked (reaches E s) (rows E) r m in let q = reach_of (is_closed E t.0) (has t.0 (ancestors E s)) (is_child (opens E) t.0 s) t.2 in (
        t.0,
        in_noted v.by (Acquire r t.0) v.events (in_rows r t.0 E t.1),
        ⊎_elim
            (λ i. inr (up_within v.events v.by (reverse (opens E)) s t.0 (λ c p n. in_noted v.by (Open c p) v.events (in_opens c p E (among_reverse (c, p) (opens E) n))) (has_in t.0 (ancestors E s) i)))
            (λ i. inl (in_noted v.by (Open t.0 s) v.events (in_opens t.0 s E (child_in (opens E) t.0 s i))))
            q.1,
        λ c. shut_not (sym (closed_complete t.0 (closed_range t.0 c) c) ∙ q.0),
      ) in
      let from : IsCoveredBy v.events v.by s r → IsAmong r (leased_rows E s) = λ c.
      let t = c.0 in
      picked_any (reaches E s) (rows E) r t (rows_in r t E (noted_in v.by (Acquire r t) v.events c.1))
      (reach_to (is_closed E t) (has t (ancestors E s)) (is_child (opens E) t s) (not_true' (is_closed E t) (λ h. c.3 (closed_sound v t h)))
      (⊎_elim
      (λ o. inr (in_child (opens E) t s (opens_in t s E (noted_in v.by (Open t s) v.events o))))
      (λ w. inl (in_has t (ancestors E s) (above_in s t l w)))
      c.2)) in
      (to, from)

  -- what a lease on s reaches, by what the tree keeps
  pub reach_closed : (s t : ℕ) → t < length bs → Shaded bs t → reaches (trace v) s t ≡ false
  reach_closed s t l x = ap (λ b. not b && (has t (ancestors (trace v) s) || is_child (opens (trace v)) t s)) (closed_complete t l (shaded_closed v bs hs k t l x))

  open_is : (t : ℕ) → t < length bs → Clear bs t → is_closed (trace v) t ≡ false
  open_is t l x = not_true' (is_closed (trace v) t) (λ h. clear_open v bs hs k t l x (closed_sound v t h))

  pub reach_above : (s t : ℕ) → s < length bs → t < length bs → Clear bs t → StandsAbove bs s t → reaches (trace v) s t ≡ true
  reach_above s t l m x a = reach_to (is_closed (trace v) t) (has t (ancestors (trace v) s)) (is_child (opens (trace v)) t s) (open_is t m x) (inl (in_has t (ancestors (trace v) s) (above_in s t l (stands_within v bs hs k s t l a))))

  pub reach_child : (s t : ℕ) → s < length bs → t < length bs → Clear bs t → ¬ (StandsAbove bs s t) → reaches (trace v) s t ≡ is_child (opens (trace v)) t s
  reach_child s t l m x n =
      let E = trace v in
      let none : has t (ancestors E s) ≡ false = not_true' (has t (ancestors E s)) (λ h. n (within_stands v bs hs k (up_within v.events v.by (reverse (opens E)) s t (λ c p m. in_noted v.by (Open c p) v.events (in_opens c p E (among_reverse (c, p) (opens E) m))) (has_in t (ancestors E s) h)))) in
      ap (λ b. not b && (has t (ancestors E s) || is_child (opens E) t s)) (open_is t m x) ∙ ap (λ b. b || is_child (opens E) t s) none

  pub child_is : (s t : ℕ) → t < length bs → 1 ≤ t → ((d : Branch) → (slice_index_or bs t d).parent ≡ s) → is_child (opens (trace v)) t s ≡ true
  child_is s t l one h = in_child (opens (trace v)) t s (opens_in t s (trace v) (noted_in v.by (Open t s) v.events (noted_parent v bs hs k t s one l h)))

  pub not_child : (s t : ℕ) → ¬ ((1 ≤ t) × ((d : Branch) → (slice_index_or bs t d).parent ≡ s)) → is_child (opens (trace v)) t s ≡ false
  not_child s t n = not_true' (is_child (opens (trace v)) t s) (λ h. let z = noted_scope v bs hs k t s (in_noted v.by (Open t s) v.events (in_opens t s (trace v) (child_in (opens (trace v)) t s h))) in n (z.0, z.2))

  -- whether a scope that isn't s nor above it is a child of s
  pub reach_parent : (s t : ℕ) (b : Branch) → s < length bs → t < length bs → 1 ≤ t → b ≡ slice_index_or bs t b → Clear bs t → ¬ (StandsAbove bs s t) → eqb b.parent s ≡ reaches (trace v) s t
  reach_parent s t b l m one at x n =
      let all : (d : Branch) → (slice_index_or bs t d).parent ≡ b.parent = λ d. ap (λ (y : Branch). y.parent) (get_or_default bs t d b m ∙ sym at) in
      ⊎_elim
      (λ e. eq-eqb b.parent s e ∙ sym (child_is s t m one (λ d. all d ∙ e)))
      (λ ne. ne_eqb b.parent s ne ∙ sym (not_child s t (λ z. ne (sym (all b) ∙ z.1 b))))
      (cases_eq b.parent s)
      ∙ sym (reach_child s t l m x n)

  pub was_opened : (t : ℕ) → t < length bs → (t ≡ 0) ⊎ IsOpened v.events v.by t
  was_opened zero l = inl refl
  was_opened (suc t) l = inr ((slice_index_or bs (suc t) root).parent, noted_parent v bs hs k (suc t) (slice_index_or bs (suc t) root).parent (omega arith) l (λ d. ap (λ (y : Branch). y.parent) (get_or_default bs (suc t) d root l)))

  pub opened_range : (t : ℕ) → (t ≡ 0) ⊎ IsOpened v.events v.by t → t < length bs
  opened_range t o = ⊎_elim (λ e. let z = k.mirrors.size in omega (e, z, arith)) (λ o. (noted_scope v bs hs k t o.0 o.1).1) o
