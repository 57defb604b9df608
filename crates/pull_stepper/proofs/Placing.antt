-- A node whose places are in order may be run over devices that wait.
use Rattle.std.proofs.Common.{◌≡◌, ℕ, ◌<◌, ◌≤◌, nat_le, nat_lt, Bool, true, false, cond, refl, ◌&&◌, not, nat_eq, List, [], ◌∷◌, ◌++◌, ◌⊎◌, inl, inr, sym, subst, ◌∙◌}
use Rattle.std.proofs.lemmas.Bool.{cases_eq, leb-true, ltb-true}
use Rattle.std.specs.List.{list_any as any, list_all as all}
use Rattle.chunk_core.specs.declared.code.Span.{Span}
use Rattle.chunk_core.specs.Lists.{IsAmong, are_distinct}
use Rattle.chunk_core.specs.Lists.IsAmong.{here, there}
use Rattle.chunk_core.proofs.Members.{among_cons, among_left}
use Rattle.chunk_core.proofs.Filters.{among_append, among_right}
use Rattle.chunk_core.proofs.Bools.{both, either, no, number, itself, all_at, any_at, any_found}
use Rattle.pull_nodes.specs.Shape.{EachRead, EachWrite, places_of, uses_of}
use Rattle.pull_nodes.specs.Placed.{are_apart, is_inside, is_once, is_placed, is_within}
use Rattle.pull_nodes.proofs.Joins.{distinct_append, once_append}
use Rattle.pull_nodes.specs.declared.node.Node.{Node}
use Rattle.pull_nodes.specs.declared.node.Node.TheVariants.{Nil, Emit, Raise, Read, Weak', Scope', Append', OnFault', Through', Take', Into', Zip', Merge'}
use Rattle.pull_turns.specs.Around.{Around, IsUntried}
use Rattle.pull_turns.specs.Rest.{IsAsked, IsFresh, IsIn, IsToRead, IsToWrite, NoPlace}

-- no number stands in both lists
abbrev Apart : List ℕ → List ℕ → Type 0
Apart ps qs = (p : ℕ) → IsAmong p ps → IsAmong p qs → ⊥

-- each number of the list stands there once
abbrev Once : List ℕ → Type 0
Once us = (p : ℕ) → IsAmong p us → is_once us p ≡ true

found : (p : ℕ) (ps : List ℕ) → any (nat_eq p) ps ≡ true → IsAmong p ps
found p ps h = let f = any_found (nat_eq p) ps h in subst (λ q. IsAmong q ps) (sym (number p f.0 f.2)) f.1

tests : (p : ℕ) (ps : List ℕ) → IsAmong p ps → any (nat_eq p) ps ≡ true
tests p ps i = any_at (nat_eq p) p ps i (itself p)

absent : (p : ℕ) (ps : List ℕ) → not (any (nat_eq p) ps) ≡ true → IsAmong p ps → ⊥
absent p ps h i = no (any (nat_eq p) ps) h (tests p ps i)

apart_says : (ps qs : List ℕ) → are_apart ps qs ≡ true → Apart ps qs
apart_says ps qs h p i = absent p qs (all_at (λ q. not (any (nat_eq q) qs)) p ps i h)

once_left : (us vs : List ℕ) (p : ℕ) → is_once (us ++ vs) p ≡ true → IsAmong p us → (is_once us p ≡ true) × (IsAmong p vs → ⊥)
once_left us vs p h i =
    elim (either (is_once us p && not (any (nat_eq p) vs)) (not (any (nat_eq p) us) && is_once vs p) (sym (once_append p us vs) ∙ h)) [
      | inl l ↦ let b = both (is_once us p) (not (any (nat_eq p) vs)) l in (b.0, absent p vs b.1)
      | inr r ↦ absurd (absent p us (both (not (any (nat_eq p) us)) (is_once vs p) r).0 i)
    ]

same_number : (p q : ℕ) → p ≡ q → nat_eq p q ≡ true
same_number p q e = subst (λ r. nat_eq p r ≡ true) e (itself p)

other_number : (p q : ℕ) → (p ≡ q → ⊥) → nat_eq p q ≡ false
other_number p q n = by (nat_eq p q) refl
  where
    by : (b : Bool) → nat_eq p q ≡ b → nat_eq p q ≡ false
    by true e = absurd (n (number p q e))
    by false e = e

once_first : (p q : ℕ) (us : List ℕ) → p ≡ q → is_once (q ∷ us) p ≡ true → not (any (nat_eq p) us) ≡ true
once_first p q us e h = subst (λ b. cond b (not (any (nat_eq p) us)) (is_once us p) ≡ true) (same_number p q e) h

once_later : (p q : ℕ) (us : List ℕ) → (p ≡ q → ⊥) → is_once (q ∷ us) p ≡ true → is_once us p ≡ true
once_later p q us n h = subst (λ b. cond b (not (any (nat_eq p) us)) (is_once us p) ≡ true) (other_number p q n) h

once_right : (us vs : List ℕ) (p : ℕ) → is_once (us ++ vs) p ≡ true → IsAmong p vs → is_once vs p ≡ true
once_right us vs p h i =
    elim (either (is_once us p && not (any (nat_eq p) vs)) (not (any (nat_eq p) us) && is_once vs p) (sym (once_append p us vs) ∙ h)) [
      | inl l ↦ absurd (absent p vs (both (is_once us p) (not (any (nat_eq p) vs)) l).1 i)
      | inr r ↦ (both (not (any (nat_eq p) us)) (is_once vs p) r).1
    ]

-- what is acquired or read stands among the places or the uses
module _ (p : ℕ) where
  of_join : (ps qs us vs : List ℕ) → (IsAmong p ps ⊎ IsAmong p us) ⊎ (IsAmong p qs ⊎ IsAmong p vs) → IsAmong p (ps ++ qs) ⊎ IsAmong p (us ++ vs)
  of_join ps qs us vs (inl (inl i)) = inl (among_left qs i)
  of_join ps qs us vs (inl (inr i)) = inr (among_left vs i)
  of_join ps qs us vs (inr (inl i)) = inl (among_right _ ps _ i)
  of_join ps qs us vs (inr (inr i)) = inr (among_right _ us _ i)

  in_lists : (n : Node) → IsIn p n → IsAmong p (places_of n) ⊎ IsAmong p (uses_of n)
  in_lists Nil h = absurd h
  in_lists (Emit l) h = absurd h
  in_lists (Raise c) h = absurd h
  in_lists (Read q) h = inr (subst (λ x. IsAmong p (x ∷ [])) h (here []))
  in_lists (Weak' q _ a) (inl h) = inl (subst (λ x. IsAmong p (x ∷ places_of a)) h (here (places_of a)))
  in_lists (Weak' q _ a) (inr h) = elim (in_lists a h) [ inl i ↦ inl (there q i) | inr i ↦ inr i ]
  in_lists (Scope' _ a) h = in_lists a h
  in_lists (Append' _ a _ b) (inl h) = of_join (places_of a) (places_of b) (uses_of a) (uses_of b) (inl (in_lists a h))
  in_lists (Append' _ a _ b) (inr h) = of_join (places_of a) (places_of b) (uses_of a) (uses_of b) (inr (in_lists b h))
  in_lists (OnFault' _ a _ b) (inl h) = of_join (places_of a) (places_of b) (uses_of a) (uses_of b) (inl (in_lists a h))
  in_lists (OnFault' _ a _ b) (inr h) = of_join (places_of a) (places_of b) (uses_of a) (uses_of b) (inr (in_lists b h))
  in_lists (Zip' _ a _ b) (inl h) = of_join (places_of a) (places_of b) (uses_of a) (uses_of b) (inl (in_lists a h))
  in_lists (Zip' _ a _ b) (inr h) = of_join (places_of a) (places_of b) (uses_of a) (uses_of b) (inr (in_lists b h))
  in_lists (Merge' _ a _ b) (inl h) = of_join (places_of a) (places_of b) (uses_of a) (uses_of b) (inl (in_lists a h))
  in_lists (Merge' _ a _ b) (inr h) = of_join (places_of a) (places_of b) (uses_of a) (uses_of b) (inr (in_lists b h))
  in_lists (Through' _ a q) h = in_lists a h
  in_lists (Take' n _ a) h = in_lists a h
  in_lists (Into' q _ a) (inl h) = inr (subst (λ x. IsAmong p (x ∷ uses_of a)) h (here (uses_of a)))
  in_lists (Into' q _ a) (inr h) = elim (in_lists a h) [ inl i ↦ inl i | inr i ↦ inr (there q i) ]

  asked_places : (n : Node) → IsAsked p n → IsAmong p (places_of n)
  asked_places Nil h = absurd h
  asked_places (Emit l) h = absurd h
  asked_places (Raise c) h = absurd h
  asked_places (Read q) h = absurd h
  asked_places (Weak' q _ a) (inl h) = subst (λ x. IsAmong p (x ∷ places_of a)) h (here (places_of a))
  asked_places (Weak' q _ a) (inr h) = there q (asked_places a h)
  asked_places (Scope' _ a) h = asked_places a h
  asked_places (Append' _ a _ b) (inl h) = among_left (places_of b) (asked_places a h)
  asked_places (Append' _ a _ b) (inr h) = among_right _ (places_of a) _ (asked_places b h)
  asked_places (OnFault' _ a _ b) (inl h) = among_left (places_of b) (asked_places a h)
  asked_places (OnFault' _ a _ b) (inr h) = among_right _ (places_of a) _ (asked_places b h)
  asked_places (Zip' _ a _ b) (inl h) = among_left (places_of b) (asked_places a h)
  asked_places (Zip' _ a _ b) (inr h) = among_right _ (places_of a) _ (asked_places b h)
  asked_places (Merge' _ a _ b) (inl h) = among_left (places_of b) (asked_places a h)
  asked_places (Merge' _ a _ b) (inr h) = among_right _ (places_of a) _ (asked_places b h)
  asked_places (Through' _ a q) h = asked_places a h
  asked_places (Take' n _ a) h = asked_places a h
  asked_places (Into' q _ a) h = asked_places a h

  above_join : (ps qs rs us vs : List ℕ) → (IsAmong p us → IsAmong p ps ⊎ IsAmong p qs) → (IsAmong p vs → IsAmong p ps ⊎ IsAmong p rs)
      → IsAmong p (us ++ vs) → IsAmong p ps ⊎ IsAmong p (qs ++ rs)
  above_join ps qs rs us vs f g i =
      elim (among_append p us vs i) [
        | inl j ↦ elim (f j) [ inl k ↦ inl k | inr k ↦ inr (among_left rs k) ]
        | inr j ↦ elim (g j) [ inl k ↦ inl k | inr k ↦ inr (among_right _ qs _ k) ]
      ]

  -- what is read or written stands in the part of a Weak of its place, here or above
  used_above : (ps : List ℕ) (n : Node) → is_inside ps n ≡ true → IsAmong p (uses_of n) → IsAmong p ps ⊎ IsAmong p (places_of n)
  used_above ps Nil h i = elim i [ ]
  used_above ps (Emit l) h i = elim i [ ]
  used_above ps (Raise c) h i = elim i [ ]
  used_above ps (Read q) h i =
      elim (among_cons i) [ inl e ↦ inl (subst (λ x. IsAmong x ps) (sym e) (found q ps h)) | inr j ↦ elim j [ ] ]
  used_above ps (Weak' q _ a) h i =
      elim (used_above (q ∷ ps) a h i) [
        | inl j ↦ elim (among_cons j) [ inl e ↦ inr (subst (λ x. IsAmong p (x ∷ places_of a)) e (here (places_of a))) | inr k ↦ inl k ]
        | inr j ↦ inr (there q j)
      ]
  used_above ps (Scope' _ a) h i = used_above ps a h i
  used_above ps (Append' _ a _ b) h i =
      let s = both (is_inside ps a) (is_inside ps b) h in
      above_join ps (places_of a) (places_of b) (uses_of a) (uses_of b) (used_above ps a s.0) (used_above ps b s.1) i
  used_above ps (OnFault' _ a _ b) h i =
      let s = both (is_inside ps a) (is_inside ps b) h in
      above_join ps (places_of a) (places_of b) (uses_of a) (uses_of b) (used_above ps a s.0) (used_above ps b s.1) i
  used_above ps (Zip' _ a _ b) h i =
      let s = both (is_inside ps a) (is_inside ps b) h in
      above_join ps (places_of a) (places_of b) (uses_of a) (uses_of b) (used_above ps a s.0) (used_above ps b s.1) i
  used_above ps (Merge' _ a _ b) h i =
      let s = both (is_inside ps a) (is_inside ps b) h in
      above_join ps (places_of a) (places_of b) (uses_of a) (uses_of b) (used_above ps a s.0) (used_above ps b s.1) i
  used_above ps (Through' _ a q) h i = used_above ps a h i
  used_above ps (Take' n _ a) h i = used_above ps a h i
  used_above ps (Into' q _ a) h i =
      let s = both (any (nat_eq q) ps) (is_inside ps a) h in
      elim (among_cons i) [ inl e ↦ inl (subst (λ x. IsAmong x ps) (sym e) (found q ps s.0)) | inr j ↦ used_above ps a s.1 j ]

-- of a node in the parts of the Weaks of ps: it acquires none of these again and no place twice, each Read and each Into is the only one of its place, and all are inside
record IsPart (ps places uses : List ℕ) (inside : Bool) : Type 0 where
  above : Apart ps places
  distinct : are_distinct places ≡ true
  once : Once uses
  all_inside : inside ≡ true

abbrev Part : List ℕ → Node → Type 0
Part ps n = IsPart ps (places_of n) (uses_of n) (is_inside ps n)

module _ (ps : List ℕ) (a b : Node) (h : IsPart ps (places_of a ++ places_of b) (uses_of a ++ uses_of b) (is_inside ps a && is_inside ps b)) where
  parted : ((are_distinct (places_of a) ≡ true) × (are_distinct (places_of b) ≡ true)) × (are_apart (places_of a) (places_of b) ≡ true)
  parted =
      let s = both (are_distinct (places_of a) && are_distinct (places_of b)) (are_apart (places_of a) (places_of b)) (sym (distinct_append (places_of a) (places_of b)) ∙ h.distinct) in
      (both (are_distinct (places_of a)) (are_distinct (places_of b)) s.0, s.1)

  first_part : Part ps a
  first_part = record {
    above = λ p i j. h.above p i (among_left (places_of b) j);
    distinct = parted.0.0;
    once = λ p i. (once_left (uses_of a) (uses_of b) p (h.once p (among_left (uses_of b) i)) i).0;
    all_inside = (both (is_inside ps a) (is_inside ps b) h.all_inside).0;
  }

  second_part : Part ps b
  second_part = record {
    above = λ p i j. h.above p i (among_right _ (places_of a) _ j);
    distinct = parted.0.1;
    once = λ p i. once_right (uses_of a) (uses_of b) p (h.once p (among_right _ (uses_of a) _ i)) i;
    all_inside = (both (is_inside ps a) (is_inside ps b) h.all_inside).1;
  }

  asked_apart : Apart (places_of a) (places_of b)
  asked_apart = apart_says (places_of a) (places_of b) parted.1

  sides_apart : (p : ℕ) → IsAmong p (places_of a) ⊎ IsAmong p (uses_of a) → IsAmong p (places_of b) ⊎ IsAmong p (uses_of b) → ⊥
  sides_apart p (inl i) (inl j) = asked_apart p i j
  sides_apart p (inl i) (inr j) = elim (used_above p ps b second_part.all_inside j) [ inl k ↦ first_part.above p k i | inr k ↦ asked_apart p i k ]
  sides_apart p (inr i) (inl j) = elim (used_above p ps a first_part.all_inside i) [ inl k ↦ second_part.above p k j | inr k ↦ asked_apart p k j ]
  sides_apart p (inr i) (inr j) = (once_left (uses_of a) (uses_of b) p (h.once p (among_left (uses_of b) i)) i).1 j

part_inside : (ps : List ℕ) (q : ℕ) (a : Node) → IsPart ps (q ∷ places_of a) (uses_of a) (is_inside (q ∷ ps) a) → Part (q ∷ ps) a
part_inside ps q a h =
    let s = both (not (any (nat_eq q) (places_of a))) (are_distinct (places_of a)) h.distinct in
    record {
      above = λ p i j. elim (among_cons i) [
        | inl e ↦ absent q (places_of a) s.0 (subst (λ x. IsAmong x (places_of a)) e j)
        | inr i ↦ h.above p i (there q j)
      ];
      distinct = s.1;
      once = h.once;
      all_inside = h.all_inside;
    }

-- what is written to a device stands behind it
part_written : (ps : List ℕ) (q : ℕ) (a : Node) → IsPart ps (places_of a) (q ∷ uses_of a) (any (nat_eq q) ps && is_inside ps a) → Part ps a
part_written ps q a h = record {
  above = h.above;
  distinct = h.distinct;
  once = λ p i. elim (cases_eq p q) [
    | inl e ↦ absurd (absent q (uses_of a) (once_first q q (uses_of a) refl (h.once q (here (uses_of a)))) (subst (λ x. IsAmong x (uses_of a)) e i))
    | inr n ↦ once_later p q (uses_of a) n (h.once p (there q i))
  ];
  all_inside = (both (any (nat_eq q) ps) (is_inside ps a) h.all_inside).1;
}

-- and it is not acquired, read or written there again
written_once : (ps : List ℕ) (q : ℕ) (a : Node) → IsPart ps (places_of a) (q ∷ uses_of a) (any (nat_eq q) ps && is_inside ps a) → IsIn q a → ⊥
written_once ps q a h i = elim (in_lists q a i) [
  | inl j ↦ h.above q (found q ps (both (any (nat_eq q) ps) (is_inside ps a) h.all_inside).0) j
  | inr j ↦ absent q (uses_of a) (once_first q q (uses_of a) refl (h.once q (here (uses_of a)))) j
]

-- this holds at each Read, or at each Into
module _ (P Q : ℕ → Type 0) where
  pub each_read : (n : Node) → ((p : ℕ) → IsAmong p (uses_of n) → P p → Q p) → EachRead P n → EachRead Q n
  each_read Nil f h = tt
  each_read (Emit l) f h = tt
  each_read (Raise c) f h = tt
  each_read (Read p) f h = (f p (here []) h.0, tt)
  each_read (Weak' p _ a) f h = each_read a f h
  each_read (Scope' _ a) f h = each_read a f h
  each_read (Append' _ a _ b) f h = (each_read a (λ p i. f p (among_left (uses_of b) i)) h.0, each_read b (λ p i. f p (among_right _ (uses_of a) _ i)) h.1)
  each_read (OnFault' _ a _ b) f h = (each_read a (λ p i. f p (among_left (uses_of b) i)) h.0, each_read b (λ p i. f p (among_right _ (uses_of a) _ i)) h.1)
  each_read (Zip' _ a _ b) f h = (each_read a (λ p i. f p (among_left (uses_of b) i)) h.0, each_read b (λ p i. f p (among_right _ (uses_of a) _ i)) h.1)
  each_read (Merge' _ a _ b) f h = (each_read a (λ p i. f p (among_left (uses_of b) i)) h.0, each_read b (λ p i. f p (among_right _ (uses_of a) _ i)) h.1)
  each_read (Through' _ a q) f h = each_read a f h
  each_read (Take' n _ a) f h = each_read a f h
  each_read (Into' p _ a) f h = each_read a (λ q i. f q (there p i)) h

  pub each_write : (n : Node) → ((p : ℕ) → IsAmong p (uses_of n) → P p → Q p) → EachWrite P n → EachWrite Q n
  each_write Nil f h = tt
  each_write (Emit l) f h = tt
  each_write (Raise c) f h = tt
  each_write (Read p) f h = tt
  each_write (Weak' p _ a) f h = each_write a f h
  each_write (Scope' _ a) f h = each_write a f h
  each_write (Append' _ a _ b) f h = (each_write a (λ p i. f p (among_left (uses_of b) i)) h.0, each_write b (λ p i. f p (among_right _ (uses_of a) _ i)) h.1)
  each_write (OnFault' _ a _ b) f h = (each_write a (λ p i. f p (among_left (uses_of b) i)) h.0, each_write b (λ p i. f p (among_right _ (uses_of a) _ i)) h.1)
  each_write (Zip' _ a _ b) f h = (each_write a (λ p i. f p (among_left (uses_of b) i)) h.0, each_write b (λ p i. f p (among_right _ (uses_of a) _ i)) h.1)
  each_write (Merge' _ a _ b) f h = (each_write a (λ p i. f p (among_left (uses_of b) i)) h.0, each_write b (λ p i. f p (among_right _ (uses_of a) _ i)) h.1)
  each_write (Through' _ a q) f h = each_write a f h
  each_write (Take' n _ a) f h = each_write a f h
  each_write (Into' p _ a) f h = (f p (here (uses_of a)) h.0, each_write a (λ q i. f q (there p i)) h.1)

module _ (a : Around) (s : ℕ) where
  part_fresh : (P : ℕ → Type 0) (ps : List ℕ) (n : Node) → Part ps n
      → ((p : ℕ) → IsAmong p (places_of n) → a.waits p × IsUntried (a.told p)) → EachRead (λ p. IsToRead (a.told p)) n → EachWrite (λ p. IsToWrite (a.told p)) n → ((p : ℕ) → IsAmong p ps → P p) → IsFresh a P s n
  part_fresh P ps Nil h w r t u = tt
  part_fresh P ps (Emit l) h w r t u = tt
  part_fresh P ps (Raise c) h w r t u = tt
  part_fresh P ps (Read q) h w r t u = (r.0, inl (u q (found q ps h.all_inside)))
  part_fresh P ps (Weak' q _ n) h w r t u = (
    (w q (here (places_of n))).0,
    (λ i. absent q (places_of n) (both (not (any (nat_eq q) (places_of n))) (are_distinct (places_of n)) h.distinct).0 (asked_places q n i)),
    part_fresh (λ r. (r ≡ q) ⊎ P r) (q ∷ ps) n (part_inside ps q n h) (λ p i. w p (there q i)) r t (λ p i. elim (among_cons i) [ inl e ↦ inl e | inr j ↦ inr (u p j) ]),
    (w q (here (places_of n))).1,
  )
  part_fresh P ps (Scope' _ n) h w r t u = part_fresh P ps n h w r t u
  part_fresh P ps (Append' _ n _ m) h w r t u = (
    (λ p i j. sides_apart ps n m h p (in_lists p n i) (in_lists p m j)),
    (
      part_fresh P ps n (first_part ps n m h) (λ p i. w p (among_left (places_of m) i)) r.0 t.0 u,
      part_fresh P ps m (second_part ps n m h) (λ p i. w p (among_right _ (places_of n) _ i)) r.1 t.1 u,
    ),
  )
  part_fresh P ps (OnFault' _ n _ m) h w r t u = (
    (λ p i j. sides_apart ps n m h p (in_lists p n i) (in_lists p m j)),
    (
      part_fresh P ps n (first_part ps n m h) (λ p i. w p (among_left (places_of m) i)) r.0 t.0 u,
      part_fresh P ps m (second_part ps n m h) (λ p i. w p (among_right _ (places_of n) _ i)) r.1 t.1 u,
    ),
  )
  part_fresh P ps (Zip' _ n _ m) h w r t u = (
    (λ p i j. sides_apart ps n m h p (in_lists p n i) (in_lists p m j)),
    (
      part_fresh P ps n (first_part ps n m h) (λ p i. w p (among_left (places_of m) i)) r.0 t.0 u,
      part_fresh P ps m (second_part ps n m h) (λ p i. w p (among_right _ (places_of n) _ i)) r.1 t.1 u,
    ),
  )
  part_fresh P ps (Merge' _ n _ m) h w r t u = (
    (λ p i j. sides_apart ps n m h p (in_lists p n i) (in_lists p m j)),
    (
      part_fresh P ps n (first_part ps n m h) (λ p i. w p (among_left (places_of m) i)) r.0 t.0 u,
      part_fresh P ps m (second_part ps n m h) (λ p i. w p (among_right _ (places_of n) _ i)) r.1 t.1 u,
    ),
  )
  part_fresh P ps (Through' _ n q) h w r t u = part_fresh P ps n h w r t u
  part_fresh P ps (Take' _ _ n) h w r t u = part_fresh P ps n h w r t u
  part_fresh P ps (Into' q _ n) h w r t u = (
    t.0,
    inl (u q (found q ps (both (any (nat_eq q) ps) (is_inside ps n) h.all_inside).0)),
    written_once ps q n h,
    part_fresh P ps n (part_written ps q n h) w r t.1 u,
  )

  module _ (span : Span) (n : Node) (h : is_placed span n ≡ true) where
    tests_of : (all (is_within span) (places_of n) ≡ true) × ((are_distinct (places_of n) ≡ true) × ((all (is_once (uses_of n)) (places_of n) ≡ true) × (is_inside [] n ≡ true)))
    tests_of =
        let x = both (all (is_within span) (places_of n)) (are_distinct (places_of n) && (all (is_once (uses_of n)) (places_of n) && is_inside [] n)) h in
        let y = both (are_distinct (places_of n)) (all (is_once (uses_of n)) (places_of n) && is_inside [] n) x.1 in
        (x.0, (y.0, both (all (is_once (uses_of n)) (places_of n)) (is_inside [] n) y.1))

    pub used_placed : (p : ℕ) → IsAmong p (uses_of n) → IsAmong p (places_of n)
    used_placed p i = elim (used_above p [] n tests_of.1.1.1 i) [ inl j ↦ elim j [ ] | inr j ↦ j ]

    -- a placed node may be run where the devices of its places wait, none of which was tried
    pub placed_fresh : ((p : ℕ) → IsAmong p (places_of n) → a.waits p × IsUntried (a.told p)) → EachRead (λ p. IsToRead (a.told p)) n → EachWrite (λ p. IsToWrite (a.told p)) n → IsFresh a NoPlace s n
    placed_fresh f reads writes =
        part_fresh NoPlace [] n
        (record {
          above = λ p i j. elim i [ ];
          distinct = tests_of.1.0;
          once = λ p i. all_at (is_once (uses_of n)) p (places_of n) (used_placed p i) tests_of.1.1.0;
          all_inside = tests_of.1.1.1;
        })
        f reads writes (λ p i. elim i [ ])

-- each place of a placed node is within the span
pub placed_within : (span : Span) (n : Node) → is_placed span n ≡ true → (p : ℕ) → IsAmong p (places_of n) → (span.from ≤ p) × (p < span.to)
placed_within span n h p i =
    let x = both (all (is_within span) (places_of n)) (are_distinct (places_of n) && (all (is_once (uses_of n)) (places_of n) && is_inside [] n)) h in
    let w = both (nat_le span.from p) (nat_lt p span.to) (all_at (is_within span) p (places_of n) i x.0) in
    (leb-true span.from p w.0, ltb-true p span.to w.1)

pub placed_distinct : (span : Span) (n : Node) → is_placed span n ≡ true → are_distinct (places_of n) ≡ true
placed_distinct span n h =
    let x = both (all (is_within span) (places_of n)) (are_distinct (places_of n) && (all (is_once (uses_of n)) (places_of n) && is_inside [] n)) h in
    (both (are_distinct (places_of n)) (all (is_once (uses_of n)) (places_of n) && is_inside [] n) x.1).0
