-- What stands before each lease, among all that an outer stream gives.
use Rattle.std.proofs.Common.{◌≡◌, ◌⊎◌, ℕ, suc, ◌+◌, ◌<◌, ◌≤◌, true, ◌&&◌, List, [], ◌∷◌, ◌++◌, map, length, inl, inr, refl, sym, ◌∙◌, ap, subst, ⊎_elim, arith, append_assoc, length-append}
use Rattle.std.specs.Prelude.{nat_le, nat_lt}
use Rattle.std.specs.List.{range_with_len}
use Rattle.std.proofs.lemmas.Bool.{lt-ltb, ltb-true}
use Rattle.std.proofs.lemmas.Grind.{flat_map-append}
use Rattle.std.proofs.lemmas.List.{append_cancel_left}
use Rattle.chunk_core.specs.Lists.{IsAmong}
use Rattle.chunk_core.specs.Lists.IsAmong.{here, there}
use Rattle.chunk_core.specs.declared.code.Exit.TheVariants.{Succeeded}
use Rattle.chunk_core.proofs.Cuts.{cut}
use Rattle.chunk_core.proofs.Bools.{and_true, both, either, or_left, or_right}
use Rattle.chunk_core.proofs.Filters.{among_append, among_right}
use Rattle.chunk_core.proofs.Members.{among_cons, among_left, among_mid}
use Rattle.res_ledger.specs.declared.event.What.{What}
use Rattle.res_ledger.specs.declared.event.What.TheVariants.{Open, Acquire, Lease, Close}
use Rattle.res_ledger.specs.Own.{opens, opens_of}
use Rattle.res_ledger.proofs.Mapped.{among_map, map_among}
use Rattle.res_ledger.proofs.Permuted.{among_range, range_among}
use Rattle.res_ledger.proofs.Prefixes.{split_append}
use Rattle.run_rules.specs.Giving.{acquires, giving_all, giving_children, giving_part, leases_for}
use Rattle.run_rules.specs.Work.{Opener, Part, all_parts, are_together, is_from, is_lent, parts_of, top_of}

-- Rows that are acquired, and leases.

pub acquire_in : (s r n q : ℕ) → r ≤ q → q < r + n → IsAmong (Acquire q s) (acquires s r n)
acquire_in s r n q l u = map_among (λ x. Acquire x s) q (range_with_len r n) (range_among r n q l u)

in_acquires : (s r n : ℕ) (w : What) → IsAmong w (acquires s r n) → (q : ℕ) × (w ≡ Acquire q s) × (r ≤ q) × (q < r + n)
in_acquires s r n w m = let x = among_map (λ q. Acquire q s) w (range_with_len r n) m in let b = among_range r n x.0 x.1 in (x.0, sym x.2, b.0, b.1)

in_leases : (s j n : ℕ) (w : What) → IsAmong w (leases_for s j n) → (k : ℕ) × (w ≡ Lease k s) × (j ≤ k) × (k < j + n)
in_leases s j n w m = let x = among_map (λ k. Lease k s) w (range_with_len j n) m in let b = among_range j n x.0 x.1 in (x.0, sym x.2, b.0, b.1)

same_acquire : (q r s t : ℕ) → Acquire q s ≡ Acquire r t → (q ≡ r) × (s ≡ t)
same_acquire q r s t e = (cc, cc)

same_lease : (j k s t : ℕ) → Lease j s ≡ Lease k t → (j ≡ k) × (s ≡ t)
same_lease j k s t e = (cc, cc)

-- a part acquires its rows and leases for its streams, in its scope
acquire_of : (s r j q t : ℕ) (p : Part) → IsAmong (Acquire q t) (giving_part s r j p) → (t ≡ s) × (r ≤ q) × (q < r + p.tables)
acquire_of s r j q t p m =
    ⊎_elim
    (λ a. let x = in_acquires s r p.tables (Acquire q t) a in let e = same_acquire q x.0 t s x.1 in (e.1, subst (λ z. r ≤ z) (sym e.0) x.2, subst (λ z. z < r + p.tables) (sym e.0) x.3))
    (λ l. absurd (let x = in_leases s j p.streams (Acquire q t) l in let e : Acquire q t ≡ Lease x.0 s = x.1 in cc))
    (among_append (Acquire q t) (acquires s r p.tables) (leases_for s j p.streams) m)

lease_of : (s r j m z : ℕ) (p : Part) → IsAmong (Lease m z) (giving_part s r j p) → (z ≡ s) × (j ≤ m) × (m < j + p.streams)
lease_of s r j m z p i =
    ⊎_elim
    (λ a. absurd (let x = in_acquires s r p.tables (Lease m z) a in let e : Lease m z ≡ Acquire x.0 s = x.1 in cc))
    (λ l. let x = in_leases s j p.streams (Lease m z) l in let e = same_lease m x.0 z s x.1 in (e.1, subst (λ k. j ≤ k) (sym e.0) x.2, subst (λ k. k < j + p.streams) (sym e.0) x.3))
    (among_append (Lease m z) (acquires s r p.tables) (leases_for s j p.streams) i)

-- before a lease of a part stand all its rows
before_lease : (s r j m z : ℕ) (p : Part) (A C : List What) → giving_part s r j p ≡ A ++ Lease m z ∷ C → (D : List What) × (A ≡ acquires s r p.tables ++ D)
before_lease s r j m z p A C e =
    ⊎_elim
    (λ c. absurd (let x = in_acquires s r p.tables (Lease m z) (subst (λ l. IsAmong (Lease m z) l) (sym c.1) (among_mid A c.0 (Lease m z))) in let q : Lease m z ≡ Acquire x.0 s = x.1 in cc))
    (λ c. c)
    (split_append (acquires s r p.tables) (leases_for s j p.streams) A C (Lease m z) e)

-- Which rows and streams belong together.

from_true : (m n i : ℕ) → is_from m n i ≡ true → (m ≤ i) × (i < m + n)
from_true m n i h = let b = both (nat_le m i) (nat_lt i (m + n)) h in (grind (arith, b.0), ltb-true i (m + n) b.1)

true_from : (m n i : ℕ) → m ≤ i → i < m + n → is_from m n i ≡ true
true_from m n i l u = grind (arith, l, u)

together_first : (r j : ℕ) (p : Part) (ps : List Part) (q m : ℕ) → r ≤ q → q < r + p.tables → j ≤ m → m < j + p.streams → are_together r j (p ∷ ps) q m ≡ true
together_first r j p ps q m a b c d =
    or_left (is_from r p.tables q && is_from j p.streams m) (are_together (r + p.tables) (j + p.streams) ps q m) (and_true (is_from r p.tables q) (is_from j p.streams m) (true_from r p.tables q a b) (true_from j p.streams m c d))

together_later : (r j : ℕ) (p : Part) (ps : List Part) (q m : ℕ) → are_together (r + p.tables) (j + p.streams) ps q m ≡ true → are_together r j (p ∷ ps) q m ≡ true
together_later r j p ps q m h = or_right (is_from r p.tables q && is_from j p.streams m) (are_together (r + p.tables) (j + p.streams) ps q m) h

-- it is one of the first part, or of a later one
together_cases : (r j : ℕ) (p : Part) (ps : List Part) (q m : ℕ) → are_together r j (p ∷ ps) q m ≡ true
    → ((r ≤ q) × (q < r + p.tables) × (j ≤ m) × (m < j + p.streams)) ⊎ (are_together (r + p.tables) (j + p.streams) ps q m ≡ true)
together_cases r j p ps q m h =
    ⊎_elim
    (λ f. let b = both (is_from r p.tables q) (is_from j p.streams m) f in let x = from_true r p.tables q b.0 in let y = from_true j p.streams m b.1 in inl (x.0, x.1, y.0, y.1))
    (λ l. inr l)
    (either (is_from r p.tables q && is_from j p.streams m) (are_together (r + p.tables) (j + p.streams) ps q m) h)

together_from : (r j : ℕ) (ps : List Part) (q m : ℕ) → are_together r j ps q m ≡ true → j ≤ m
together_from r j [] q m h = cc
together_from r j (p ∷ ps) q m h = ⊎_elim (λ x. x.2) (λ l. let i = together_from (r + p.tables) (j + p.streams) ps q m l in omega (arith, i)) (together_cases r j p ps q m h)

-- What stands before a lease of one of these parts, which have scopes of their own.

-- A stands before the lease of the scope z for the stream m, where the parts have the rows from r and the streams from j on
record StandsBefore (r j : ℕ) (ps : List Part) (A : List What) (m z : ℕ) : Type 0 where
  opened : IsAmong (Open z 0) A
  from : j ≤ m
  covers : (q : ℕ) → are_together r j ps q m ≡ true → IsAmong (Acquire q z) A
  only : (q t : ℕ) → IsAmong (Acquire q t) A → (are_together r j ps q m ≡ true) ⊎ IsAmong (Close t Succeeded) A

module _ (s r j : ℕ) (p : Part) (ps : List Part) (m z : ℕ) where
  abbrev first : List What
  first = giving_part s r j p

  abbrev rest : List What
  rest = giving_children (suc s) (r + p.tables) (j + p.streams) ps

  -- the lease is one of the first part
  in_first : (A C : List What) → first ≡ A ++ Lease m z ∷ C → StandsBefore r j (p ∷ ps) (Open s 0 ∷ A) m z
  in_first A C e =
      let i : IsAmong (Lease m z) first = subst (λ l. IsAmong (Lease m z) l) (sym e) (among_mid A C (Lease m z)) in
      let l = lease_of s r j m z p i in
      let d = before_lease s r j m z p A C e in
      record {
        opened = subst (λ x. IsAmong (Open x 0) (Open s 0 ∷ A)) (sym l.0) (here A);
        from = l.1;
        covers = λ q h. ⊎_elim
            (λ x. there (Open s 0) (subst (λ y. IsAmong (Acquire q y) A) (sym l.0) (subst (λ E. IsAmong (Acquire q s) E) (sym d.1) (among_left d.0 (acquire_in s r p.tables q x.0 x.1)))))
            (λ x. absurd (let f = together_from (r + p.tables) (j + p.streams) ps q m x in let u = l.2 in omega (arith, f, u)))
            (together_cases r j p ps q m h);
        only = λ q t h. inl (⊎_elim
            (λ x. absurd (let y : Acquire q t ≡ Open s 0 = x in cc))
            (λ x. let a = acquire_of s r j q t p (subst (λ E. IsAmong (Acquire q t) E) (sym e) (among_left (Lease m z ∷ C) x)) in together_first r j p ps q m a.1 a.2 l.1 l.2)
            (among_cons h));
      }

  -- it is one of the later parts
  in_later : (A : List What) → StandsBefore (r + p.tables) (j + p.streams) ps A m z → StandsBefore r j (p ∷ ps) (Open s 0 ∷ (first ++ Close s Succeeded ∷ A)) m z
  in_later A b = record {
    opened = behind (Open z 0) b.opened;
    from = let f = b.from in omega (arith, f);
    covers = λ q h. ⊎_elim (λ x. absurd (let f = b.from in let u = x.3 in omega (arith, f, u))) (λ x. behind (Acquire q z) (b.covers q x)) (together_cases r j p ps q m h);
    only = λ q t h. ⊎_elim
        (λ x. absurd (let y : Acquire q t ≡ Open s 0 = x in cc))
        (λ x. ⊎_elim
        (λ y. let a = acquire_of s r j q t p y in inr (subst (λ n. IsAmong (Close n Succeeded) (Open s 0 ∷ (first ++ Close s Succeeded ∷ A))) (sym a.0) (there (Open s 0) (among_mid first A (Close s Succeeded)))))
        (λ y. ⊎_elim (λ n. absurd (let o : Acquire q t ≡ Close s Succeeded = n in cc)) (λ n. ⊎_elim (λ g. inl (together_later r j p ps q m g)) (λ c. inr (behind (Close t Succeeded) c)) (b.only q t n)) (among_cons y))
        (among_append (Acquire q t) first (Close s Succeeded ∷ A) x))
        (among_cons h);
  }
    where
      behind : (w : What) → IsAmong w A → IsAmong w (Open s 0 ∷ (first ++ Close s Succeeded ∷ A))
      behind w i = there (Open s 0) (among_right w first (Close s Succeeded ∷ A) (there (Close s Succeeded) i))

  -- the list goes on behind the first part
  later : (A C : List What) → ((D : List What) → rest ≡ D ++ Lease m z ∷ C → StandsBefore (r + p.tables) (j + p.streams) ps D m z) → (D : List What) → A ≡ first ++ D → Close s Succeeded ∷ rest ≡ D ++ Lease m z ∷ C
      → StandsBefore r j (p ∷ ps) (Open s 0 ∷ A) m z
  later A C rec [] is e = absurd (let h : Close s Succeeded ≡ Lease m z = (cut (Close s Succeeded) rest C (Lease m z) e).0 in cc)
  later A C rec (d ∷ D) is e =
      let h = cut (Close s Succeeded) rest (D ++ Lease m z ∷ C) d e in
      subst (λ E. StandsBefore r j (p ∷ ps) (Open s 0 ∷ E) m z) (sym (is ∙ ap (λ w. first ++ w ∷ D) (sym h.0))) (in_later D (rec D h.1))

  all_before : (A C : List What) → ((D : List What) → rest ≡ D ++ Lease m z ∷ C → StandsBefore (r + p.tables) (j + p.streams) ps D m z) → first ++ Close s Succeeded ∷ rest ≡ A ++ Lease m z ∷ C
      → StandsBefore r j (p ∷ ps) (Open s 0 ∷ A) m z
  all_before A C rec e =
      ⊎_elim
      (λ c. in_first A c.0 c.1)
      (λ c. later A C rec c.0 c.1 (append_cancel_left first (Close s Succeeded ∷ rest) (c.0 ++ Lease m z ∷ C) (e ∙ (ap (λ l. l ++ Lease m z ∷ C) c.1 ∙ append_assoc first c.0 (Lease m z ∷ C)))))
      (split_append first (Close s Succeeded ∷ rest) A C (Lease m z) e)

nothing_there : (A C : List What) (w : What) → [] ≡ A ++ w ∷ C → ⊥
nothing_there [] C w e = cc
nothing_there (a ∷ A) C w e = cc

children_before : (s r j : ℕ) (ps : List Part) (A C : List What) (m z : ℕ) → giving_children s r j ps ≡ A ++ Lease m z ∷ C → StandsBefore r j ps A m z
children_before s r j [] A C m z e = absurd (nothing_there A C (Lease m z) e)
children_before s r j (p ∷ ps) [] C m z e = absurd (let h : Open s 0 ≡ Lease m z = (cut (Open s 0) (giving_part s r j p ++ Close s Succeeded ∷ giving_children (suc s) (r + p.tables) (j + p.streams) ps) C (Lease m z) e).0 in cc)
children_before s r j (p ∷ ps) (a ∷ A) C m z e =
    let h = cut (Open s 0) (giving_part s r j p ++ Close s Succeeded ∷ giving_children (suc s) (r + p.tables) (j + p.streams) ps) (A ++ Lease m z ∷ C) a e in
    subst (λ w. StandsBefore r j (p ∷ ps) (w ∷ A) m z) h.0
    (all_before s r j p ps m z A C (λ D q. children_before (suc s) (r + p.tables) (j + p.streams) ps D C m z q) h.1)

-- What stands before any lease.

-- A stands before the lease of the scope z for the stream m: each row that is lent to the stream was acquired in that scope or in the root that it was opened in, and the scope of each other row was closed
pub record StandsBeforeLease (o : Opener) (n : ℕ) (A : List What) (m z : ℕ) : Type 0 where
  pub covers : (q : ℕ) → is_lent o n q m ≡ true → (t : ℕ) × IsAmong (Acquire q t) A × ((t ≡ z) ⊎ ((t ≡ 0) × IsAmong (Open z 0) A))
  pub only : (q t : ℕ) → IsAmong (Acquire q t) A → (is_lent o n q m ≡ true) ⊎ IsAmong (Close t Succeeded) A

module _ (o : Opener) (n m z : ℕ) where
  abbrev top : Part
  top = top_of o n

  abbrev top_gives : List What
  top_gives = giving_part 0 0 0 top

  of_top : (q : ℕ) → q < 0 + top.tables → is_lent o n q m ≡ true
  of_top q l = or_left (nat_lt q top.tables) (are_together 0 0 (all_parts o n) q m) (lt-ltb q top.tables (omega (arith, l)))

  -- a row of the top, or one of a part that has a scope of its own
  lent_cases : (q : ℕ) → is_lent o n q m ≡ true → (q < 0 + top.tables) ⊎ (are_together top.tables top.streams (parts_of o) q m ≡ true)
  lent_cases q h =
      let none : 0 + top.tables ≡ top.tables = omega arith in
      let some : 0 + top.streams ≡ top.streams = omega arith in
      ⊎_elim
      (λ l. let x = ltb-true q top.tables l in inl (omega (arith, x)))
      (λ t. ⊎_elim (λ x. inl x.1) (λ x. inr (subst (λ r. are_together r top.streams (parts_of o) q m ≡ true) none (subst (λ k. are_together (0 + top.tables) k (parts_of o) q m ≡ true) some x))) (together_cases 0 0 top (parts_of o) q m t))
      (either (nat_lt q top.tables) (are_together 0 0 (all_parts o n) q m) h)

  lent_later : (q : ℕ) → are_together top.tables top.streams (parts_of o) q m ≡ true → is_lent o n q m ≡ true
  lent_later q h =
      let none : top.tables ≡ 0 + top.tables = omega arith in
      let some : top.streams ≡ 0 + top.streams = omega arith in
      let later = together_later 0 0 top (parts_of o) q m (subst (λ r. are_together r (0 + top.streams) (parts_of o) q m ≡ true) none (subst (λ k. are_together top.tables k (parts_of o) q m ≡ true) some h)) in
      or_right (nat_lt q top.tables) (are_together 0 0 (all_parts o n) q m) later

  -- the lease is one of the top's part
  of_first : (A C : List What) → top_gives ≡ A ++ Lease m z ∷ C → StandsBeforeLease o n A m z
  of_first A C e =
      let i : IsAmong (Lease m z) top_gives = subst (λ l. IsAmong (Lease m z) l) (sym e) (among_mid A C (Lease m z)) in
      let l = lease_of 0 0 0 m z top i in
      let d = before_lease 0 0 0 m z top A C e in
      record {
        covers = λ q h. ⊎_elim
            (λ x. (0, subst (λ E. IsAmong (Acquire q 0) E) (sym d.1) (among_left d.0 (acquire_in 0 0 top.tables q (omega arith) x)), inl (sym l.0)))
            (λ x. absurd (let f = together_from top.tables top.streams (parts_of o) q m x in let u = l.2 in omega (arith, f, u)))
            (lent_cases q h);
        only = λ q t h. inl (of_top q (acquire_of 0 0 0 q t top (subst (λ E. IsAmong (Acquire q t) E) (sym e) (among_left (Lease m z ∷ C) h))).2);
      }

  -- it is one of another part
  of_later : (D : List What) → StandsBefore top.tables top.streams (parts_of o) D m z → StandsBeforeLease o n (top_gives ++ D) m z
  of_later D b = record {
    covers = λ q h. ⊎_elim
        (λ x. (0, among_left D (among_left (leases_for 0 0 top.streams) (acquire_in 0 0 top.tables q (omega arith) x)), inr (refl, among_right (Open z 0) top_gives D b.opened)))
        (λ x. (z, among_right (Acquire q z) top_gives D (b.covers q x), inl refl))
        (lent_cases q h);
    only = λ q t h. ⊎_elim
        (λ x. inl (of_top q (acquire_of 0 0 0 q t top x).2))
        (λ x. ⊎_elim (λ g. inl (lent_later q g)) (λ c. inr (among_right (Close t Succeeded) top_gives D c)) (b.only q t x))
        (among_append (Acquire q t) top_gives D h);
  }

  pub before_any_lease : (A C : List What) → giving_all o n ≡ A ++ Lease m z ∷ C → StandsBeforeLease o n A m z
  before_any_lease A C e =
      let rest = giving_children 1 top.tables top.streams (parts_of o) in
      ⊎_elim
      (λ c. of_first A c.0 c.1)
      (λ c.
      let later = append_cancel_left top_gives rest (c.0 ++ Lease m z ∷ C) (e ∙ (ap (λ l. l ++ Lease m z ∷ C) c.1 ∙ append_assoc top_gives c.0 (Lease m z ∷ C))) in
      subst (λ E. StandsBeforeLease o n E m z) (sym c.1) (of_later c.0 (children_before 1 top.tables top.streams (parts_of o) c.0 C m z later)))
      (split_append top_gives rest A C (Lease m z) e)

-- How many scopes are opened.

opens_both : (E F : List What) → length (opens (E ++ F)) ≡ length (opens E) + length (opens F)
opens_both E F = ap length (flat_map-append opens_of E F) ∙ length-append (opens E) (opens F)

none_opened : (f : ℕ → What) → ((q : ℕ) → opens_of (f q) ≡ []) → (xs : List ℕ) → opens (map f xs) ≡ []
none_opened f none [] = refl
none_opened f none (x ∷ xs) = ap (λ l. l ++ opens (map f xs)) (none x) ∙ none_opened f none xs

part_opens : (s r j : ℕ) (p : Part) → length (opens (giving_part s r j p)) ≡ 0
part_opens s r j p =
    let a = ap length (none_opened (λ q. Acquire q s) (λ q. refl) (range_with_len r p.tables)) in
    let l = ap length (none_opened (λ k. Lease k s) (λ k. refl) (range_with_len j p.streams)) in
    let both = opens_both (acquires s r p.tables) (leases_for s j p.streams) in
    omega (arith, a, l, both)

children_open : (s r j : ℕ) (ps : List Part) → length (opens (giving_children s r j ps)) ≡ length ps
children_open s r j [] = refl
children_open s r j (p ∷ ps) =
    let first = part_opens s r j p in
    let both = opens_both (giving_part s r j p) (Close s Succeeded ∷ giving_children (suc s) (r + p.tables) (j + p.streams) ps) in
    let rest = children_open (suc s) (r + p.tables) (j + p.streams) ps in
    omega (arith, first, both, rest)

pub all_open : (o : Opener) (n : ℕ) → length (opens (giving_all o n)) ≡ length (parts_of o)
all_open o n =
    let top = part_opens 0 0 0 (top_of o n) in
    let both = opens_both (giving_part 0 0 0 (top_of o n)) (giving_children 1 (top_of o n).tables (top_of o n).streams (parts_of o)) in
    let rest = children_open 1 (top_of o n).tables (top_of o n).streams (parts_of o) in
    omega (arith, top, both, rest)
