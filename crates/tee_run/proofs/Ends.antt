-- The ends that are told.
use Rattle.std.proofs.Common.{◌≡◌, ◌⊎◌, ℕ, zero, suc, ◌+◌, ◌<◌, ◌||◌, Bool, true, false, List, [], ◌∷◌, ◌++◌, map, length, take, refl, sym, ◌∙◌, ap, subst, inl, inr, ⊎_elim, append_assoc, arith}
use lib.ListN.{get_or}
use mathlib.Core.Option.{some-injective, some-ne-none}
use Rattle.std.specs.List.{list_any}
use Rattle.chunk_core.specs.Lists.{IsAmong}
use Rattle.chunk_core.specs.Lists.IsAmong.{here, there}
use Rattle.chunk_core.proofs.Members.{among_cons, among_nil}
use Rattle.chunk_core.specs.Totals.{IsAt}
use Rattle.chunk_core.specs.declared.code.How.{How}
use Rattle.chunk_core.specs.declared.code.How.TheVariants as how
use Rattle.run_rules.specs.Facts.{is_memory}
use Rattle.run_rules.specs.declared.end.EndOf.{EndOf}
use Rattle.res_ledger.specs.declared.event.StreamNo.TheVariants.{Inner}
use Rattle.tee_run.specs.Telling.{all_halted, ends_from}

pub or_left : (a b : Bool) → a ≡ true → (a || b) ≡ true
or_left true b e = refl
or_left false b e = cc

pub or_right : (a b : Bool) → b ≡ true → (a || b) ≡ true
or_right true b e = refl
or_right false b e = e

either_of : (a b : Bool) → (a || b) ≡ true → (a ≡ true) ⊎ (b ≡ true)
either_of true b e = inl refl
either_of false b e = inr e

-- memory was wanting where one ended so
pub memory_in : (ks : List How) → IsAmong how.Memory ks → list_any is_memory ks ≡ true
memory_in [] m = absurd (among_nil m)
memory_in (k ∷ ks) m = ⊎_elim (λ e. or_left (is_memory k) (list_any is_memory ks) (sym (ap is_memory e))) (λ n. or_right (is_memory k) (list_any is_memory ks) (memory_in ks n)) (among_cons m)

memory_is : (k : How) → is_memory k ≡ true → how.Memory ≡ k
memory_is how.Memory e = refl
memory_is how.Done e = cc
memory_is how.Halted e = cc
memory_is (how.Fault c) e = cc

pub memory_out : (ks : List How) → list_any is_memory ks ≡ true → IsAmong how.Memory ks
memory_out [] e = cc
memory_out (k ∷ ks) e = ⊎_elim (λ i. subst (λ x. IsAmong x (k ∷ ks)) (sym (memory_is k i)) (here ks)) (λ n. there k (memory_out ks n)) (either_of (is_memory k) (list_any is_memory ks) e)

pub hows_of : (i : ℕ) (hs : List How) → map (λ (e : EndOf). e.how) (ends_from i hs) ≡ hs
hows_of i [] = refl
hows_of i (h ∷ hs) = ap (λ l. h ∷ l) (hows_of (i + 1) hs)

-- each of the branches that were halted was
pub halted_among : (n : ℕ) (k : How) → IsAmong k (all_halted n) → k ≡ how.Halted
halted_among zero k m = absurd (among_nil m)
halted_among (suc n) k m = ⊎_elim (λ e. e) (λ r. halted_among n k r) (among_cons m)

-- where one stands
pub among_at : {A : Type 0} (x : A) (xs : List A) → IsAmong x xs → (i : ℕ) × IsAt xs i x
among_at x [] m = absurd (among_nil m)
among_at x (y ∷ xs) m = ⊎_elim (λ e. (0, subst (λ z. IsAt (y ∷ xs) 0 z) (sym e) refl)) (λ n. let r = among_at x xs n in (suc r.0, r.1)) (among_cons m)

pub at_among : {A : Type 0} (xs : List A) (i : ℕ) (x : A) → IsAt xs i x → IsAmong x xs
at_among [] i x a = absurd (some-ne-none x (sym a))
at_among (y ∷ xs) zero x a = subst (λ z. IsAmong z (y ∷ xs)) (some-injective y x a) (here xs)
at_among (y ∷ xs) (suc i) x a = there y (at_among xs i x a)

-- of two lists that are as long each has something where the other has
pub at_both : {A B : Type 0} (xs : List A) (ys : List B) → length xs ≡ length ys → (i : ℕ) (x : A) → IsAt xs i x → (y : B) × IsAt ys i y
at_both [] ys n i x a = absurd (some-ne-none x (sym a))
at_both (x ∷ xs) [] n i z a = absurd (omega (arith, n))
at_both (x ∷ xs) (y ∷ ys) n zero z a = (y, refl)
at_both (x ∷ xs) (y ∷ ys) n (suc i) z a = at_both xs ys (omega (arith, n)) i z a

-- the ends number the branches
pub numbered_below : (i : ℕ) (hs : List How) (e : EndOf) → IsAmong e (ends_from i hs) → IsAmong e.how hs
numbered_below i [] e m = absurd (among_nil m)
numbered_below i (h ∷ hs) e m = ⊎_elim (λ is. subst (λ k. IsAmong k (h ∷ hs)) (sym (ap (λ (x : EndOf). x.how) is)) (here hs)) (λ n. there h (numbered_below (i + 1) hs e n)) (among_cons m)

abbrev end_of : ℕ → How → EndOf
end_of i h = record { who = Inner i; how = h }

-- the end of one branch more
pub ends_more : (k : ℕ) (hs : List How) (i : ℕ) (h : How) → IsAt hs i h → ends_from k (take (i + 1) hs) ≡ ends_from k (take i hs) ++ end_of (k + i) h ∷ []
ends_more k [] i h a = absurd (some-ne-none h (sym a))
ends_more k (x ∷ hs) zero h a = ap (λ y. end_of k y ∷ []) (some-injective x h a) ∙ ap (λ j. end_of j h ∷ []) (let z : k ≡ k + 0 = omega arith in z)
ends_more k (x ∷ hs) (suc i) h a =
    ap (λ j. ends_from k (take j (x ∷ hs))) (let z : suc i + 1 ≡ suc (i + 1) = omega arith in z)
    ∙ (ap (λ l. end_of k x ∷ l) (ends_more (k + 1) hs i h a)
    ∙ ap (λ j. end_of k x ∷ (ends_from (k + 1) (take i hs) ++ end_of j h ∷ [])) (let z : (k + 1) + i ≡ k + suc i = omega arith in z))

pub halted_more : (k n : ℕ) → ends_from k (all_halted (n + 1)) ≡ ends_from k (all_halted n) ++ end_of (k + n) how.Halted ∷ []
halted_more k zero = ap (λ j. end_of j how.Halted ∷ []) (let z : k ≡ k + 0 = omega arith in z)
halted_more k (suc n) =
    ap (λ j. ends_from k (all_halted j)) (let z : suc n + 1 ≡ suc (n + 1) = omega arith in z)
    ∙ (ap (λ l. end_of k how.Halted ∷ l) (halted_more (k + 1) n)
    ∙ ap (λ j. end_of k how.Halted ∷ (ends_from (k + 1) (all_halted n) ++ end_of j how.Halted ∷ [])) (let z : (k + 1) + n ≡ k + suc n = omega arith in z))

-- one branch more that was halted follows
pub halted_next : (start items new : List EndOf) (n : ℕ) → items ≡ start ++ ends_from 0 (all_halted n) → new ≡ items ++ end_of n how.Halted ∷ [] → new ≡ start ++ ends_from 0 (all_halted (n + 1))
halted_next start items new n is more =
    more
    ∙ (ap (λ l. l ++ end_of n how.Halted ∷ []) is
    ∙ (append_assoc start (ends_from 0 (all_halted n)) (end_of n how.Halted ∷ [])
    ∙ ap (λ l. start ++ l) (ap (λ j. ends_from 0 (all_halted n) ++ end_of j how.Halted ∷ []) (let z : n ≡ 0 + n = omega arith in z) ∙ sym (halted_more 0 n))))

-- one branch more follows
pub branch_next : (start items new : List EndOf) (hs : List How) (i j : ℕ) (h : How) → IsAt hs i h → j ≡ i → items ≡ start ++ ends_from 0 (take i hs) → new ≡ items ++ end_of j h ∷ [] → new ≡ start ++ ends_from 0 (take (i + 1) hs)
branch_next start items new hs i j h a same is more =
    more
    ∙ (ap (λ l. l ++ end_of j h ∷ []) is
    ∙ (append_assoc start (ends_from 0 (take i hs)) (end_of j h ∷ [])
    ∙ ap (λ l. start ++ l) (ap (λ k. ends_from 0 (take i hs) ++ end_of k h ∷ []) (let z : j ≡ 0 + i = omega (arith, same) in z) ∙ sym (ends_more 0 hs i h a))))

-- what stands at a place below the length
pub at_or : {A : Type 0} (xs : List A) (i : ℕ) (d : A) → i < length xs → IsAt xs i (get_or xs i d)
at_or [] i d l = absurd (omega (arith, l))
at_or (x ∷ xs) zero d l = refl
at_or (x ∷ xs) (suc i) d l = at_or xs i d (omega (arith, l))

-- the item of a loop stands at its place
pub at_item : {A : Type 0} (xs : List A) (i : ℕ) (x : A) → i < length xs → x ≡ get_or xs i x → IsAt xs i x
at_item xs i x l e = subst (λ z. IsAt xs i z) (sym e) (at_or xs i x l)
