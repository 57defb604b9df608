-- How the lines of a text follow from those of its parts.
use Rattle.std.proofs.Common.{◌∙◌, ◌≡◌, ℕ, zero, suc, Bool, true, false, ◌==◌, ◌&&◌, cond, List, [], ◌∷◌, ◌++◌, take, slice_index, ◌<◌, refl, ap, arith, length}
use Rattle.std.proofs.lemmas.Bool.{or_parts, or_from, false_from_ne_true, and_left, and_right}
use Rattle.std.proofs.lemmas.List.{append-nil}
use Rattle.pull_nodes.specs.Lines.{is_end, has_end, IsFree, last_byte, without_pairs, onto, ended_lines, where_none, open_line}

pub last_byte-append : (b : ℕ) (xs ys : List ℕ) → last_byte b (xs ++ ys) ≡ last_byte (last_byte b xs) ys
unfolding last_byte
last_byte-append b [] ys = refl
last_byte-append b (c ∷ xs) ys = last_byte-append c xs ys

pair_case : (t : Bool) (c : ℕ) (u v w : List ℕ) → u ≡ v ++ w → cond t u (c ∷ u) ≡ cond t v (c ∷ v) ++ w
pair_case true c u v w e = e
pair_case false c u v w e = ap (λ x. c ∷ x) e

-- the text goes on
pub without_pairs-append : (b : ℕ) (xs ys : List ℕ) → without_pairs b (xs ++ ys) ≡ without_pairs b xs ++ without_pairs (last_byte b xs) ys
unfolding without_pairs last_byte
without_pairs-append b [] ys = refl
without_pairs-append b (c ∷ xs) ys = pair_case ((b == 13) && (c == 10)) c _ _ _ (without_pairs-append c xs ys)

ended_in_rest : (c : ℕ) (xs ys : List ℕ) (ls : List (List ℕ)) → is_end c ≡ false → ended_lines (xs ++ ys) ≡ ls ++ ended_lines (open_line xs ++ ys)
    → onto c (ended_lines (xs ++ ys)) ≡ onto c ls ++ ended_lines (where_none ls (c ∷ xs) (open_line xs) ++ ys)
unfolding ended_lines
ended_in_rest c xs ys [] t e = rw t
ended_in_rest c xs ys (l ∷ ls) t e = ap (onto c) e

ended_case : (t : Bool) (c : ℕ) (xs ys : List ℕ) → is_end c ≡ t
    → ended_lines (xs ++ ys) ≡ ended_lines xs ++ ended_lines (open_line xs ++ ys) → ended_lines ((c ∷ xs) ++ ys) ≡ ended_lines (c ∷ xs) ++ ended_lines (open_line (c ∷ xs) ++ ys)
unfolding ended_lines open_line
ended_case true c xs ys t e = rw t (ap (λ x. [] ∷ x) e)
ended_case false c xs ys t e = rw t (ended_in_rest c xs ys (ended_lines xs) t e)

pub ended_lines-append : (xs ys : List ℕ) → ended_lines (xs ++ ys) ≡ ended_lines xs ++ ended_lines (open_line xs ++ ys)
unfolding ended_lines open_line
ended_lines-append [] ys = refl
ended_lines-append (c ∷ xs) ys = ended_case (is_end c) c xs ys refl (ended_lines-append xs ys)

open_in_rest : (c : ℕ) (xs ys : List ℕ) (ls ms : List (List ℕ)) → is_end c ≡ false → ended_lines (xs ++ ys) ≡ ls ++ ms → open_line (xs ++ ys) ≡ open_line (open_line xs ++ ys)
    → where_none (ended_lines (xs ++ ys)) (c ∷ (xs ++ ys)) (open_line (xs ++ ys)) ≡ open_line (where_none ls (c ∷ xs) (open_line xs) ++ ys)
unfolding open_line
open_in_rest c xs ys [] ms t e r = rw t
open_in_rest c xs ys (l ∷ ls) ms t e r = rw e r

open_case : (t : Bool) (c : ℕ) (xs ys : List ℕ) → is_end c ≡ t → open_line (xs ++ ys) ≡ open_line (open_line xs ++ ys) → open_line ((c ∷ xs) ++ ys) ≡ open_line (open_line (c ∷ xs) ++ ys)
unfolding open_line
open_case true c xs ys t e = rw t e
open_case false c xs ys t e = rw t (open_in_rest c xs ys (ended_lines xs) (ended_lines (open_line xs ++ ys)) t (ended_lines-append xs ys) e)

pub open_line-append : (xs ys : List ℕ) → open_line (xs ++ ys) ≡ open_line (open_line xs ++ ys)
unfolding open_line
open_line-append [] ys = refl
open_line-append (c ∷ xs) ys = open_case (is_end c) c xs ys refl (open_line-append xs ys)

-- a text in which no line ends
pub free_parts : (c : ℕ) (xs : List ℕ) → IsFree (c ∷ xs) → (is_end c ≡ false) × IsFree xs
free_parts c xs f = or_parts (is_end c) (has_end xs) f

pub ended_lines-free : (xs : List ℕ) → IsFree xs → ended_lines xs ≡ []
unfolding ended_lines
ended_lines-free [] f = refl
ended_lines-free (c ∷ xs) f = let p = free_parts c xs f in rw (p.0, ended_lines-free xs p.1)

pub open_line-free : (xs : List ℕ) → IsFree xs → open_line xs ≡ xs
unfolding open_line
open_line-free [] f = refl
open_line-free (c ∷ xs) f = let p = free_parts c xs f in rw (p.0, ended_lines-free xs p.1)

-- one line and its end
pub ended_lines-line : (l : List ℕ) (e : ℕ) (ys : List ℕ) → IsFree l → is_end e ≡ true → ended_lines (l ++ e ∷ ys) ≡ l ∷ ended_lines ys
unfolding ended_lines
ended_lines-line [] e ys f t = rw t
ended_lines-line (c ∷ l) e ys f t = let p = free_parts c l f in rw (p.0, ended_lines-line l e ys p.1 t)

pub open_line-line : (l : List ℕ) (e : ℕ) (ys : List ℕ) → IsFree l → is_end e ≡ true → open_line (l ++ e ∷ ys) ≡ open_line ys
unfolding open_line
open_line-line [] e ys f t = rw t
open_line-line (c ∷ l) e ys f t = let p = free_parts c l f in rw (p.0, ended_lines-line l e ys p.1 t) (open_line-line l e ys p.1 t)

-- what is open has no end
onto_nil : (c : ℕ) (ls : List (List ℕ)) → onto c ls ≡ [] → ls ≡ []
onto_nil c [] e = refl
onto_nil c (l ∷ ls) e = (cc)

none_case : (t : Bool) (c : ℕ) (xs : List ℕ) → is_end c ≡ t → cond t ([] ∷ ended_lines xs) (onto c (ended_lines xs)) ≡ [] → (ended_lines xs ≡ [] → IsFree xs) → IsFree (c ∷ xs)
none_case true c xs t e more = (cc)
none_case false c xs t e more = or_from (is_end c) (has_end xs) t (more (onto_nil c (ended_lines xs) e))

pub free_from_none : (xs : List ℕ) → ended_lines xs ≡ [] → IsFree xs
unfolding ended_lines
free_from_none [] e = refl
free_from_none (c ∷ xs) e = none_case (is_end c) c xs refl e (free_from_none xs)

open_is_free : (c : ℕ) (xs : List ℕ) (ls : List (List ℕ)) → is_end c ≡ false → ended_lines xs ≡ ls → IsFree (open_line xs) → IsFree (where_none ls (c ∷ xs) (open_line xs))
open_is_free c xs [] t e f = or_from (is_end c) (has_end xs) t (free_from_none xs e)
open_is_free c xs (l ∷ ls) t e f = f

free_case : (t : Bool) (c : ℕ) (xs : List ℕ) → is_end c ≡ t → IsFree (open_line xs) → IsFree (cond t (open_line xs) (where_none (ended_lines xs) (c ∷ xs) (open_line xs)))
free_case true c xs t f = f
free_case false c xs t f = open_is_free c xs (ended_lines xs) t refl f

pub free-open_line : (xs : List ℕ) → IsFree (open_line xs)
unfolding open_line
free-open_line [] = refl
free-open_line (c ∷ xs) = free_case (is_end c) c xs refl (free-open_line xs)

pub free-append : (xs ys : List ℕ) → IsFree xs → IsFree ys → IsFree (xs ++ ys)
free-append [] ys f g = g
free-append (c ∷ xs) ys f g = let p = free_parts c xs f in or_from (is_end c) (has_end (xs ++ ys)) p.0 (free-append xs ys p.1 g)

-- from a search
pub free-take : (xs : List ℕ) (n : ℕ) → ((k : ℕ) → k < n → is_end (slice_index xs k) ≡ true → ⊥) → IsFree (take n xs)
free-take xs zero h = refl
free-take [] (suc n) h = refl
free-take (x ∷ xs) (suc n) h = or_from (is_end x) (has_end (take n xs)) (false_from_ne_true (is_end x) (h 0 (omega arith))) (free-take xs n (λ k l. h (suc k) (omega arith)))

-- bytes without a line end follow any byte as they are
pub without_pairs-free : (b : ℕ) (x ys : List ℕ) → IsFree x → 0 < length x → without_pairs b (x ++ ys) ≡ x ++ without_pairs (last_byte b x) ys
unfolding without_pairs last_byte
without_pairs-free b [] ys f n = absurd (omega arith)
without_pairs-free b (c ∷ []) ys f n =
    let p = or_parts (c == 13) (c == 10) (free_parts c [] f).0 in
    rw (and_right (b == 13) (c == 10) p.1)
without_pairs-free b (c ∷ d ∷ x) ys f n =
    let q = free_parts c (d ∷ x) f in
    let p = or_parts (c == 13) (c == 10) q.0 in
    rw (and_right (b == 13) (c == 10) p.1) (ap (λ z. c ∷ z) (without_pairs-free c (d ∷ x) ys q.1 (omega arith)))

-- the last of such bytes is no CR
pub last_byte-free : (b : ℕ) (x : List ℕ) → IsFree x → 0 < length x → (last_byte b x == 13) ≡ false
unfolding last_byte
last_byte-free b [] f n = absurd (omega arith)
last_byte-free b (c ∷ []) f n = (or_parts (c == 13) (c == 10) (free_parts c [] f).0).0
last_byte-free b (c ∷ d ∷ x) f n = last_byte-free c (d ∷ x) (free_parts c (d ∷ x) f).1 (omega arith)

without_pairs_end : (b e : ℕ) → ((b == 13) && (e == 10)) ≡ false → without_pairs b (e ∷ []) ≡ e ∷ []
unfolding without_pairs
without_pairs_end b e p = rw p

-- with a line end that no CR before it takes
pub without_pairs-line : (b : ℕ) (x : List ℕ) (e : ℕ) → IsFree x → (((b == 13) && (length x == 0)) && (e == 10)) ≡ false → without_pairs b (x ++ e ∷ []) ≡ x ++ e ∷ []
without_pairs-line b [] e f p = without_pairs_end b e (grind (arith, p))
without_pairs-line b (c ∷ x) e f p =
    without_pairs-free b (c ∷ x) (e ∷ []) f (omega arith) ∙ ap (λ z. (c ∷ x) ++ z) (without_pairs_end (last_byte b (c ∷ x)) e (and_left _ (e == 10) (last_byte-free b (c ∷ x) f (omega arith))))

pub last_byte-line : (b : ℕ) (x : List ℕ) (e : ℕ) → last_byte b (x ++ e ∷ []) ≡ e
unfolding last_byte
last_byte-line b [] e = refl
last_byte-line b (c ∷ x) e = last_byte-line c x e

some_free : (b : ℕ) (x : List ℕ) → IsFree x → 0 < length x → without_pairs b x ≡ x
unfolding without_pairs
some_free b x f n = rw (append-nil x) at (without_pairs-free b x [] f n)

pub without_pairs-same : (b : ℕ) (x : List ℕ) → IsFree x → without_pairs b x ≡ x
unfolding without_pairs
without_pairs-same b [] f = refl
without_pairs-same b (c ∷ x) f = some_free b (c ∷ x) f (omega arith)
