-- The lossy reading of bytes that go on.
use Rattle.std.proofs.Common.{◌≡◌, ℕ, ◌<◌, ◌≤◌, Bool, true, false, cond, not, ◌&&◌, ◌==◌, List, [], ◌∷◌, ◌++◌, length, Option, is_some, refl, ap, arith}
use Rattle.std.proofs.lemmas.Bool.{and_parts, not-true, and_from, not_from_false, eqb-true, eq-eqb, ne_eqb, false_from_ne_true}
use Rattle.std.proofs.lemmas.Bool.Decides.{nat_tests}
use Rattle.std.specs.Str.Lossy.{utf8_valid_len}
use Rattle.pull_nodes.specs.Utf8.{utf8_front, utf8_rest, is_malformed, is_unfinished, finished_front, unfinished_rest}
use Rattle.pull_nodes.proofs.Malformed.{error_len-append}
use Rattle.pull_nodes.proofs.Utf8Cuts.{front-IsUtf8, valid_len-after, front_and_rest-append, length-front}

-- an unfinished character
pub record IsOpen (s : List ℕ) : Type 0 where
  pub some : 0 < length s
  pub none : utf8_valid_len s ≡ 0
  pub fine : is_malformed s ≡ false

pub IsOpen-from : (s : List ℕ) → is_unfinished s ≡ true → IsOpen s
IsOpen-from s h =
    let both = and_parts (not (length s == 0)) ((utf8_valid_len s == 0) && not (is_malformed s)) h in
    let rest = and_parts (utf8_valid_len s == 0) (not (is_malformed s)) both.1 in
    record { some = grind (arith, nat_tests, both.0); none = eqb-true (utf8_valid_len s) 0 rest.0; fine = not-true (is_malformed s) rest.1 }

pub is_unfinished-from : (s : List ℕ) → IsOpen s → is_unfinished s ≡ true
is_unfinished-from s h =
    let some = h.some in
    and_from (not (length s == 0)) ((utf8_valid_len s == 0) && not (is_malformed s)) (not_from_false (length s == 0) (ne_eqb (length s) 0 (omega arith)))
    (and_from (utf8_valid_len s == 0) (not (is_malformed s)) (eq-eqb (utf8_valid_len s) 0 h.none) (not_from_false (is_malformed s) h.fine))

-- the front of an unfinished character is unfinished
valid_len-less : (s zs : List ℕ) → utf8_valid_len (s ++ zs) ≡ 0 → utf8_valid_len s ≡ 0
valid_len-less s zs none =
    let sum = valid_len-after (utf8_front s) (utf8_rest s ++ zs) (front-IsUtf8 s) in
    let same = ap utf8_valid_len (front_and_rest-append s zs) in
    omega (arith, sum, same, none, length-front s)

IsOpen-less : (s zs : List ℕ) → 0 < length s → IsOpen (s ++ zs) → IsOpen s
IsOpen-less s zs some h = record {
  some = some;
  none = valid_len-less s zs h.none;
  fine = false_from_ne_true (is_malformed s) (λ bad. let same = ap (λ (o : Option ℕ). is_some o) (error_len-append s zs bad) in let k = h.fine in absurd (cc));
}

goes_on : (s zs : List ℕ) → 0 < length s → is_unfinished s ≡ false → is_unfinished (s ++ zs) ≡ false
goes_on s zs some h = false_from_ne_true (is_unfinished (s ++ zs)) (λ t. let k = is_unfinished-from s (IsOpen-less s zs some (IsOpen-from (s ++ zs) t)) in absurd (cc))

finished_case : (t : Bool) (b : ℕ) (xs zs : List ℕ) → is_unfinished (b ∷ xs) ≡ t → finished_front (xs ++ zs) ≡ finished_front xs ++ finished_front (unfinished_rest xs ++ zs)
    → finished_front ((b ∷ xs) ++ zs) ≡ finished_front (b ∷ xs) ++ finished_front (unfinished_rest (b ∷ xs) ++ zs)
finished_case true b xs zs t e = rw t
finished_case false b xs zs t e = rw (t, goes_on (b ∷ xs) zs (omega arith) t) (ap (λ l. b ∷ l) e)

-- what is finished stays so, and what is unfinished, put before more bytes, decides
pub finished_front-append : (xs zs : List ℕ) → finished_front (xs ++ zs) ≡ finished_front xs ++ finished_front (unfinished_rest xs ++ zs)
finished_front-append [] zs = refl
finished_front-append (b ∷ xs) zs = finished_case (is_unfinished (b ∷ xs)) b xs zs refl (finished_front-append xs zs)

rest_case : (t : Bool) (b : ℕ) (xs zs : List ℕ) → is_unfinished (b ∷ xs) ≡ t → unfinished_rest (xs ++ zs) ≡ unfinished_rest (unfinished_rest xs ++ zs)
    → unfinished_rest ((b ∷ xs) ++ zs) ≡ unfinished_rest (unfinished_rest (b ∷ xs) ++ zs)
rest_case true b xs zs t e = rw t
rest_case false b xs zs t e = rw (t, goes_on (b ∷ xs) zs (omega arith) t) e

pub unfinished_rest-append : (xs zs : List ℕ) → unfinished_rest (xs ++ zs) ≡ unfinished_rest (unfinished_rest xs ++ zs)
unfinished_rest-append [] zs = refl
unfinished_rest-append (b ∷ xs) zs = rest_case (is_unfinished (b ∷ xs)) b xs zs refl (unfinished_rest-append xs zs)

whole_case : (t : Bool) (b : ℕ) (xs : List ℕ) → finished_front xs ++ unfinished_rest xs ≡ xs → cond t [] (b ∷ finished_front xs) ++ cond t (b ∷ xs) (unfinished_rest xs) ≡ b ∷ xs
whole_case true b xs e = refl
whole_case false b xs e = ap (λ l. b ∷ l) e

pub finished_and_rest : (xs : List ℕ) → finished_front xs ++ unfinished_rest xs ≡ xs
finished_and_rest [] = refl
finished_and_rest (b ∷ xs) = whole_case (is_unfinished (b ∷ xs)) b xs (finished_and_rest xs)

-- the rest is unfinished, where it isn't empty
open_case : (t : Bool) (b : ℕ) (xs : List ℕ) → is_unfinished (b ∷ xs) ≡ t → (0 < length (unfinished_rest xs) → IsOpen (unfinished_rest xs)) → 0 < length (unfinished_rest (b ∷ xs)) → IsOpen (unfinished_rest (b ∷ xs))
open_case true b xs t h some = rw t (IsOpen-from (b ∷ xs) t)
open_case false b xs t h some = rw t (h (rw t at some))

pub rest-IsOpen : (xs : List ℕ) → 0 < length (unfinished_rest xs) → IsOpen (unfinished_rest xs)
rest-IsOpen [] some = absurd (omega arith)
rest-IsOpen (b ∷ xs) some = open_case (is_unfinished (b ∷ xs)) b xs refl (rest-IsOpen xs) some

-- a suffix of bytes that end finished, and an unfinished suffix
shorter_case : (t : Bool) (b : ℕ) (v r : List ℕ) → length (finished_front (v ++ r)) ≤ length v → length (cond t [] (b ∷ finished_front (v ++ r))) ≤ length (b ∷ v)
shorter_case true b v r le = omega arith
shorter_case false b v r le = omega arith

nil_case : (t : Bool) (b : ℕ) (r : List ℕ) → t ≡ true → length (cond t [] (b ∷ finished_front r)) ≤ 0
nil_case true b r t = omega arith
nil_case false b r t = (cc)

pub finished_front-less : (v r : List ℕ) → is_unfinished r ≡ true → length (finished_front (v ++ r)) ≤ length v
finished_front-less [] [] t = (cc)
finished_front-less [] (b ∷ r) t = nil_case (is_unfinished (b ∷ r)) b r t
finished_front-less (b ∷ v) r t = shorter_case (is_unfinished (b ∷ (v ++ r))) b v r (finished_front-less v r t)

suffix_case : (t : Bool) (b : ℕ) (f w : List ℕ) → cond t [] (b ∷ f) ≡ b ∷ w → f ≡ w
suffix_case true b f w e = (cc)
suffix_case false b f w e = (cc)

pub finished-suffix : (v s : List ℕ) → finished_front (v ++ s) ≡ v ++ s → finished_front s ≡ s
finished-suffix [] s e = e
finished-suffix (b ∷ v) s e = finished-suffix v s (suffix_case (is_unfinished (b ∷ (v ++ s))) b (finished_front (v ++ s)) (v ++ s) e)
