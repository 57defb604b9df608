-- What is well formed of bytes that go on.
use Rattle.std.proofs.Common.{◌≡◌, ◌⊎◌, inl, inr, ⊎_elim, ℕ, zero, suc, ◌+◌, ◌-◌, ◌<◌, ◌≤◌, List, [], ◌∷◌, ◌++◌, length, take, drop, refl, ap, ◌∙◌, sym, subst, arith, append_assoc, length-append}
use Rattle.std.proofs.lemmas.Bool.{cases_Bool, cases_lt, cond-true, cond-false, true≢false}
use Rattle.std.proofs.lemmas.List.{take_all, take_at, drop_at, drop_all, take-append-drop, length-take}
use Rattle.std.proofs.lemmas.Str.{IsUtf8-append, IsUtf8-nil, IsUtf8-drop, IsCharBoundary-from_take, IsUtf8-from_is_utf8, is_utf8-from_IsUtf8, utf8_valid_len-IsUtf8, utf8_valid_len-IsValidUpTo, utf8_valid_len_le}
use Rattle.std.specs.Prelude.{IsUtf8}
use Rattle.std.specs.Str.{is_utf8, IsValidUpTo}
use Rattle.std.specs.Str.Lossy.{utf8_valid_len, valid_len_up_to}
use Rattle.pull_nodes.specs.Utf8.{utf8_front, utf8_rest}

longest_front : (bs : List ℕ) (m : ℕ)
    → IsUtf8 (take (valid_len_up_to bs m) bs) × ((k : ℕ) → valid_len_up_to bs m < k → k ≤ m → ¬ (IsUtf8 (take k bs)))
longest_front bs zero = (IsUtf8-nil, λ k above within. absurd (omega arith))
longest_front bs (suc m) =
    let before = longest_front bs m in
    ⊎_elim
    (λ yes.
    let is : valid_len_up_to bs (suc m) ≡ suc m = cond-true _ _ _ yes in
    (subst (λ n. IsUtf8 (take n bs)) (sym is) (IsUtf8-from_is_utf8 _ yes), λ k above within. absurd (omega arith)))
    (λ no.
    let is : valid_len_up_to bs (suc m) ≡ valid_len_up_to bs m = cond-false _ _ _ no in (
      subst (λ n. IsUtf8 (take n bs)) (sym is) before.0,
      λ k above within u. ⊎_elim
          (λ (top : m < k).
          let same : k ≡ suc m = omega arith in
          true≢false (sym (is_utf8-from_IsUtf8 _ (subst (λ n. IsUtf8 (take n bs)) same u)) ∙ no))
          (λ (low : k ≤ m). before.1 k (omega arith) low u)
          (cases_lt m k),
    ))
    (cases_Bool (is_utf8 (take (suc m) bs)))

pub front-IsUtf8 : (xs : List ℕ) → IsUtf8 (utf8_front xs)
unfolding utf8_valid_len
front-IsUtf8 xs = (longest_front xs (length xs)).0

-- bytes are well formed, or the longest well-formed front is shorter
pub utf8_cases : (bs : List ℕ) → IsUtf8 bs ⊎ IsValidUpTo bs (utf8_valid_len bs)
unfolding utf8_valid_len
utf8_cases bs =
    let n = utf8_valid_len bs in
    let front = longest_front bs (length bs) in
    ⊎_elim
    (λ (short : n < length bs). inr (record {
      short = short;
      front = front.0;
      longest = λ m above u. ⊎_elim
          (λ (past : length bs < m).
          front.1 (length bs) short (omega arith) (subst IsUtf8 (take_all m bs (omega arith) ∙ sym (take_all (length bs) bs (omega arith))) u))
          (λ (within : m ≤ length bs). front.1 m above within u)
          (cases_lt (length bs) m);
    }))
    (λ (whole : length bs ≤ n). inl (subst IsUtf8 (take_all n bs whole) front.0))
    (cases_lt n (length bs))

drop_plus : (v ys : List ℕ) (n : ℕ) → drop (length v + n) (v ++ ys) ≡ drop n ys
drop_plus [] ys n = let e : 0 + n ≡ n = omega arith in ap (λ k. drop k ys) e
drop_plus (c ∷ v) ys n =
    let e : suc (length v) + n ≡ suc (length v + n) = omega arith in
    rw e (drop_plus v ys n)

take_plus : (v ys : List ℕ) (n : ℕ) → take (length v + n) (v ++ ys) ≡ v ++ take n ys
take_plus [] ys n = let e : 0 + n ≡ n = omega arith in ap (λ k. take k ys) e
take_plus (c ∷ v) ys n =
    let e : suc (length v) + n ≡ suc (length v + n) = omega arith in
    rw e (ap (λ z. c ∷ z) (take_plus v ys n))

-- what follows well-formed bytes in well-formed bytes is well formed
pub IsUtf8-after : (v t : List ℕ) → IsUtf8 v → IsUtf8 (v ++ t) → IsUtf8 t
IsUtf8-after v t front whole =
    let before = take_at v t (length v) refl in
    let boundary = IsCharBoundary-from_take (v ++ t) (length v) whole (omega (arith, length-append v t)) (rw before front) in
    rw (drop_at v t (length v) refl) at (IsUtf8-drop (v ++ t) (length v) whole boundary)

at_place : (v ys : List ℕ) (k m : ℕ) → m ≡ length v + k → IsUtf8 (take m (v ++ ys)) → IsUtf8 (v ++ take k ys)
at_place v ys k m e text = rw (take_plus v ys k) at (rw e at text)

longest_after : (v ys : List ℕ) (n m : ℕ) → IsUtf8 v → IsValidUpTo ys n → length v + n < m → IsUtf8 (take m (v ++ ys)) → ⊥
longest_after v ys n m front s more text =
    s.longest (m - length v) (omega arith) (IsUtf8-after v (take (m - length v) ys) front (at_place v ys (m - length v) m (omega arith) text))

pub IsValidUpTo-after : (v ys : List ℕ) (n : ℕ) → IsUtf8 v → IsValidUpTo ys n → IsValidUpTo (v ++ ys) (length v + n)
IsValidUpTo-after v ys n front s =
    let less = s.short in
    record {
      short = omega (arith, length-append v ys);
      front = rw (take_plus v ys n) (IsUtf8-append v (take n ys) front s.front);
      longest = λ m more text. longest_after v ys n m front s more text;
    }

-- well-formed bytes put in front
pub valid_len-after : (v ys : List ℕ) → IsUtf8 v → utf8_valid_len (v ++ ys) ≡ length v + utf8_valid_len ys
valid_len-after v ys front = ⊎_elim
    (λ text. utf8_valid_len-IsUtf8 (v ++ ys) (IsUtf8-append v ys front text) ∙ (length-append v ys ∙ ap (λ n. length v + n) (sym (utf8_valid_len-IsUtf8 ys text))))
    (λ up. utf8_valid_len-IsValidUpTo (v ++ ys) (length v + utf8_valid_len ys) (IsValidUpTo-after v ys (utf8_valid_len ys) front up))
    (utf8_cases ys)

pub front-after : (v ys : List ℕ) → IsUtf8 v → utf8_front (v ++ ys) ≡ v ++ utf8_front ys
front-after v ys front = rw (valid_len-after v ys front) (take_plus v ys (utf8_valid_len ys))

pub rest-after : (v ys : List ℕ) → IsUtf8 v → utf8_rest (v ++ ys) ≡ utf8_rest ys
rest-after v ys front = rw (valid_len-after v ys front) (drop_plus v ys (utf8_valid_len ys))

-- bytes as their longest well-formed front and the rest
pub front_and_rest : (xs : List ℕ) → utf8_front xs ++ utf8_rest xs ≡ xs
front_and_rest xs = take-append-drop (utf8_valid_len xs) xs

pub front_and_rest-append : (xs zs : List ℕ) → xs ++ zs ≡ utf8_front xs ++ (utf8_rest xs ++ zs)
front_and_rest-append xs zs = ap (λ t. t ++ zs) (sym (front_and_rest xs)) ∙ append_assoc (utf8_front xs) (utf8_rest xs) zs

pub length-front : (xs : List ℕ) → length (utf8_front xs) ≡ utf8_valid_len xs
length-front xs = let le = utf8_valid_len_le xs in length-take (utf8_valid_len xs) xs ∙ omega arith

-- no character begins the rest
pub rest-none : (xs : List ℕ) → utf8_valid_len (utf8_rest xs) ≡ 0
rest-none xs =
    let sum = valid_len-after (utf8_front xs) (utf8_rest xs) (front-IsUtf8 xs) in
    let same = ap utf8_valid_len (front_and_rest xs) in
    omega (arith, sum, same, length-front xs)

-- well-formed bytes have no rest
pub text_is_front : (xs : List ℕ) → IsUtf8 xs → (utf8_front xs ≡ xs) × (utf8_rest xs ≡ [])
text_is_front xs text =
    let n = utf8_valid_len-IsUtf8 xs text in
    (rw n (take_all (length xs) xs (omega arith)), rw n (drop_all (length xs) xs (omega arith)))

-- bytes that begin with no character, as they are
pub none_is_rest : (xs : List ℕ) → utf8_valid_len xs ≡ 0 → (utf8_front xs ≡ []) × (utf8_rest xs ≡ xs)
none_is_rest xs none = (rw none, rw none)
