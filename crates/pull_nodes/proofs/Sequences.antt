-- Fronts of characters: what the standard library says of them, and what completes them.
use Rattle.std.proofs.Common.{◌≡◌, ◌⊎◌, inl, inr, ⊎_elim, ℕ, zero, suc, ◌+◌, ◌-◌, ◌*◌, ◌/◌, ◌%◌, ◌<◌, ◌≤◌, Bool, true, List, [], ◌∷◌, ◌++◌, length, slice_index, None, refl, ap, sym, ◌∙◌, subst, arith}
use Rattle.std.proofs.lemmas.Bool.{cases_lt, cases_eq}
use Rattle.std.proofs.lemmas.Bool.Decides.{nat_tests}
use Rattle.std.proofs.lemmas.List.{get_or_append_left}
use Rattle.std.proofs.lemmas.Str.{IsUtf8-encode}
use Rattle.std.specs.Char.{encode_utf8, IsScalar}
use Rattle.std.specs.Int.{is_in_range}
use Rattle.std.specs.Prelude.{IsUtf8}
use Rattle.std.specs.Str.Lossy.{utf8_error_len}
use lib.Utf8.{scalar_cases, low_scalar}
use Rattle.pull_nodes.proofs.Characters.{encode_one, encode_two, encode_three, encode_four, FitsSecond, fits_second, fits_second-from}

-- x may stand first of more bytes than one
abbrev pub is_lead : ℕ → Bool
is_lead x = is_in_range 0xC2 0xF4 x

-- z may stand third or fourth
abbrev pub is_next : ℕ → Bool
is_next z = is_in_range 0x80 0xBF z

-- bytes of which a continuation makes a character
pub unfinished-error_len : (r : List ℕ) → length r < 4 → (0 < length r → is_lead (slice_index r 0) ≡ true)
    → (1 < length r → fits_second (slice_index r 0) (slice_index r 1) ≡ true) → (2 < length r → is_next (slice_index r 2) ≡ true) → utf8_error_len r ≡ None
unfolding utf8_error_len
unfinished-error_len [] l f s t = refl
unfinished-error_len (x ∷ []) l f s t = rw (f (omega arith))
unfinished-error_len (x ∷ y ∷ []) l f s t = rw (f (omega arith), s (omega arith))
unfinished-error_len (x ∷ y ∷ z ∷ []) l f s t = rw (f (omega arith), s (omega arith), t (omega arith))
unfinished-error_len (x ∷ y ∷ z ∷ w ∷ r) l f s t = absurd (omega arith)

-- the bytes begin with the n bytes of a character
record Shaped (l : List ℕ) (n : ℕ) : Type 0 where
  most : n < 5
  first : 1 < n → is_lead (slice_index l 0) ≡ true
  second : 2 < n → fits_second (slice_index l 0) (slice_index l 1) ≡ true
  third : 3 < n → is_next (slice_index l 2) ≡ true

lead_from : (x : ℕ) → 194 ≤ x → x < 245 → is_lead x ≡ true
lead_from x l h = grind (arith, nat_tests)

next_from : (x : ℕ) → 128 ≤ x → x < 192 → is_next x ≡ true
next_from x l h = grind (arith, nat_tests)

shaped_two : (c : ℕ) (rest : List ℕ) → 128 ≤ c → c < 2048 → Shaped ((192 + c / 64) ∷ (128 + c % 64) ∷ rest) 2
shaped_two c rest l h = record {
  most = omega arith;
  first = λ _. lead_from (192 + c / 64) (omega arith) (omega arith);
  second = λ (k : 2 < 2). absurd (omega arith);
  third = λ (k : 3 < 2). absurd (omega arith);
}

second_of_three : (c : ℕ) → 2048 ≤ c → c < 65536 → (c < 55296) ⊎ ((57344 ≤ c) × (c < 1114112)) → FitsSecond (224 + c / 4096) (128 + c / 64 % 64)
second_of_three c l h s = record {
  low = omega arith;
  high = omega arith;
  not_short = λ e. omega arith;
  no_surrogate = λ e. ⊎_elim (λ p. omega arith) (λ p. omega arith) s;
  not_long = λ e. omega arith;
  in_range = λ e. omega arith;
}

shaped_three : (c : ℕ) (rest : List ℕ) → 2048 ≤ c → c < 65536 → (c < 55296) ⊎ ((57344 ≤ c) × (c < 1114112)) → Shaped ((224 + c / 4096) ∷ (128 + c / 64 % 64) ∷ (128 + c % 64) ∷ rest) 3
shaped_three c rest l h s = record {
  most = omega arith;
  first = λ _. lead_from (224 + c / 4096) (omega arith) (omega arith);
  second = λ _. fits_second-from (224 + c / 4096) (128 + c / 64 % 64) (second_of_three c l h s);
  third = λ (k : 3 < 3). absurd (omega arith);
}

second_of_four : (c : ℕ) → 65536 ≤ c → c < 1114112 → FitsSecond (240 + c / 262144) (128 + c / 4096 % 64)
second_of_four c l h = record {
  low = omega arith;
  high = omega arith;
  not_short = λ e. omega arith;
  no_surrogate = λ e. omega arith;
  not_long = λ e. omega arith;
  in_range = λ e. omega arith;
}

shaped_four : (c : ℕ) (rest : List ℕ) → 65536 ≤ c → c < 1114112 → Shaped ((240 + c / 262144) ∷ (128 + c / 4096 % 64) ∷ (128 + c / 64 % 64) ∷ (128 + c % 64) ∷ rest) 4
shaped_four c rest l h = record {
  most = omega arith;
  first = λ _. lead_from (240 + c / 262144) (omega arith) (omega arith);
  second = λ _. fits_second-from (240 + c / 262144) (128 + c / 4096 % 64) (second_of_four c l h);
  third = λ _. next_from (128 + c / 64 % 64) (omega arith) (omega arith);
}

shaped_one : (c : ℕ) (rest : List ℕ) → Shaped (c ∷ rest) 1
shaped_one c rest = record {
  most = omega arith;
  first = λ (k : 1 < 1). absurd (omega arith);
  second = λ (k : 2 < 1). absurd (omega arith);
  third = λ (k : 3 < 1). absurd (omega arith);
}

shaped : (c : ℕ) (rest : List ℕ) → (c < 55296) ⊎ ((57344 ≤ c) × (c < 1114112)) → Shaped (encode_utf8 c ++ rest) (length (encode_utf8 c))
shaped c rest s =
    let P : List ℕ → Type 0 = λ p. Shaped (p ++ rest) (length p) in
    ⊎_elim (λ a. subst P (sym (encode_one c a)) (shaped_one c rest))
    (λ a. ⊎_elim (λ b. subst P (sym (encode_two c a b)) (shaped_two c rest a b))
    (λ b. ⊎_elim (λ d. subst P (sym (encode_three c b d)) (shaped_three c rest b d s))
    (λ d. subst P (sym (encode_four c d)) (shaped_four c rest d (⊎_elim (λ p. omega arith) (λ p. p.1) s)))
    (cases_lt c 65536))
    (cases_lt c 2048))
    (cases_lt c 128)

at_front : (r more l : List ℕ) (i : ℕ) → l ≡ r ++ more → i < length r → slice_index l i ≡ slice_index r i
at_front r more l i e h = ap (λ t. slice_index t i) e ∙ get_or_append_left r more 0 i h

-- a front of a character that lacks some of its bytes
pub front-error_len : (c : ℕ) (r more rest : List ℕ) → IsScalar c → encode_utf8 c ++ rest ≡ r ++ more → length r < length (encode_utf8 c) → utf8_error_len r ≡ None
front-error_len c r more rest s e less =
    let l = encode_utf8 c ++ rest in
    let shape = shaped c rest (scalar_cases c s) in
    let most = shape.most in
    unfinished-error_len r (omega arith)
    (λ h. rw (at_front r more l 0 e h) at (shape.first (omega arith)))
    (λ h. let zero_lt : 0 < length r = omega arith in rw (at_front r more l 0 e zero_lt, at_front r more l 1 e h) at (shape.second (omega arith)))
    (λ h. rw (at_front r more l 2 e h) at (shape.third (omega arith)))

-- bytes in the ranges of a character are one
high_scalar : (c : ℕ) → 57344 ≤ c → c < 1114112 → IsScalar c
high_scalar c l h = grind (arith, nat_tests)

text_of : (c : ℕ) (bytes : List ℕ) → IsScalar c → encode_utf8 c ≡ bytes → IsUtf8 bytes
text_of c bytes s e = subst IsUtf8 e (IsUtf8-encode c s)

pub two-text : (x y : ℕ) → 194 ≤ x → x < 224 → 128 ≤ y → y < 192 → IsUtf8 (x ∷ y ∷ [])
two-text x y l h f g =
    let c = (x - 192) * 64 + (y - 128) in
    let p : 192 + c / 64 ≡ x = omega arith in
    let q : 128 + c % 64 ≡ y = omega arith in
    text_of c _ (low_scalar c (omega arith)) (encode_two c (omega arith) (omega arith) ∙ (λ i. p i ∷ q i ∷ []))

three_scalar : (c : ℕ) → (c < 55296) ⊎ (57344 ≤ c) → c < 65536 → IsScalar c
three_scalar c s h = ⊎_elim (low_scalar c) (λ p. high_scalar c p (omega arith)) s

three_range : (x y z : ℕ) → 224 ≤ x → x < 240 → FitsSecond x y → 128 ≤ z → z < 192
    → let c = (x - 224) * 4096 + (y - 128) * 64 + (z - 128) in (c < 55296) ⊎ (57344 ≤ c)
three_range x y z l h s f g =
    let low = s.low in let high = s.high in let surrogate = s.no_surrogate in
    ⊎_elim (λ below. inl (omega arith)) (λ above. ⊎_elim (λ (at : x ≡ 237). inl (omega (arith, surrogate at))) (λ other. inr (omega arith)) (cases_eq x 237)) (cases_lt x 237)

-- not in fewer bytes, and not above the greatest character
least_three : (x y z : ℕ) → 224 ≤ x → FitsSecond x y → 2048 ≤ (x - 224) * 4096 + (y - 128) * 64 + (z - 128)
least_three x y z l s = let low = s.not_short in ⊎_elim (λ (at : x ≡ 224). omega (arith, low at)) (λ other. omega arith) (cases_eq x 224)

least_four : (x y z w : ℕ) → 240 ≤ x → FitsSecond x y → 65536 ≤ (x - 240) * 262144 + (y - 128) * 4096 + (z - 128) * 64 + (w - 128)
least_four x y z w l s = let low = s.not_long in ⊎_elim (λ (at : x ≡ 240). omega (arith, low at)) (λ other. omega arith) (cases_eq x 240)

most_four : (x y z w : ℕ) → 240 ≤ x → x < 245 → FitsSecond x y → z < 192 → w < 192 → (x - 240) * 262144 + (y - 128) * 4096 + (z - 128) * 64 + (w - 128) < 1114112
most_four x y z w l h s g k =
    let high = s.high in let within = s.in_range in
    ⊎_elim (λ (at : x ≡ 244). omega (arith, within at)) (λ other. omega arith) (cases_eq x 244)

pub three-text : (x y z : ℕ) → 224 ≤ x → x < 240 → FitsSecond x y → 128 ≤ z → z < 192 → IsUtf8 (x ∷ y ∷ z ∷ [])
three-text x y z l h s f g =
    let low = s.low in let high = s.high in
    let c = (x - 224) * 4096 + (y - 128) * 64 + (z - 128) in
    let p : 224 + c / 4096 ≡ x = omega arith in
    let q : 128 + c / 64 % 64 ≡ y = omega arith in
    let r : 128 + c % 64 ≡ z = omega arith in
    let least : 2048 ≤ c = least_three x y z l s in
    let most : c < 65536 = omega arith in
    text_of c _ (three_scalar c (three_range x y z l h s f g) most) (encode_three c least most ∙ (λ i. p i ∷ q i ∷ r i ∷ []))

pub four-text : (x y z w : ℕ) → 240 ≤ x → x < 245 → FitsSecond x y → 128 ≤ z → z < 192 → 128 ≤ w → w < 192 → IsUtf8 (x ∷ y ∷ z ∷ w ∷ [])
four-text x y z w l h s f g j k =
    let low = s.low in let high = s.high in
    let c = (x - 240) * 262144 + (y - 128) * 4096 + (z - 128) * 64 + (w - 128) in
    let p : 240 + c / 262144 ≡ x = omega arith in
    let q : 128 + c / 4096 % 64 ≡ y = omega arith in
    let r : 128 + c / 64 % 64 ≡ z = omega arith in
    let t : 128 + c % 64 ≡ w = omega arith in
    let least : 65536 ≤ c = least_four x y z w l s in
    let most : c < 1114112 = most_four x y z w l h s g k in
    text_of c _ (high_scalar c (omega arith) most) (encode_four c least ∙ (λ i. p i ∷ q i ∷ r i ∷ t i ∷ []))

-- every byte of a character but the first can't stand first
follow_two : (x y : ℕ) (rest : List ℕ) (i : ℕ) → y < 192 → 0 < i → i < 2 → slice_index (x ∷ y ∷ rest) i < 192
follow_two x y rest zero g l h = absurd (omega arith)
follow_two x y rest (suc zero) g l h = g
follow_two x y rest (suc (suc i)) g l h = absurd (omega arith)

follow_three : (x y z : ℕ) (rest : List ℕ) (i : ℕ) → y < 192 → z < 192 → 0 < i → i < 3 → slice_index (x ∷ y ∷ z ∷ rest) i < 192
follow_three x y z rest zero f g l h = absurd (omega arith)
follow_three x y z rest (suc i) f g l h = ⊎_elim (λ some. follow_two y z rest i g some (omega arith)) (λ none. let is : i ≡ 0 = omega arith in rw is f) (cases_lt 0 i)

follow_four : (x y z w : ℕ) (rest : List ℕ) (i : ℕ) → y < 192 → z < 192 → w < 192 → 0 < i → i < 4 → slice_index (x ∷ y ∷ z ∷ w ∷ rest) i < 192
follow_four x y z w rest zero e f g l h = absurd (omega arith)
follow_four x y z w rest (suc i) e f g l h = ⊎_elim (λ some. follow_three y z w rest i f g some (omega arith)) (λ none. let is : i ≡ 0 = omega arith in rw is e) (cases_lt 0 i)

pub follows : (c : ℕ) (rest : List ℕ) (i : ℕ) → 0 < i → i < length (encode_utf8 c) → slice_index (encode_utf8 c ++ rest) i < 192
follows c rest i some less =
    let P : List ℕ → Type 0 = λ p. i < length p → slice_index (p ++ rest) i < 192 in
    ⊎_elim (λ a. subst P (sym (encode_one c a)) (λ (l : i < 1). absurd (omega arith)))
    (λ a. ⊎_elim (λ b. subst P (sym (encode_two c a b)) (λ (l : i < 2). follow_two (192 + c / 64) (128 + c % 64) rest i (omega arith) some l))
    (λ b. ⊎_elim (λ d. subst P (sym (encode_three c b d)) (λ (l : i < 3). follow_three (224 + c / 4096) (128 + c / 64 % 64) (128 + c % 64) rest i (omega arith) (omega arith) some l))
    (λ d. subst P (sym (encode_four c d)) (λ (l : i < 4). follow_four (240 + c / 262144) (128 + c / 4096 % 64) (128 + c / 64 % 64) (128 + c % 64) rest i (omega arith) (omega arith) (omega arith) some l))
    (cases_lt c 65536))
    (cases_lt c 2048))
    (cases_lt c 128) less
