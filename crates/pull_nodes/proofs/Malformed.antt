-- Bytes that no continuation makes well formed.
use Rattle.std.proofs.Common.{◌≡◌, ◌↔◌, ⊎_elim, ℕ, ◌<◌, ◌≤◌, Bool, true, false, List, [], ◌∷◌, ◌++◌, length, drop, Option, Some, None, is_some, refl, ap, ◌∙◌, sym, arith, append_assoc}
use Rattle.std.proofs.lemmas.Bool.{cases_Bool, cases_lt, cases_eq, and_parts}
use Rattle.std.proofs.lemmas.Bool.Decides.{nat_tests}
use Rattle.std.proofs.lemmas.Str.{IsUtf8-nil, IsUtf8-encode, length-encode, len_utf8_bounds}
use Rattle.std.specs.Char.{encode_utf8, IsScalar}
use Rattle.std.specs.Prelude.{IsUtf8}
use Rattle.std.specs.Str.{encode_utf8_all}
use Rattle.std.specs.Str.Lossy.{utf8_valid_len, utf8_error_len}
use lib.Utf8.{scalar, scalars}
use Rattle.pull_nodes.specs.Utf8.{utf8_front, utf8_rest, IsMalformed, is_malformed}
use Rattle.pull_nodes.proofs.Characters.{FitsSecond, fits_second, FitsSecond-from}
use Rattle.pull_nodes.proofs.Sequences.{is_lead, is_next, front-error_len, two-text, three-text, four-text}
use Rattle.pull_nodes.proofs.Utf8Cuts.{front-IsUtf8, valid_len-after, front_and_rest, length-front}

-- one list as the front of another
pub split_at : {A : Type 0} (l rest r more : List A) → l ++ rest ≡ r ++ more → length l ≤ length r → r ≡ l ++ drop (length l) r
split_at [] rest r more e le = refl
split_at (x ∷ l) rest [] more e le = absurd (omega arith)
split_at (x ∷ l) rest (y ∷ r) more e le =
    let head : x ≡ y = cc in
    let tail : l ++ rest ≡ r ++ more = cc in
    (λ i. sym head i ∷ split_at l rest r more tail (omega arith) i)

pub some_bytes : (c : ℕ) → 0 < length (encode_utf8 c)
some_bytes c = let least = (len_utf8_bounds c).0 in omega (arith, length-encode c)

-- bytes that begin with no character, where a continuation makes them begin with one
begins : (c : ℕ) (r more rest : List ℕ) → IsScalar c → encode_utf8 c ++ rest ≡ r ++ more → utf8_valid_len r ≡ 0 → utf8_error_len r ≡ None
begins c r more rest s e none =
    let l = encode_utf8 c in
    ⊎_elim (λ less. front-error_len c r more rest s e less)
    (λ le.
    let parts : r ≡ l ++ drop (length l) r = split_at l rest r more e le in
    let sum = valid_len-after l (drop (length l) r) (IsUtf8-encode c s) in
    let same = ap utf8_valid_len parts in
    let some = some_bytes c in
    absurd (omega (arith, sum, same, some, none)))
    (cases_lt (length r) (length l))

pub nil-error_len : utf8_error_len [] ≡ None
unfolding utf8_error_len
nil-error_len = refl

-- bytes that begin with no character, where a continuation makes them well formed
text_of : (cs r more : List ℕ) → scalars cs ≡ true → utf8_valid_len r ≡ 0 → encode_utf8_all cs ≡ r ++ more → utf8_error_len r ≡ None
text_of cs [] more s none e = nil-error_len
text_of [] (b ∷ r) more s none e = (cc)
text_of (c ∷ cs) (b ∷ r) more s none e = begins c (b ∷ r) more (encode_utf8_all cs) (and_parts (scalar c) (scalars cs) s).0 e none

pub not_malformed : (r : List ℕ) → utf8_error_len r ≡ None → is_malformed r ≡ true → ⊥
not_malformed r e t = let none = ap (λ (o : Option ℕ). is_some o) e in absurd (cc)

pub first_of_text : (cs v : List ℕ) → scalars cs ≡ true → encode_utf8_all cs ≡ v → 0 < length v → (c : ℕ) × (rest : List ℕ) × IsScalar c × (encode_utf8 c ++ rest ≡ v)
first_of_text [] v s e some = absurd (omega (arith, ap length e))
first_of_text (c ∷ cs) v s e some = (c, encode_utf8_all cs, (and_parts (scalar c) (scalars cs) s).0, e)

-- malformed bytes never begin with a character, whatever follows
pub malformed-none : (r more : List ℕ) → utf8_valid_len r ≡ 0 → is_malformed r ≡ true → utf8_valid_len (r ++ more) ≡ 0
malformed-none r more none bad = ⊎_elim
    (λ (some : 0 < utf8_valid_len (r ++ more)).
    let front = utf8_front (r ++ more) in
    let text = front-IsUtf8 (r ++ more) in
    let first = first_of_text text.0 front text.1.0 text.1.1 (omega (arith, length-front (r ++ more))) in
    let e : encode_utf8 first.0 ++ (first.1 ++ utf8_rest (r ++ more)) ≡ r ++ more =
    sym (append_assoc (encode_utf8 first.0) first.1 (utf8_rest (r ++ more))) ∙ ap (λ t. t ++ utf8_rest (r ++ more)) first.3 ∙ front_and_rest (r ++ more) in
    absurd (not_malformed r (begins first.0 r more (first.1 ++ utf8_rest (r ++ more)) first.2 e none) bad))
    (λ zero_at. omega arith)
    (cases_lt 0 (utf8_valid_len (r ++ more)))

one_stays : (t : Bool) (x : ℕ) (more : List ℕ) → is_lead x ≡ t → is_malformed (x ∷ []) ≡ true → utf8_error_len (x ∷ more) ≡ utf8_error_len (x ∷ [])
unfolding utf8_error_len
one_stays true x more t h = let k = rw t at h in absurd (cc)
one_stays false x more t h = rw t (grind (arith, nat_tests))

two_stay : (t u : Bool) (x y : ℕ) (more : List ℕ) → is_lead x ≡ t → fits_second x y ≡ u → is_malformed (x ∷ y ∷ []) ≡ true → utf8_error_len (x ∷ y ∷ more) ≡ utf8_error_len (x ∷ y ∷ [])
unfolding utf8_error_len
two_stay false u x y more t s h = rw t (grind (arith, nat_tests))
two_stay true true x y more t s h = let k = rw (t, s) at h in absurd (cc)
two_stay true false x y more t s h = rw (t, s) (grind (arith, nat_tests))

three_stay : (t u v : Bool) (x y z : ℕ) (more : List ℕ) → is_lead x ≡ t → fits_second x y ≡ u → is_next z ≡ v → is_malformed (x ∷ y ∷ z ∷ []) ≡ true
    → utf8_error_len (x ∷ y ∷ z ∷ more) ≡ utf8_error_len (x ∷ y ∷ z ∷ [])
unfolding utf8_error_len
three_stay false u v x y z more t s n h = rw t (grind (arith, nat_tests))
three_stay true false v x y z more t s n h = rw (t, s) (grind (arith, nat_tests))
three_stay true true true x y z more t s n h = let k = rw (t, s, n) at h in absurd (cc)
three_stay true true false x y z more t s n h = rw (t, s, n) (grind (arith, nat_tests))

four_stay : (x y z w : ℕ) (r more : List ℕ) → utf8_error_len (x ∷ y ∷ z ∷ w ∷ (r ++ more)) ≡ utf8_error_len (x ∷ y ∷ z ∷ w ∷ r)
unfolding utf8_error_len
four_stay x y z w r more = grind (arith, nat_tests)

-- what is at fault stays so, whatever follows
pub error_len-append : (r more : List ℕ) → is_malformed r ≡ true → utf8_error_len (r ++ more) ≡ utf8_error_len r
error_len-append [] more h = absurd (not_malformed [] nil-error_len h)
error_len-append (x ∷ []) more h = one_stays (is_lead x) x more refl h
error_len-append (x ∷ y ∷ []) more h = two_stay (is_lead x) (fits_second x y) x y more refl refl h
error_len-append (x ∷ y ∷ z ∷ []) more h = three_stay (is_lead x) (fits_second x y) (is_next z) x y z more refl refl refl h
error_len-append (x ∷ y ∷ z ∷ w ∷ r) more h = four_stay x y z w r more

-- what completes bytes that are no character and aren't at fault
abbrev Completes : List ℕ → Type 0
Completes r = (more : List ℕ) × IsUtf8 (r ++ more)

in_range_next : (z : ℕ) → is_next z ≡ true → (128 ≤ z) × (z < 192)
in_range_next z h = (grind (arith, nat_tests), grind (arith, nat_tests))

in_range_lead : (x : ℕ) → is_lead x ≡ true → (194 ≤ x) × (x < 245)
in_range_lead x h = (grind (arith, nat_tests), grind (arith, nat_tests))

-- a second byte behind each first byte
plain_second : (x : ℕ) → (x ≡ 224 → ⊥) → (x ≡ 240 → ⊥) → FitsSecond x 128
plain_second x not_e0 not_f0 = record {
  low = omega arith;
  high = omega arith;
  not_short = λ e. absurd (not_e0 e);
  no_surrogate = λ e. omega arith;
  not_long = λ e. absurd (not_f0 e);
  in_range = λ e. omega arith;
}

second_of_e0 : (x : ℕ) → x ≡ 224 → FitsSecond x 160
second_of_e0 x at = record {
  low = omega arith;
  high = omega arith;
  not_short = λ e. omega arith;
  no_surrogate = λ e. omega arith;
  not_long = λ e. omega arith;
  in_range = λ e. omega arith;
}

second_of_f0 : (x : ℕ) → x ≡ 240 → FitsSecond x 144
second_of_f0 x at = record {
  low = omega arith;
  high = omega arith;
  not_short = λ e. omega arith;
  no_surrogate = λ e. omega arith;
  not_long = λ e. omega arith;
  in_range = λ e. omega arith;
}

complete_two : (x y : ℕ) → is_lead x ≡ true → fits_second x y ≡ true → (x < 224 → ⊥) → Completes (x ∷ y ∷ [])
complete_two x y l s no_two =
    let lead = in_range_lead x l in
    ⊎_elim (λ (below : x < 240). (128 ∷ [], three-text x y 128 (⊎_elim (λ two. absurd (no_two two)) (λ le. le) (cases_lt x 224)) below (FitsSecond-from x y s) (omega arith) (omega arith)))
    (λ (above : 240 ≤ x). (128 ∷ 128 ∷ [], four-text x y 128 128 above lead.1 (FitsSecond-from x y s) (omega arith) (omega arith) (omega arith) (omega arith)))
    (cases_lt x 240)

complete_first : (x y : ℕ) → is_lead x ≡ true → 224 ≤ x → FitsSecond x y → Completes (x ∷ [])
complete_first x y l le s =
    let lead = in_range_lead x l in
    ⊎_elim (λ (below : x < 240). (y ∷ 128 ∷ [], three-text x y 128 le below s (omega arith) (omega arith)))
    (λ (above : 240 ≤ x). (y ∷ 128 ∷ 128 ∷ [], four-text x y 128 128 above lead.1 s (omega arith) (omega arith) (omega arith) (omega arith)))
    (cases_lt x 240)

complete_one : (x : ℕ) → is_lead x ≡ true → Completes (x ∷ [])
complete_one x l =
    let lead = in_range_lead x l in
    ⊎_elim (λ (two : x < 224). (128 ∷ [], two-text x 128 lead.0 two (omega arith) (omega arith)))
    (λ (le : 224 ≤ x).
    ⊎_elim (λ (e0 : x ≡ 224). complete_first x 160 l le (second_of_e0 x e0))
    (λ not_e0. ⊎_elim (λ (f0 : x ≡ 240). complete_first x 144 l le (second_of_f0 x f0))
    (λ not_f0. complete_first x 128 l le (plain_second x not_e0 not_f0))
    (cases_eq x 240))
    (cases_eq x 224))
    (cases_lt x 224)

complete_three : (x y z : ℕ) → is_lead x ≡ true → fits_second x y ≡ true → is_next z ≡ true → 240 ≤ x → Completes (x ∷ y ∷ z ∷ [])
complete_three x y z l s n le =
    let lead = in_range_lead x l in let next = in_range_next z n in
    (128 ∷ [], four-text x y z 128 le lead.1 (FitsSecond-from x y s) next.0 next.1 (omega arith) (omega arith))

-- two or three bytes that are a character begin with one
two_begin : (x y : ℕ) (r : List ℕ) → is_lead x ≡ true → fits_second x y ≡ true → x < 224 → utf8_valid_len (x ∷ y ∷ r) ≡ 0 → ⊥
two_begin x y r l s two none =
    let lead = in_range_lead x l in let fits = FitsSecond-from x y s in
    let sum = valid_len-after (x ∷ y ∷ []) r (two-text x y lead.0 two fits.low fits.high) in
    omega (arith, sum, none)

three_begin : (x y z : ℕ) (r : List ℕ) → fits_second x y ≡ true → is_next z ≡ true → 224 ≤ x → x < 240 → utf8_valid_len (x ∷ y ∷ z ∷ r) ≡ 0 → ⊥
three_begin x y z r s n le three none =
    let next = in_range_next z n in
    let sum = valid_len-after (x ∷ y ∷ z ∷ []) r (three-text x y z le three (FitsSecond-from x y s) next.0 next.1) in
    omega (arith, sum, none)

one_completes : (t : Bool) (x : ℕ) → is_lead x ≡ t → utf8_error_len (x ∷ []) ≡ None → Completes (x ∷ [])
unfolding utf8_error_len
one_completes true x t e = complete_one x t
one_completes false x t e = let k = rw t at e in absurd (cc)

two_complete : (t u : Bool) (x y : ℕ) → is_lead x ≡ t → fits_second x y ≡ u → utf8_error_len (x ∷ y ∷ []) ≡ None → utf8_valid_len (x ∷ y ∷ []) ≡ 0 → Completes (x ∷ y ∷ [])
unfolding utf8_error_len
two_complete false u x y t s e none = let k = rw t at e in absurd (cc)
two_complete true false x y t s e none = let k = rw (t, s) at e in absurd (cc)
two_complete true true x y t s e none = complete_two x y t s (λ two. two_begin x y [] t s two none)

three_complete : (t u v : Bool) (x y z : ℕ) → is_lead x ≡ t → fits_second x y ≡ u → is_next z ≡ v → utf8_error_len (x ∷ y ∷ z ∷ []) ≡ None → utf8_valid_len (x ∷ y ∷ z ∷ []) ≡ 0 → Completes (x ∷ y ∷ z ∷ [])
unfolding utf8_error_len
three_complete false u v x y z t s n e none = let k = rw t at e in absurd (cc)
three_complete true false v x y z t s n e none = let k = rw (t, s) at e in absurd (cc)
three_complete true true false x y z t s n e none = let k = rw (t, s, n) at e in absurd (cc)
three_complete true true true x y z t s n e none =
    ⊎_elim (λ (below : x < 240).
    ⊎_elim (λ (two : x < 224). absurd (two_begin x y (z ∷ []) t s two none)) (λ (le : 224 ≤ x). absurd (three_begin x y z [] s n le below none)) (cases_lt x 224))
    (λ (above : 240 ≤ x). complete_three x y z t s n above)
    (cases_lt x 240)

-- four bytes are never an unfinished character
pub four_error : (t u v : Bool) (x y z w : ℕ) (r : List ℕ) → is_lead x ≡ t → fits_second x y ≡ u → is_next z ≡ v → utf8_error_len (x ∷ y ∷ z ∷ w ∷ r) ≡ None → ⊥
unfolding utf8_error_len
four_error false u v x y z w r t s n e = grind (arith, nat_tests)
four_error true false v x y z w r t s n e = grind (arith, nat_tests)
four_error true true false x y z w r t s n e = grind (arith, nat_tests)
four_error true true true x y z w r t s n e = grind (arith, nat_tests)

pub completes : (r : List ℕ) → utf8_valid_len r ≡ 0 → utf8_error_len r ≡ None → (more : List ℕ) × IsUtf8 (r ++ more)
completes [] none e = ([], IsUtf8-nil)
completes (x ∷ []) none e = one_completes (is_lead x) x refl e
completes (x ∷ y ∷ []) none e = two_complete (is_lead x) (fits_second x y) x y refl refl e none
completes (x ∷ y ∷ z ∷ []) none e = three_complete (is_lead x) (fits_second x y) (is_next z) x y z refl refl refl e none
completes (x ∷ y ∷ z ∷ w ∷ r) none e = absurd (four_error (is_lead x) (fits_second x y) (is_next z) x y z w r refl refl refl e)

pub none_unless : (o : Option ℕ) → is_some o ≡ false → o ≡ None
none_unless None h = refl
none_unless (Some n) h = (cc)

-- the test is the fact, of bytes that begin with no character
pub malformed_is : (r : List ℕ) → utf8_valid_len r ≡ 0 → (is_malformed r ≡ true) ↔ IsMalformed r
malformed_is r none = (
  λ bad more text. not_malformed r (text_of text.0 r more text.1.0 none text.1.1) bad,
  λ never. ⊎_elim (λ bad. bad) (λ fine. let done = completes r none (none_unless (utf8_error_len r) fine) in absurd (never done.0 done.1)) (cases_Bool (is_malformed r)),
)
