-- The lossy reading of one list of bytes behind another.
use Rattle.std.proofs.Common.{◌≡◌, ◌⊎◌, inl, inr, ⊎_elim, ℕ, zero, suc, ◌<◌, ◌≤◌, Bool, true, false, cond, List, [], ◌∷◌, ◌++◌, map, length, take, drop, slice_index, Option, Some, None, is_some, refl, ap, ◌∙◌, sym, subst, arith, append_assoc, length-append}
use Rattle.std.proofs.lemmas.Bool.{cases_Bool, cases_lt}
use Rattle.std.proofs.lemmas.Bool.Decides.{nat_tests}
use Rattle.std.proofs.lemmas.Grind.{common_steps}
use Rattle.std.proofs.lemmas.List.{append-nil, map-append, drop_all, drop_at, take-append-drop, drop-append-le, length-take, length-drop}
use Rattle.std.proofs.lemmas.Str.{IsUtf8-append, IsUtf8-nil, IsUtf8-encode, utf8_lossy-IsUtf8, utf8_lossy_chunk}
use Rattle.std.specs.Prelude.{IsUtf8, unwrap_or}
use Rattle.std.specs.Char.{encode_utf8, IsScalar}
use Rattle.std.specs.Str.Lossy.{utf8_valid_len, utf8_error_len, utf8_invalid_len, utf8_lossy, replacement_bytes}
use Rattle.chunk_core.specs.Elements.{Byte}
use Rattle.pull_nodes.specs.PipeRule.{without_fault}
use Rattle.pull_nodes.specs.Utf8.{utf8_front, utf8_rest, is_malformed, is_unfinished, finished_front, unfinished_rest}
use Rattle.pull_nodes.proofs.Characters.{fits_second}
use Rattle.pull_nodes.proofs.Sequences.{is_lead, is_next, follows}
use Rattle.pull_nodes.proofs.Malformed.{malformed-none, error_len-append, none_unless, split_at, first_of_text, some_bytes, four_error}
use Rattle.pull_nodes.proofs.Utf8Cuts.{utf8_cases, front-IsUtf8, valid_len-after, rest-after, front_and_rest, length-front, rest-none, none_is_rest}
use Rattle.pull_nodes.proofs.LossyLaws.{IsOpen, is_unfinished-from, finished_front-append, finished_and_rest, rest-IsOpen, finished_front-less, finished-suffix}
use Rattle.pull_nodes.proofs.Steady.{SteadyBy, faultless}

-- what one U+FFFD stands for
pub invalid_len-bounds : (r : List ℕ) → 0 < length r → (0 < utf8_invalid_len r) × (utf8_invalid_len r ≤ length r)
unfolding utf8_error_len
invalid_len-bounds r some = (grind (arith, common_steps, nat_tests), grind (arith, common_steps, nat_tests))

-- well-formed bytes, and then bytes that begin with no character
pub lossy-at : (v r : List ℕ) → IsUtf8 v → utf8_valid_len r ≡ 0 → 0 < length r → utf8_lossy (v ++ r) ≡ v ++ (replacement_bytes ++ utf8_lossy (drop (utf8_invalid_len r) r))
lossy-at v r text none some =
    let k = utf8_invalid_len r in
    let bounds = invalid_len-bounds r some in
    let len = valid_len-after v r text in
    let rest : drop (utf8_valid_len (v ++ r)) (v ++ r) ≡ r = rest-after v r text ∙ (none_is_rest r none).1 in
    utf8_lossy_chunk (v ++ r) v (take k r) (drop k r)
    (ap (λ t. v ++ t) (sym (take-append-drop k r)))
    (omega (arith, len, none))
    (let e = ap utf8_invalid_len rest in omega (arith, e, bounds.1, length-take k r))
    (omega (arith, bounds.0, bounds.1, length-take k r))

pub lossy-nil : utf8_lossy [] ≡ []
lossy-nil = utf8_lossy-IsUtf8 [] IsUtf8-nil

rest_some : (t : List ℕ) → utf8_valid_len t < length t → 0 < length (utf8_rest t)
rest_some t less = omega (arith, length-drop (utf8_valid_len t) t)

-- well-formed bytes in front
pub lossy-text : (v t : List ℕ) → IsUtf8 v → utf8_lossy (v ++ t) ≡ v ++ utf8_lossy t
lossy-text v t text = ⊎_elim
    (λ u. utf8_lossy-IsUtf8 (v ++ t) (IsUtf8-append v t text u) ∙ ap (λ l. v ++ l) (sym (utf8_lossy-IsUtf8 t u)))
    (λ up.
    let f = utf8_front t in
    let r = utf8_rest t in
    let some = rest_some t up.short in
    let after = replacement_bytes ++ utf8_lossy (drop (utf8_invalid_len r) r) in
    let whole : v ++ t ≡ (v ++ f) ++ r = ap (λ l. v ++ l) (sym (front_and_rest t)) ∙ sym (append_assoc v f r) in
    let alone : utf8_lossy t ≡ f ++ after = ap utf8_lossy (sym (front_and_rest t)) ∙ lossy-at f r (front-IsUtf8 t) (rest-none t) some in
    ap utf8_lossy whole ∙ (lossy-at (v ++ f) r (IsUtf8-append v f text (front-IsUtf8 t)) (rest-none t) some ∙ (append_assoc v f after ∙ ap (λ l. v ++ l) (sym alone))))
    (utf8_cases t)

same_len : (o : Option ℕ) (m n : ℕ) → is_some o ≡ true → unwrap_or o m ≡ unwrap_or o n
same_len None m n h = (cc)
same_len (Some k) m n h = refl

-- bytes at fault, whatever follows
invalid_len-append : (r t : List ℕ) → is_malformed r ≡ true → utf8_invalid_len (r ++ t) ≡ utf8_invalid_len r
invalid_len-append r t bad = ap (λ o. unwrap_or o (length (r ++ t))) (error_len-append r t bad) ∙ same_len (utf8_error_len r) (length (r ++ t)) (length r) bad

some_malformed : (r : List ℕ) → is_malformed r ≡ true → 0 < length r
unfolding utf8_error_len
some_malformed [] bad = (cc)
some_malformed (b ∷ r) bad = omega arith

-- nothing, or a byte that only stands first
abbrev pub StartsAnew : List ℕ → Type 0
StartsAnew [] = Unit {0}
StartsAnew (b ∷ t) = 194 ≤ b

next_not : (b : ℕ) → 194 ≤ b → is_next b ≡ false
next_not b h = grind (arith, nat_tests)

fits_not : (x b : ℕ) → 194 ≤ b → fits_second x b ≡ false
fits_not x b h = grind (arith, common_steps, nat_tests)

-- an unfinished character that another one follows
cut_one : (t : Bool) (x b : ℕ) (l : List ℕ) → is_lead x ≡ t → utf8_error_len (x ∷ []) ≡ None → 194 ≤ b → utf8_error_len (x ∷ b ∷ l) ≡ Some 1
unfolding utf8_error_len
cut_one true x b l t e h = rw (t, fits_not x b h) (grind (arith, nat_tests))
cut_one false x b l t e h = let k = rw t at e in absurd (cc)

cut_two : (t u : Bool) (x y b : ℕ) (l : List ℕ) → is_lead x ≡ t → fits_second x y ≡ u → utf8_error_len (x ∷ y ∷ []) ≡ None → 194 ≤ b → utf8_error_len (x ∷ y ∷ b ∷ l) ≡ Some 2
unfolding utf8_error_len
cut_two false u x y b l t s e h = let k = rw t at e in absurd (cc)
cut_two true false x y b l t s e h = let k = rw (t, s) at e in absurd (cc)
cut_two true true x y b l t s e h = rw (t, s, next_not b h) (grind (arith, nat_tests))

cut_three : (t u v : Bool) (x y z b : ℕ) (l : List ℕ) → is_lead x ≡ t → fits_second x y ≡ u → is_next z ≡ v → utf8_error_len (x ∷ y ∷ z ∷ []) ≡ None → utf8_error_len (x ∷ y ∷ z ∷ b ∷ l) ≡ Some 3
unfolding utf8_error_len
cut_three false u v x y z b l t s n e = let k = rw t at e in absurd (cc)
cut_three true false v x y z b l t s n e = let k = rw (t, s) at e in absurd (cc)
cut_three true true false x y z b l t s n e = let k = rw (t, s, n) at e in absurd (cc)
cut_three true true true x y z b l t s n e = rw (t, s, n) (grind (arith, nat_tests))

cut_error_len : (r : List ℕ) (b : ℕ) (l : List ℕ) → 0 < length r → utf8_error_len r ≡ None → 194 ≤ b → utf8_error_len (r ++ b ∷ l) ≡ Some (length r)
cut_error_len [] b l some e h = absurd (omega arith)
cut_error_len (x ∷ []) b l some e h = cut_one (is_lead x) x b l refl e h
cut_error_len (x ∷ y ∷ []) b l some e h = cut_two (is_lead x) (fits_second x y) x y b l refl refl e h
cut_error_len (x ∷ y ∷ z ∷ []) b l some e h = cut_three (is_lead x) (fits_second x y) (is_next z) x y z b l refl refl refl e
cut_error_len (x ∷ y ∷ z ∷ w ∷ r) b l some e h = absurd (four_error (is_lead x) (fits_second x y) (is_next z) x y z w r refl refl refl e)

at_seam : (r : List ℕ) (b : ℕ) (l : List ℕ) → slice_index (r ++ b ∷ l) (length r) ≡ b
at_seam [] b l = refl
at_seam (x ∷ r) b l = at_seam r b l

cut_by : (c : ℕ) (r rest : List ℕ) (b : ℕ) (l : List ℕ) → IsScalar c → encode_utf8 c ++ rest ≡ r ++ b ∷ l → 0 < length r → utf8_valid_len r ≡ 0 → 194 ≤ b → ⊥
cut_by c r rest b l s e some none h = ⊎_elim
    (λ (less : length r < length (encode_utf8 c)).
    let low = follows c rest (length r) some less in
    let same : slice_index (encode_utf8 c ++ rest) (length r) ≡ b = ap (λ t. slice_index t (length r)) e ∙ at_seam r b l in
    omega (arith, low, same))
    (λ (le : length (encode_utf8 c) ≤ length r).
    let w = encode_utf8 c in
    let parts = split_at w rest r (b ∷ l) e le in
    let sum = valid_len-after w (drop (length w) r) (IsUtf8-encode c s) in
    let same = ap utf8_valid_len parts in
    let one = some_bytes c in
    omega (arith, sum, same, one, none))
    (cases_lt (length r) (length (encode_utf8 c)))

cut_none : (r : List ℕ) (b : ℕ) (l : List ℕ) → 0 < length r → utf8_valid_len r ≡ 0 → 194 ≤ b → utf8_valid_len (r ++ b ∷ l) ≡ 0
cut_none r b l some none h = ⊎_elim
    (λ (more : 0 < utf8_valid_len (r ++ b ∷ l)).
    let whole = r ++ b ∷ l in
    let front = utf8_front whole in
    let text = front-IsUtf8 whole in
    let first = first_of_text text.0 front text.1.0 text.1.1 (omega (arith, length-front whole)) in
    let e : encode_utf8 first.0 ++ (first.1 ++ utf8_rest whole) ≡ whole =
    sym (append_assoc (encode_utf8 first.0) first.1 (utf8_rest whole)) ∙ ap (λ t. t ++ utf8_rest whole) first.3 ∙ front_and_rest whole in
    absurd (cut_by first.0 r (first.1 ++ utf8_rest whole) b l first.2 e some none h))
    (λ zero_at. omega arith)
    (cases_lt 0 (utf8_valid_len (r ++ b ∷ l)))

-- an unfinished character, and then a byte that only stands first
lossy-cut : (v r : List ℕ) (b : ℕ) (l : List ℕ) → IsUtf8 v → IsOpen r → 194 ≤ b → utf8_lossy (v ++ (r ++ b ∷ l)) ≡ utf8_lossy (v ++ r) ++ utf8_lossy (b ∷ l)
lossy-cut v r b l text o h =
    let t = b ∷ l in
    let some = o.some in
    let fine = none_unless (utf8_error_len r) o.fine in
    let whole_len : utf8_invalid_len (r ++ t) ≡ length r = ap (λ o. unwrap_or o (length (r ++ t))) (cut_error_len r b l some fine h) in
    let len : utf8_invalid_len r ≡ length r = ap (λ o. unwrap_or o (length r)) fine in
    let rest : drop (utf8_invalid_len (r ++ t)) (r ++ t) ≡ t = ap (λ k. drop k (r ++ t)) whole_len ∙ drop_at r t (length r) refl in
    let none : drop (utf8_invalid_len r) r ≡ [] = drop_all (utf8_invalid_len r) r (omega (arith, len)) in
    let left : utf8_lossy (v ++ (r ++ t)) ≡ v ++ (replacement_bytes ++ utf8_lossy t) =
    lossy-at v (r ++ t) text (cut_none r b l some o.none h) (omega (arith, length-append r t)) ∙ ap (λ z. v ++ (replacement_bytes ++ utf8_lossy z)) rest in
    let right : utf8_lossy (v ++ r) ≡ v ++ replacement_bytes =
    lossy-at v r text o.none some ∙ ap (λ z. v ++ (replacement_bytes ++ z)) (ap utf8_lossy none ∙ lossy-nil) in
    left ∙ (sym (append_assoc v replacement_bytes (utf8_lossy t)) ∙ ap (λ z. z ++ utf8_lossy t) (sym right))

-- the bytes end finished, or what follows begins anew
pub record IsReady (f t : List ℕ) : Type 0 where
  pub ready : (finished_front f ≡ f) ⊎ StartsAnew t

ready_suffix : (v s t : List ℕ) → IsReady (v ++ s) t → IsReady s t
ready_suffix v s t h = record { ready = ⊎_elim (λ e. inl (finished-suffix v s e)) (λ k. inr k) h.ready }

never_open : (v r : List ℕ) → IsOpen r → finished_front (v ++ r) ≡ v ++ r → ⊥
never_open v r o e =
    let some = o.some in
    omega (arith, finished_front-less v r (is_unfinished-from r o), ap length e, length-append v r)

open_ready : (v r t : List ℕ) → IsUtf8 v → IsOpen r → StartsAnew t → utf8_lossy (v ++ (r ++ t)) ≡ utf8_lossy (v ++ r) ++ utf8_lossy t
open_ready v r [] text o h = ap (λ z. utf8_lossy (v ++ z)) (append-nil r) ∙ sym (ap (λ z. utf8_lossy (v ++ r) ++ z) lossy-nil ∙ append-nil (utf8_lossy (v ++ r)))
open_ready v r (b ∷ l) text o h = lossy-cut v r b l text o h

-- the reading of two lists, where the first has a rest that is at fault and IH is the claim for what follows that fault
bad_rest : (v r t : List ℕ) → IsUtf8 v → utf8_valid_len r ≡ 0 → is_malformed r ≡ true
    → (let s = drop (utf8_invalid_len r) r in utf8_lossy (s ++ t) ≡ utf8_lossy s ++ utf8_lossy t) → utf8_lossy (v ++ (r ++ t)) ≡ utf8_lossy (v ++ r) ++ utf8_lossy t
bad_rest v r t text none bad later =
    let k = utf8_invalid_len r in
    let s = drop k r in
    let some = some_malformed r bad in
    let bounds = invalid_len-bounds r some in
    let rest : drop (utf8_invalid_len (r ++ t)) (r ++ t) ≡ s ++ t = ap (λ n. drop n (r ++ t)) (invalid_len-append r t bad) ∙ drop-append-le k r t bounds.1 in
    let left : utf8_lossy (v ++ (r ++ t)) ≡ v ++ (replacement_bytes ++ utf8_lossy (s ++ t)) =
    lossy-at v (r ++ t) text (malformed-none r t none bad) (omega (arith, length-append r t)) ∙ ap (λ z. v ++ (replacement_bytes ++ utf8_lossy z)) rest in
    let right : utf8_lossy (v ++ r) ≡ v ++ (replacement_bytes ++ utf8_lossy s) = lossy-at v r text none some in
    left ∙ (ap (λ z. v ++ (replacement_bytes ++ z)) later
    ∙ (ap (λ z. v ++ z) (sym (append_assoc replacement_bytes (utf8_lossy s) (utf8_lossy t)))
    ∙ (sym (append_assoc v (replacement_bytes ++ utf8_lossy s) (utf8_lossy t)) ∙ ap (λ z. z ++ utf8_lossy t) (sym right))))

by_rest : (v r t : List ℕ) → IsUtf8 v → utf8_valid_len r ≡ 0 → 0 < length r → IsReady (v ++ r) t
    → (is_malformed r ≡ true → let s = drop (utf8_invalid_len r) r in utf8_lossy (s ++ t) ≡ utf8_lossy s ++ utf8_lossy t) → utf8_lossy (v ++ (r ++ t)) ≡ utf8_lossy (v ++ r) ++ utf8_lossy t
by_rest v r t text none some ready later = ⊎_elim
    (λ bad. bad_rest v r t text none bad (later bad))
    (λ fine.
    let o : IsOpen r = record { some = some; none = none; fine = fine } in
    ⊎_elim (λ e. absurd (never_open v r o e)) (λ anew. open_ready v r t text o anew) ready.ready)
    (cases_Bool (is_malformed r))

ready_later : (v r t : List ℕ) (k : ℕ) → IsReady (v ++ r) t → IsReady (drop k r) t
ready_later v r t k h = ready_suffix (take k r) (drop k r) t (subst (λ l. IsReady l t) (sym (take-append-drop k r)) (ready_suffix v r t h))

lossy_within : (n : ℕ) (f t : List ℕ) → length f < n → IsReady f t → utf8_lossy (f ++ t) ≡ utf8_lossy f ++ utf8_lossy t
lossy_within zero f t less ready = absurd (omega arith)
lossy_within (suc n) f t less ready = ⊎_elim
    (λ text. lossy-text f t text ∙ ap (λ z. z ++ utf8_lossy t) (sym (utf8_lossy-IsUtf8 f text)))
    (λ up.
    let v = utf8_front f in
    let r = utf8_rest f in
    let some = rest_some f up.short in
    let bounds = invalid_len-bounds r some in
    let k = utf8_invalid_len r in
    let parts = front_and_rest f in
    let same : f ++ t ≡ v ++ (r ++ t) = ap (λ l. l ++ t) (sym parts) ∙ append_assoc v r t in
    let split : IsReady (v ++ r) t = subst (λ l. IsReady l t) (sym parts) ready in
    ap utf8_lossy same
    ∙ (by_rest v r t (front-IsUtf8 f) (rest-none f) some split
    (λ bad. lossy_within n (drop k r) t (omega (arith, bounds.0, length-drop k r, length-drop (utf8_valid_len f) f)) (ready_later v r t k split))
    ∙ ap (λ l. utf8_lossy l ++ utf8_lossy t) parts))
    (utf8_cases f)

-- the reading of two lists
pub lossy-append : (f t : List ℕ) → IsReady f t → utf8_lossy (f ++ t) ≡ utf8_lossy f ++ utf8_lossy t
lossy-append f t ready = lossy_within (suc (length f)) f t (omega arith) ready

-- an unfinished character begins anew
lead : (t : Bool) (b : ℕ) (r : List ℕ) → is_lead b ≡ t → utf8_error_len (b ∷ r) ≡ None → 194 ≤ b
unfolding utf8_error_len
lead true b r t e = grind (arith, nat_tests)
lead false b r t e = grind (arith, nat_tests)

open_anew : (b : ℕ) (r : List ℕ) → IsOpen (b ∷ r) → 194 ≤ b
open_anew b r o = lead (is_lead b) b r refl (none_unless (utf8_error_len (b ∷ r)) o.fine)

anew_case : (t : Bool) (b : ℕ) (l : List ℕ) → 194 ≤ b → StartsAnew (cond t [] (b ∷ l))
anew_case true b l h = tt
anew_case false b l h = h

-- what is finished of bytes, and what is finished later of their rest
ready_from : (xs u zs : List ℕ) → unfinished_rest xs ≡ u → IsReady (finished_front xs) (finished_front (u ++ zs)) × IsReady (finished_front xs) u
ready_from xs [] zs e =
    let whole : finished_front xs ≡ xs = sym (append-nil (finished_front xs)) ∙ (ap (λ z. finished_front xs ++ z) (sym e) ∙ finished_and_rest xs) in
    let same : finished_front (finished_front xs) ≡ finished_front xs = ap finished_front whole in
    (record { ready = inl same }, record { ready = inl same })
ready_from xs (b ∷ u) zs e =
    let some : 0 < length (unfinished_rest xs) = omega (arith, ap length e) in
    let anew = open_anew b u (subst IsOpen e (rest-IsOpen xs some)) in
    (record { ready = inr (anew_case (is_unfinished ((b ∷ u) ++ zs)) b (finished_front (u ++ zs)) anew) }, record { ready = inr anew })

-- the reading of what is finished of more bytes
pub lossy-finished : (xs zs : List ℕ) → utf8_lossy (finished_front (xs ++ zs)) ≡ utf8_lossy (finished_front xs) ++ utf8_lossy (finished_front (unfinished_rest xs ++ zs))
lossy-finished xs zs =
    let u = unfinished_rest xs in
    ap utf8_lossy (finished_front-append xs zs) ∙ lossy-append (finished_front xs) (finished_front (u ++ zs)) (ready_from xs u zs refl).0

-- the reading of all bytes
pub lossy-whole : (xs : List ℕ) → utf8_lossy xs ≡ utf8_lossy (finished_front xs) ++ utf8_lossy (unfinished_rest xs)
lossy-whole xs =
    let u = unfinished_rest xs in
    ap utf8_lossy (sym (finished_and_rest xs)) ∙ lossy-append (finished_front xs) u (ready_from xs u [] refl).1

pub lossy_steady : SteadyBy (λ bytes. without_fault (map Byte (utf8_lossy (finished_front bytes)))) (λ bytes. without_fault (map Byte (utf8_lossy bytes)))
lossy_steady = faultless (λ bytes. map Byte (utf8_lossy (finished_front bytes))) (λ bytes. map Byte (utf8_lossy bytes))
    (λ xs zs.
    let more = utf8_lossy (finished_front (unfinished_rest xs ++ zs)) in
    (map Byte more, ap (map Byte) (lossy-finished xs zs) ∙ map-append Byte (utf8_lossy (finished_front xs)) more))
    (λ xs.
    let more = utf8_lossy (unfinished_rest xs) in
    (map Byte more, ap (map Byte) (lossy-whole xs) ∙ map-append Byte (utf8_lossy (finished_front xs)) more))
