-- Where an unfinished character begins, searched for from the left.
use Rattle.std.proofs.Common.{◌≡◌, ℕ, zero, suc, ◌+◌, ◌-◌, ◌<◌, ◌≤◌, false, cond, List, [], ◌∷◌, ◌++◌, length, take, drop, drop-cons, get_or, refl, ap, ◌∙◌, sym, subst, add-one, arith, append_assoc}
use Rattle.std.proofs.lemmas.Bool.{false_from_ne_true}
use Rattle.std.proofs.lemmas.List.{take_more}
use Rattle.std.proofs.lemmas.Str.{utf8_valid_len-IsUtf8}
use Rattle.std.specs.Prelude.{IsUtf8}
use Rattle.std.specs.Str.Lossy.{utf8_error_len}
use Rattle.pull_nodes.specs.Utf8.{is_unfinished, finished_front, unfinished_rest}
use Rattle.pull_nodes.proofs.LossyLaws.{IsOpen-from}
use Rattle.pull_nodes.proofs.Malformed.{four_error, none_unless}

-- well-formed bytes are no unfinished character
pub text_is_finished : (bs : List ℕ) → IsUtf8 bs → is_unfinished bs ≡ false
text_is_finished bs text = false_from_ne_true (is_unfinished bs) (λ t. let o = IsOpen-from bs t in absurd (omega (arith, utf8_valid_len-IsUtf8 bs text, o.some, o.none)))

-- up to n there begins no unfinished character, and n is among the last places
pub record SearchedTo (n : ℕ) (bs : List ℕ) : Type 0 where
  pub within : n ≤ length bs
  pub late : length bs ≤ n + 3
  pub front : finished_front bs ≡ take n bs ++ finished_front (drop n bs)
  pub rest : unfinished_rest bs ≡ unfinished_rest (drop n bs)

four_finished : (x y z w : ℕ) (r : List ℕ) → is_unfinished (x ∷ y ∷ z ∷ w ∷ r) ≡ false
four_finished x y z w r =
    let bs = x ∷ y ∷ z ∷ w ∷ r in
    false_from_ne_true (is_unfinished bs) (λ t. let o = IsOpen-from bs t in four_error _ _ _ x y z w r refl refl refl (none_unless (utf8_error_len bs) o.fine))

long_finished : (bs : List ℕ) → 3 < length bs → is_unfinished bs ≡ false
long_finished [] long = absurd (omega arith)
long_finished (x ∷ []) long = absurd (omega arith)
long_finished (x ∷ y ∷ []) long = absurd (omega arith)
long_finished (x ∷ y ∷ z ∷ []) long = absurd (omega arith)
long_finished (x ∷ y ∷ z ∷ w ∷ r) long = four_finished x y z w r

-- a byte where no unfinished character begins
past_front : (b : ℕ) (r : List ℕ) → is_unfinished (b ∷ r) ≡ false → finished_front (b ∷ r) ≡ b ∷ finished_front r
past_front b r no_start = ap (λ t. cond t [] (b ∷ finished_front r)) no_start

past_rest : (b : ℕ) (r : List ℕ) → is_unfinished (b ∷ r) ≡ false → unfinished_rest (b ∷ r) ≡ unfinished_rest r
past_rest b r no_start = ap (λ t. cond t (b ∷ r) (unfinished_rest r)) no_start

-- the last three bytes alone decide
pub searched-start : (bs : List ℕ) (n : ℕ) → n ≡ length bs - 3 → SearchedTo n bs
searched-start [] n is = rw is (record { within = omega arith; late = omega arith; front = refl; rest = refl })
searched-start (b ∷ bs) zero is = record { within = omega arith; late = omega arith; front = refl; rest = refl }
searched-start (b ∷ bs) (suc n) is =
    let no_start = long_finished (b ∷ bs) (omega arith) in
    let before = searched-start bs n (omega arith) in
    let within = before.within in
    let late = before.late in
    record {
      within = omega arith;
      late = omega arith;
      front = past_front b bs no_start ∙ ap (λ l. b ∷ l) before.front;
      rest = past_rest b bs no_start ∙ before.rest;
    }

-- one place more
pub searched-next : (n : ℕ) (bs : List ℕ) → SearchedTo n bs → n < length bs → is_unfinished (drop n bs) ≡ false → SearchedTo (n + 1) bs
searched-next n bs s less no_start =
    let b = get_or bs n 0 in
    let r = drop (n + 1) bs in
    let at : drop n bs ≡ b ∷ r = rw add-one (drop-cons bs n 0 less) in
    let stop : is_unfinished (b ∷ r) ≡ false = subst (λ l. is_unfinished l ≡ false) at no_start in
    let late = s.late in
    record {
      within = omega arith;
      late = omega arith;
      front = s.front ∙ (ap (λ l. take n bs ++ finished_front l) at ∙ (ap (λ l. take n bs ++ l) (past_front b r stop)
          ∙ (sym (append_assoc (take n bs) (b ∷ []) (finished_front r)) ∙ ap (λ l. l ++ finished_front r) (sym (take_more bs n 0 less)))));
      rest = s.rest ∙ (ap unfinished_rest at ∙ past_rest b r stop);
    }
