-- The parts of a text between its bars.
use Rattle.std.proofs.Common.{◌≡◌, ℕ, suc, ◌+◌, ◌-◌, ◌<◌, ◌==◌, Bool, true, false, not, cond, nat_lt, List, [], ◌∷◌, length, length-drop, take, drop, Option, Some, None, refl, ap, ◌∙◌, sym, arith, inl, inr, add-one}
use Rattle.std.specs.List.{position, position_or_len, before_first, after_first}
use Rattle.std.proofs.lemmas.Bool.{cases_Bool, ltb-true, ltb-false}
use Rattle.std.proofs.lemmas.List.{take_all}
use Rattle.std.proofs.lemmas.List.Sums.{prefix_len-le-length}
use Rattle.step_words.specs.Words.{begun_with, parts_between, parts_left}

abbrev is_bar : ℕ → Bool
is_bar b = b == 124

first_behind : (b : ℕ) (text : List ℕ) → (b == 124) ≡ false → position_or_len is_bar (b ∷ text) ≡ suc (position_or_len is_bar text)
first_behind b text e = rw e (omega arith)

first_here : (b : ℕ) (text : List ℕ) → (b == 124) ≡ true → position_or_len is_bar (b ∷ text) ≡ 0
first_here b text e = rw e refl

-- where a bar stands: the part before it, and those behind it
with_bar : (text : List ℕ) → position_or_len is_bar text < length text → parts_between text ≡ before_first is_bar text ∷ parts_between (after_first is_bar text)
with_bar [] h = absurd (omega arith)
with_bar (b ∷ text) h =
    elim (cases_Bool (b == 124)) [
      | inl e ↦ rw (first_here b text e, e) refl
      | inr e ↦
          let rest = with_bar text (omega (arith, first_behind b text e)) in
          rw (first_behind b text e, e, add-one (suc (position_or_len is_bar text))) (ap (begun_with b) (rw (add-one (position_or_len is_bar text)) at rest))
    ]

-- where none stands, the text is the part
without_bar : (text : List ℕ) → position_or_len is_bar text ≡ length text → parts_between text ≡ text ∷ []
without_bar [] h = refl
without_bar (b ∷ text) h =
    elim (cases_Bool (b == 124)) [
      | inl e ↦ absurd (omega (arith, first_here b text e))
      | inr e ↦ rw e (ap (begun_with b) (without_bar text (omega (arith, first_behind b text e))))
    ]

module _ (text : List ℕ) where
  abbrev first_bar : ℕ
  first_bar = position_or_len is_bar text

  -- the first bar stands at a place
  pub cut_found : (at : ℕ) → position is_bar text ≡ Some at → parts_between text ≡ take at text ∷ parts_left (Some (take (length text - (at + 1)) (drop (at + 1) text)))
  cut_found at is = go (nat_lt first_bar (length text)) refl is
    where
      go : (b : Bool) → nat_lt first_bar (length text) ≡ b → cond b (Some first_bar) None ≡ Some at → parts_between text ≡ take at text ∷ parts_left (Some (take (length text - (at + 1)) (drop (at + 1) text)))
      go true e there =
          let same : first_bar ≡ at = cc in
          let whole : take (length text - (at + 1)) (drop (at + 1) text) ≡ drop (at + 1) text = take_all (length text - (at + 1)) (drop (at + 1) text) (omega (arith, length-drop (at + 1) text)) in
          with_bar text (ltb-true first_bar (length text) e) ∙ (ap (λ n. take n text ∷ parts_between (drop (n + 1) text)) same ∙ ap (λ t. take at text ∷ parts_between t) (sym whole))
      go false e none = cc

  -- there is none
  pub cut_none : position is_bar text ≡ None → parts_between text ≡ text ∷ []
  cut_none is = go (nat_lt first_bar (length text)) refl is
    where
      go : (b : Bool) → nat_lt first_bar (length text) ≡ b → cond b (Some first_bar) None ≡ None → parts_between text ≡ text ∷ []
      go true e none = cc
      go false e none = without_bar text (omega (arith, ltb-false first_bar (length text) e, prefix_len-le-length (λ b. not (is_bar b)) text))
