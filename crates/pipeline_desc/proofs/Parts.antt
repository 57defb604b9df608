-- The parts of a step's word.
use Rattle.std.proofs.Common.{◌≡◌, ℕ, suc, ◌+◌, ◌-◌, ◌<◌, ◌==◌, Bool, true, false, not, cond, nat_lt, List, [], ◌∷◌, length, length-drop, take, drop, Some, None, refl, ap, ◌∙◌, sym, arith, inl, inr, add-one}
use Rattle.std.specs.List.{position, position_or_len, before_first, after_first}
use Rattle.std.proofs.lemmas.Bool.{cases_Bool, ltb-true, ltb-false}
use Rattle.std.proofs.lemmas.List.{take_all}
use Rattle.std.proofs.lemmas.List.Sums.{prefix_len-le-length}
use Rattle.pipeline_desc.specs.Steps.{before_space, behind_space}

abbrev is_space : ℕ → Bool
is_space b = b == 32

-- the first space stands one place further on behind a byte that is none
first_behind : (b : ℕ) (word : List ℕ) → (b == 32) ≡ false → position_or_len is_space (b ∷ word) ≡ suc (position_or_len is_space word)
first_behind b word e = rw e (omega arith)

first_here : (b : ℕ) (word : List ℕ) → (b == 32) ≡ true → position_or_len is_space (b ∷ word) ≡ 0
first_here b word e = rw e refl

-- where a space stands: the name before it, and the argument behind it
with_space : (word : List ℕ) → position_or_len is_space word < length word → (before_space word ≡ before_first is_space word) × (behind_space word ≡ Some (after_first is_space word))
with_space [] h = absurd (omega arith)
with_space (b ∷ word) h =
    elim (cases_Bool (b == 32)) [
      | inl e ↦ (rw (first_here b word e, e) refl, rw (first_here b word e, e) refl)
      | inr e ↦
          let (name, argument) = with_space word (omega (arith, first_behind b word e)) in
          (rw (first_behind b word e, e) (ap (λ xs. b ∷ xs) name), rw (first_behind b word e, e, add-one (suc (position_or_len is_space word))) (rw (add-one (position_or_len is_space word)) at argument))
    ]

-- where none stands, the word is the name
without_space : (word : List ℕ) → position_or_len is_space word ≡ length word → (before_space word ≡ word) × (behind_space word ≡ None)
without_space [] h = (refl, refl)
without_space (b ∷ word) h =
    elim (cases_Bool (b == 32)) [
      | inl e ↦ absurd (omega (arith, first_here b word e))
      | inr e ↦
          let (name, argument) = without_space word (omega (arith, first_behind b word e)) in
          (rw e (ap (λ xs. b ∷ xs) name), rw e argument)
    ]

module _ (word : List ℕ) where
  abbrev first_space : ℕ
  first_space = position_or_len is_space word

  -- the first space stands at a place
  pub cut_found : (at : ℕ) → position is_space word ≡ Some at → (take at word ≡ before_space word) × (Some (take (length word - (at + 1)) (drop (at + 1) word)) ≡ behind_space word)
  cut_found at is = go (nat_lt first_space (length word)) refl is
    where
      go : (b : Bool) → nat_lt first_space (length word) ≡ b → cond b (Some first_space) None ≡ Some at → (take at word ≡ before_space word) × (Some (take (length word - (at + 1)) (drop (at + 1) word)) ≡ behind_space word)
      go true e there =
          let same : first_space ≡ at = cc in
          let (name, argument) = with_space word (ltb-true first_space (length word) e) in
          let whole : take (length word - (at + 1)) (drop (at + 1) word) ≡ drop (at + 1) word = take_all (length word - (at + 1)) (drop (at + 1) word) (omega (arith, length-drop (at + 1) word)) in
          (ap (λ n. take n word) (sym same) ∙ sym name, ap (λ (t : List ℕ). Some t) (whole ∙ ap (λ n. drop (n + 1) word) (sym same)) ∙ sym argument)
      go false e none = cc

  -- there is none
  pub cut_none : position is_space word ≡ None → (word ≡ before_space word) × (None ≡ behind_space word)
  cut_none is = go (nat_lt first_space (length word)) refl is
    where
      go : (b : Bool) → nat_lt first_space (length word) ≡ b → cond b (Some first_space) None ≡ None → (word ≡ before_space word) × (None ≡ behind_space word)
      go true e none = cc
      go false e none =
          let (name, argument) = without_space word (omega (arith, ltb-false first_space (length word) e, prefix_len-le-length (λ b. not (is_space b)) word)) in
          (sym name, sym argument)
