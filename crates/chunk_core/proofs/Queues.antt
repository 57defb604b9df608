-- Elements taken from a row of chunks.
use Rattle.std.proofs.Common.{refl, ◌≡◌, ℕ, zero, suc, ◌≤◌, ◌-◌, List, [], ◌∷◌, ◌++◌, length, take, drop, map, sym, ap, ◌∙◌, slice_index_or, slice_set, arith}
use Rattle.std.proofs.lemmas.List.{map-append, length-take, take-append-le, take-append-drop}
use Rattle.std.specs.List.{flat_map}
use Rattle.std.proofs.lemmas.Grind.{flat_map-append}
use Rattle.chunk_core.proofs.Cuts.{append_nil}
use Rattle.chunk_core.proofs.Windows.{take_on, drop_on}

-- the elements of all chunks
abbrev pub joined : {A : Type 0} → List (List A) → List A
joined chunks = flat_map (λ chunk. chunk) chunks

module _ {A : Type 0} where
  -- one chunk more was gathered
  pub gathered : {B : Type 0} (v : B → List A) (n : ℕ) (xs : List B) (x : B) (old new : List A) → old ≡ take n (joined (map v xs)) → new ≡ old ++ take (n - length old) (v x) → new ≡ take n (joined (map v (xs ++ x ∷ [])))
  gathered v n xs x old new o e =
      let goes : take n (joined (map v xs) ++ v x) ≡ take n (joined (map v (xs ++ x ∷ []))) = rw (map-append, flat_map-append, append_nil) refl in
      e ∙ (ap (λ l. l ++ take (n - length l) (v x)) o ∙ (take_on n (joined (map v xs)) (v x) ∙ goes))

  -- where the first k chunks have n elements, those of the others aren't among the first n
  pub enough : (n k : ℕ) (chunks : List (List A)) (got : List A) → got ≡ take n (joined (take k chunks)) → n - length got ≡ 0 → got ≡ take n (joined chunks)
  enough n k chunks got e none =
      let long : n ≤ length (joined (take k chunks)) = let l = ap length e ∙ length-take n (joined (take k chunks)) in omega arith in
      let parts : joined (take k chunks) ++ joined (drop k chunks) ≡ joined chunks = sym (flat_map-append (λ c. c) (take k chunks) (drop k chunks)) ∙ ap joined (take-append-drop k chunks) in
      e ∙ (sym (take-append-le n (joined (take k chunks)) (joined (drop k chunks)) long) ∙ ap (take n) parts)

  none : (n : ℕ) → drop {A = A} n [] ≡ []
  none zero = refl
  none (suc n) = refl

  -- the first chunk is passed over
  pub passed : (n : ℕ) (x : List A) (xs : List (List A)) → x ≡ slice_index_or xs 0 x → length x ≤ n → drop (n - length x) (joined (drop 1 (slice_set xs 0 x))) ≡ drop n (joined xs)
  passed n x [] e h = none (n - length x) ∙ sym (none n)
  passed n x (y ∷ xs) e h = drop_on n x (joined xs) h ∙ ap (λ l. drop n (l ++ joined xs)) e
