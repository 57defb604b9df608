-- Lines that wait, of which the first are taken as a group.
use Rattle.std.proofs.Common.{◌≡◌, ℕ, ◌<◌, ◌≤◌, Bool, true, false, List, [], ◌∷◌, ◌++◌, map, length, take, drop, refl, sym, ap, ◌∙◌, subst, ⊎_elim, arith, append-nil, append_assoc, length-append, length-drop}
use Rattle.std.proofs.lemmas.Bool.{cases_lt}
use Rattle.std.proofs.lemmas.List.{drop_all, length-map, map-append, take-append-drop, take_all}
use Rattle.chunk_core.specs.Elements.{Element}
use Rattle.chunk_core.specs.Elements.Element.{Line}
use Rattle.eval_rules.specs.Answers.{groups_of}
use Rattle.eval_rules.proofs.Groups.{last_group, one_group}

module _ (n : ℕ) (waiting : List (List ℕ)) (some : 0 < n) where
  abbrev front : List Element
  front = map Line (take n waiting)

  abbrev rest : List Element
  rest = map Line (drop n waiting)

  parts : map Line waiting ≡ front ++ rest
  parts = ap (λ ls. map Line ls) (sym (take-append-drop n waiting)) ∙ map-append Line (take n waiting) (drop n waiting)

  taken_count : n ≤ length waiting → length (take n waiting) ≡ n
  taken_count l = let a = length-drop n waiting in let b = ap length (take-append-drop n waiting) in let c = length-append (take n waiting) (drop n waiting) in omega (arith, a, b, c, l)

  whole : n ≤ length waiting → (more : List Element) → groups_of n (map Line waiting ++ more) ≡ front ∷ groups_of n (rest ++ more)
  whole l more =
      ap (λ ws. groups_of n (ws ++ more)) parts
      ∙ (ap (λ ws. groups_of n ws) (append_assoc front rest more) ∙ one_group n front (rest ++ more) some (length-map (take n waiting) Line ∙ taken_count l))

  -- the last lines, and nothing behind them
  short : length waiting ≤ n → 0 < length waiting → groups_of n (map Line waiting ++ []) ≡ front ∷ groups_of n (rest ++ [])
  short l any =
      let all : take n waiting ≡ waiting = take_all n waiting l in
      let none : drop n waiting ≡ [] = drop_all n waiting l in
      let count = length-map waiting Line in
      ap (λ ws. groups_of n ws) (append-nil (map Line waiting))
      ∙ (last_group n (map Line waiting) some (omega (arith, count, any)) (omega (arith, count, l))
      ∙ (ap (λ (ls : List (List ℕ)). map Line ls ∷ []) (sym all) ∙ ap (λ (ls : List (List ℕ)). front ∷ groups_of n (map Line ls ++ [])) (sym none)))

  -- where fewer wait than a group has, nothing comes behind them
  pub took : (ends : Bool) (given : List Element) (groups : List (List Element)) → (ends ≡ false → n ≤ length waiting) → 0 < length waiting
      → ((more : List Element) → (ends ≡ true → more ≡ []) → groups_of n (given ++ more) ≡ groups ++ groups_of n (map Line waiting ++ more))
      → (more : List Element) → (ends ≡ true → more ≡ []) → groups_of n (given ++ more) ≡ (groups ++ front ∷ []) ++ groups_of n (rest ++ more)
  took ends given groups many any grouped more over =
      grouped more over ∙ (ap (λ gs. groups ++ gs) (⊎_elim fewer (λ l. whole l more) (cases_lt (length waiting) n)) ∙ sym (append_assoc groups (front ∷ []) (groups_of n (rest ++ more))))
    where
      ended : (b : Bool) → ends ≡ b → length waiting < n → ends ≡ true
      ended true e l = e
      ended false e l = absurd (let m = many e in omega (arith, m, l))

      fewer : length waiting < n → groups_of n (map Line waiting ++ more) ≡ front ∷ groups_of n (rest ++ more)
      fewer l = subst (λ ms. groups_of n (map Line waiting ++ ms) ≡ front ∷ groups_of n (rest ++ ms)) (sym (over (ended ends refl l))) (short (omega (arith, l)) any)
