-- The first of a queue goes behind the others until the one that is looked for is the first.
use Rattle.std.proofs.Common.{◌≡◌, ◌≢◌, ℕ, ◌+◌, ◌<◌, List, [], ◌∷◌, ◌++◌, length, refl, sym, ◌∙◌, ap, subst, arith, append_assoc, append-nil, length-append}
use Rattle.std.specs.List.{AllByRecursion}
use Rattle.chunk_core.proofs.Each.{each_append, each_left, each_right, each_snoc}
use Rattle.collector.proofs.OneStream.{head_is, no_cons, tail_is}

module _ {A : Type 0} (number : A → ℕ) (k : ℕ) where
  -- so many went behind, none of which was it
  pub record Passed (n : ℕ) (first now : List A) : Type 0 where
    pub done : List A
    pub rest : List A
    pub first_is : first ≡ done ++ rest
    pub now_is : now ≡ rest ++ done
    pub count : length done ≡ n
    pub others : AllByRecursion (λ j. number j ≢ k) done

  pub passed_none : (xs : List A) → Passed 0 xs xs
  passed_none xs = record { done = []; rest = xs; first_is = refl; now_is = sym (append-nil xs); count = refl; others = tt }

  pub passed_length : (n : ℕ) (first now : List A) → Passed n first now → length now ≡ length first
  passed_length n first now p =
      let a = ap length p.first_is ∙ length-append p.done p.rest in
      let b = ap length p.now_is ∙ length-append p.rest p.done in
      omega (arith, a, b)

  pub passed_more : (n : ℕ) (first : List A) (x : A) (xs : List A) → n < length first → number x ≢ k → Passed n first (x ∷ xs) → Passed (n + 1) first (xs ++ x ∷ [])
  passed_more n first x xs l ne p = go p.rest p.first_is p.now_is
    where
      go : (rest : List A) → first ≡ p.done ++ rest → x ∷ xs ≡ rest ++ p.done → Passed (n + 1) first (xs ++ x ∷ [])
      go [] f is = let a = ap length f ∙ length-append p.done [] in let c = p.count in absurd (omega (arith, a, c, l))
      go (y ∷ rest) f is =
          let same : x ≡ y = head_is x y xs (rest ++ p.done) is in
          record {
            done = p.done ++ x ∷ [];
            rest = rest;
            first_is = f ∙ (ap (λ z. p.done ++ z ∷ rest) (sym same) ∙ sym (append_assoc p.done (x ∷ []) rest));
            now_is = ap (λ l. l ++ x ∷ []) (tail_is x y xs (rest ++ p.done) is) ∙ append_assoc rest p.done (x ∷ []);
            count = let a = length-append p.done (x ∷ []) in let c = p.count in omega (arith, a, c);
            others = each_snoc (λ j. number j ≢ k) p.done x p.others ne;
          }

  pub passed_found : (n : ℕ) (first : List A) (x : A) (xs : List A) → number x ≡ k → Passed n first (x ∷ xs) → (before behind : List A) × (first ≡ before ++ x ∷ behind) × (xs ≡ behind ++ before)
  passed_found n first x xs e p = go p.rest p.first_is p.now_is p.done p.others
    where
      go : (rest : List A) → first ≡ p.done ++ rest → x ∷ xs ≡ rest ++ p.done → (done : List A) → AllByRecursion (λ j. number j ≢ k) done → (before behind : List A) × (first ≡ before ++ x ∷ behind) × (xs ≡ behind ++ before)
      go [] f is done all = absurd (not_first p.done is p.others)
        where
          not_first : (ys : List A) → x ∷ xs ≡ ys → AllByRecursion (λ j. number j ≢ k) ys → ⊥
          not_first [] q a = no_cons x xs q
          not_first (y ∷ ys) q a = a.0 (ap number (sym (head_is x y xs ys q)) ∙ e)
      go (y ∷ rest) f is done all =
          let same : x ≡ y = head_is x y xs (rest ++ p.done) is in
          (p.done, rest, f ∙ ap (λ z. p.done ++ z ∷ rest) (sym same), tail_is x y xs (rest ++ p.done) is)

  pub passed_all : (n : ℕ) (first now : List A) → n ≡ length first → Passed n first now → AllByRecursion (λ j. number j ≢ k) first
  passed_all n first now e p = go p.rest p.first_is
    where
      go : (rest : List A) → first ≡ p.done ++ rest → AllByRecursion (λ j. number j ≢ k) first
      go [] f = subst (AllByRecursion (λ j. number j ≢ k)) (sym (f ∙ append-nil p.done)) p.others
      go (y ∷ rest) f = let a = ap length f ∙ length-append p.done (y ∷ rest) in let c = p.count in absurd (omega (arith, a, c, e))

  -- what each of them has it keeps
  pub passed_each : (n : ℕ) (first now : List A) (Q : A → Type 0) → Passed n first now → AllByRecursion Q first → AllByRecursion Q now
  passed_each n first now Q p all =
      let parts = subst (AllByRecursion Q) p.first_is all in
      subst (AllByRecursion Q) (sym p.now_is) (each_append Q p.rest p.done (each_right Q p.done p.rest parts) (each_left Q p.done p.rest parts))
