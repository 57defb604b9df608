-- One number more in a list.
use Rattle.std.proofs.Common.{◌≡◌, ℕ, zero, suc, ◌<◌, ◌+◌, Bool, true, false, cond, ◌&&◌, nat_eq, List, [], ◌∷◌, ◌++◌, refl, sym, ap, ◌∙◌, length, length-append, arith, Option, Some, slice_get}
use Rattle.std.specs.Prelude.{unwrap_or}
use Rattle.std.proofs.lemmas.Bool.{false≢true}
use Rattle.chunk_core.proofs.Bools.{both, number, itself}
use Rattle.ledger_audit.specs.declared.lists.Lists.{Lists}
use Rattle.ledger_audit.specs.Lists.{IsList, adds, count_of, item_of}

at_front : {A : Type 0} (xs ys : List A) (n : ℕ) → n < length xs → slice_get (xs ++ ys) n ≡ slice_get xs n
at_front [] ys n l = absurd (omega arith)
at_front (x ∷ xs) ys zero l = refl
at_front (x ∷ xs) ys (suc n) l = at_front xs ys n (omega arith)

at_end : {A : Type 0} (xs : List A) (y : A) → slice_get (xs ++ y ∷ []) (length xs) ≡ Some y
at_end [] y = refl
at_end (x ∷ xs) y = at_end xs y

-- a number was added to the list of s by k
module _ (x y : Lists) (k s r n next : ℕ)
    (item : (l t m : ℕ) → item_of y l t m ≡ cond (nat_eq k l && (nat_eq s t && nat_eq n m)) (Some r) (item_of x l t m))
    (count : (l t : ℕ) → count_of y l t ≡ cond (nat_eq k l && nat_eq s t) (Some next) (count_of x l t))
    (counted : n ≡ unwrap_or (count_of x k s) 0)
    (follows : next ≡ n + 1) where
  picked_case : (a b c : Bool) (o p : Option ℕ) → (a && b) ≡ true → cond (a && (b && c)) o p ≡ cond c o p
  picked_case true true c o p h = refl
  picked_case true false c o p h = cc
  picked_case false b c o p h = cc

  left_case : (a b c : Bool) (o p : Option ℕ) → (a && b) ≡ false → cond (a && (b && c)) o p ≡ p
  left_case true true c o p h = cc
  left_case true false c o p h = refl
  left_case false b c o p h = refl

  within : (xs : List ℕ) (m : ℕ) → m < length (xs ++ r ∷ []) → nat_eq n m ≡ false → n ≡ length xs → m < length xs
  within xs m w f e =
      let long = length-append xs (r ∷ []) in
      let differs : n ≡ m → ⊥ = λ g. false≢true (sym f ∙ ap (nat_eq n) (sym g) ∙ itself n) in
      omega (arith, w, long, e, differs)

  item_at : (l t m : ℕ) (xs : List ℕ) → (nat_eq k l && nat_eq s t) ≡ true → n ≡ length xs → ((i : ℕ) → i < length xs → item_of x l t i ≡ slice_get xs i) → m < length (xs ++ r ∷ []) → (b : Bool) → nat_eq n m ≡ b → item_of y l t m ≡ slice_get (xs ++ r ∷ []) m
  item_at l t m xs q e h w true f =
      item l t m ∙ picked_case (nat_eq k l) (nat_eq s t) (nat_eq n m) (Some r) (item_of x l t m) q
      ∙ ap (λ b. cond b (Some r) (item_of x l t m)) f
      ∙ sym (at_end xs r) ∙ ap (slice_get (xs ++ r ∷ [])) (sym e ∙ number n m f)
  item_at l t m xs q e h w false f =
      let i = within xs m w f e in
      item l t m ∙ picked_case (nat_eq k l) (nat_eq s t) (nat_eq n m) (Some r) (item_of x l t m) q
      ∙ ap (λ b. cond b (Some r) (item_of x l t m)) f
      ∙ h m i ∙ sym (at_front xs (r ∷ []) m i)

  at_case : (l t : ℕ) (xs : List ℕ) → IsList x l t xs → (b : Bool) → (nat_eq k l && nat_eq s t) ≡ b → IsList y l t (cond b (xs ++ r ∷ []) xs)
  at_case l t xs h true q =
      let e = both (nat_eq k l) (nat_eq s t) q in
      let n_is : n ≡ length xs = counted ∙ ap (λ a. unwrap_or (count_of x a s) 0) (number k l e.0) ∙ ap (λ a. unwrap_or (count_of x l a) 0) (number s t e.1) ∙ h.count in
      let long = length-append xs (r ∷ []) in
      let is : next ≡ length (xs ++ r ∷ []) = omega (arith, n_is, long, follows) in
      record {
        count = ap (λ o. unwrap_or o 0) (count l t ∙ ap (λ b. cond b (Some next) (count_of x l t)) q) ∙ is;
        items = λ m w. item_at l t m xs q n_is h.items w (nat_eq n m) refl;
      }
  at_case l t xs h false q = record {
    count = ap (λ o. unwrap_or o 0) (count l t ∙ ap (λ b. cond b (Some next) (count_of x l t)) q) ∙ h.count;
    items = λ m w. item l t m ∙ left_case (nat_eq k l) (nat_eq s t) (nat_eq n m) (Some r) (item_of x l t m) q ∙ h.items m w;
  }

  pub list_more : (l t : ℕ) (xs : List ℕ) → IsList x l t xs → IsList y l t (cond (adds k s l t) (xs ++ r ∷ []) xs)
  list_more l t xs h = at_case l t xs h (nat_eq k l && nat_eq s t) refl
