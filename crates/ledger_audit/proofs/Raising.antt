-- What a Close takes down, by the scopes below each scope.
use Rattle.std.proofs.Common.{◌≡◌, ◌≢◌, ℕ, ◌<◌, ◌+◌, Bool, true, false, cond, ◌&&◌, not, nat_eq, filter, List, [], ◌∷◌, ◌++◌, refl, sym, ap, ◌∙◌, subst, ⊎_elim, append_assoc, length, reverse, arith}
use Rattle.std.proofs.lemmas.List.{reverse-append, reverse-reverse}
use Rattle.std.specs.List.{flat_map}
use Rattle.std.proofs.lemmas.Grind.{flat_map-append}
use Rattle.chunk_core.specs.Lists.{IsAmong, has}
use Rattle.chunk_core.specs.Lists.IsAmong.{here, there}
use Rattle.chunk_core.proofs.Bools.{number}
use Rattle.chunk_core.proofs.Filters.{among_filter}
use Rattle.chunk_core.proofs.Members.{among_cons, among_nil}
use Rattle.res_ledger.specs.declared.event.What.{What}
use Rattle.res_ledger.specs.Own.{opens, closes, rows, latest, rows_beneath, teardown}
use Rattle.ledger_verdict.proofs.Torn.{IsForward}
use Rattle.ledger_audit.specs.Trees.{of_scope, raised, raised_from}

pub of_scope_in : (os : List (ℕ × ℕ)) (s c : ℕ) → IsAmong c (of_scope os s) → IsAmong (c, s) os
of_scope_in [] s c m = absurd (among_nil m)
of_scope_in (o ∷ os) s c m = at_case (nat_eq o.1 s) refl m (λ n. of_scope_in os s c n)
  where
    at_case : (b : Bool) → nat_eq o.1 s ≡ b → IsAmong c (cond b (o.0 ∷ of_scope os s) (of_scope os s)) → (IsAmong c (of_scope os s) → IsAmong (c, s) os) → IsAmong (c, s) (o ∷ os)
    at_case true q m more = ⊎_elim
        (λ e. subst (λ x. IsAmong (x, s) (o ∷ os)) (sym e) (subst (λ x. IsAmong (o.0, x) (o ∷ os)) (number o.1 s q) (here os)))
        (λ n. there o (more n))
        (among_cons m)
    at_case false q m more = there o (more m)

flat_same : (g h : ℕ → List ℕ) (xs : List ℕ) → ((c : ℕ) → IsAmong c xs → g c ≡ h c) → flat_map g xs ≡ flat_map h xs
flat_same g h [] f = refl
flat_same g h (x ∷ xs) f = ap (λ l. l ++ flat_map g xs) (f x (here xs)) ∙ ap (λ l. h x ++ l) (flat_same g h xs (λ c m. f c (there x m)))

module _ (shut : ℕ → Bool) (f : ℕ → List ℕ) where
  other : (o : ℕ × ℕ) (os : List (ℕ × ℕ)) (c : ℕ) → o.1 ≢ c → raised (o ∷ os) shut f c ≡ raised os shut f c
  other o os c n = at_case (nat_eq o.1 c) refl
    where
      at_case : (b : Bool) → nat_eq o.1 c ≡ b → cond {A = List ℕ} (b && not (shut o.0)) (f o.0 ++ raised os shut f o.0) [] ++ raised os shut f c ≡ raised os shut f c
      at_case true q = absurd (n (number o.1 c q))
      at_case false q = refl

  other_from : (o : ℕ × ℕ) (os : List (ℕ × ℕ)) (c : ℕ) → o.1 ≢ c → raised_from (o ∷ os) shut f c ≡ raised_from os shut f c
  other_from o os c n = ap (λ l. f c ++ l) (other o os c n)

  -- what is below a scope is what is from the scopes right below it that aren't shut
  pub raised_is : (os : List (ℕ × ℕ)) → IsForward os → (s : ℕ) → raised os shut f s ≡ flat_map (raised_from os shut f) (filter (λ c. not (shut c)) (of_scope os s))
  raised_is [] w s = refl
  raised_is (o ∷ os) w s =
      let same : flat_map (raised_from (o ∷ os) shut f) (filter (λ c. not (shut c)) (of_scope os s)) ≡ raised os shut f s =
      flat_same (raised_from (o ∷ os) shut f) (raised_from os shut f) (filter (λ c. not (shut c)) (of_scope os s))
      (λ c m. other_from o os c (λ e. w.1 (s, subst (λ x. IsAmong (x, s) os) (sym e) (of_scope_in os s c (among_filter (λ x. not (shut x)) c (of_scope os s) m).0))))
      ∙ sym (raised_is os w.3 s) in
      at_case (nat_eq o.1 s) (not (shut o.0)) refl same
    where
      at_case : (b c : Bool) → not (shut o.0) ≡ c → flat_map (raised_from (o ∷ os) shut f) (filter (λ c. not (shut c)) (of_scope os s)) ≡ raised os shut f s
          → cond {A = List ℕ} (b && c) (f o.0 ++ raised os shut f o.0) [] ++ raised os shut f s ≡ flat_map (raised_from (o ∷ os) shut f) (filter (λ c. not (shut c)) (cond b (o.0 ∷ of_scope os s) (of_scope os s)))
      at_case true true q same =
          ap (λ l. l ++ raised os shut f s) (sym (other_from o os o.0 w.2))
          ∙ ap (λ l. raised_from (o ∷ os) shut f o.0 ++ l) (sym same)
          ∙ ap (λ b. flat_map (raised_from (o ∷ os) shut f) (cond b (o.0 ∷ filter (λ c. not (shut c)) (of_scope os s)) (filter (λ c. not (shut c)) (of_scope os s)))) (sym q)
      at_case true false q same =
          sym same
          ∙ ap (λ b. flat_map (raised_from (o ∷ os) shut f) (cond b (o.0 ∷ filter (λ c. not (shut c)) (of_scope os s)) (filter (λ c. not (shut c)) (of_scope os s)))) (sym q)
      at_case false c q same = sym same

reverse_latest : (xs : List (ℕ × ℕ)) (s : ℕ) → reverse (latest xs s) ≡ of_scope xs s
reverse_latest [] s = refl
reverse_latest (x ∷ xs) s = reverse-append (latest xs s) (cond (nat_eq x.1 s) (x.0 ∷ []) []) ∙ ap (λ l. reverse (cond (nat_eq x.1 s) (x.0 ∷ []) []) ++ l) (reverse_latest xs s)
    ∙ elim (nat_eq x.1 s) as (λ b. reverse (cond b (x.0 ∷ []) []) ++ of_scope xs s ≡ cond b (x.0 ∷ of_scope xs s) (of_scope xs s)) [ true ↦ refl | false ↦ refl ]

module _ (shut : ℕ → Bool) (xs : List (ℕ × ℕ)) where
  reverse_beneath : (os : List (ℕ × ℕ)) (s : ℕ) → reverse (rows_beneath os shut xs s) ≡ raised os shut (of_scope xs) s
  reverse_beneath [] s = refl
  reverse_beneath (o ∷ os) s =
      let b = nat_eq o.1 s && not (shut o.0) in
      let inner : reverse (rows_beneath os shut xs o.0 ++ latest xs o.0) ≡ of_scope xs o.0 ++ raised os shut (of_scope xs) o.0 =
      reverse-append (rows_beneath os shut xs o.0) (latest xs o.0) ∙ ap (λ l. l ++ reverse (rows_beneath os shut xs o.0)) (reverse_latest xs o.0) ∙ ap (λ l. of_scope xs o.0 ++ l) (reverse_beneath os o.0) in
      reverse-append (rows_beneath os shut xs s) (cond b (rows_beneath os shut xs o.0 ++ latest xs o.0) [])
      ∙ ap (λ l. reverse (cond b (rows_beneath os shut xs o.0 ++ latest xs o.0) []) ++ l) (reverse_beneath os s)
      ∙ ap (λ l. l ++ raised os shut (of_scope xs) s) (within b (rows_beneath os shut xs o.0 ++ latest xs o.0) (of_scope xs o.0 ++ raised os shut (of_scope xs) o.0) inner)
    where
      within : (b : Bool) (l m : List ℕ) → reverse l ≡ m → reverse (cond b l []) ≡ cond b m []
      within true l m e = e
      within false l m e = refl

-- what a Close takes down, the last first
pub reverse_teardown : (E : List What) (s : ℕ) → reverse (teardown E s) ≡ raised_from (opens E) (λ c. has c (closes E)) (of_scope (rows E)) s
reverse_teardown E s =
    reverse-append (rows_beneath (opens E) (λ c. has c (closes E)) (rows E) s) (latest (rows E) s)
    ∙ ap (λ l. l ++ reverse (rows_beneath (opens E) (λ c. has c (closes E)) (rows E) s)) (reverse_latest (rows E) s)
    ∙ ap (λ l. of_scope (rows E) s ++ l) (reverse_beneath (λ c. has c (closes E)) (rows E) (opens E) s)

-- one scope of a stack is replaced by those right below it
module _ (os : List (ℕ × ℕ)) (shut : ℕ → Bool) (f : ℕ → List ℕ) (forward : IsForward os) where
  pub one_raised : (s : ℕ) (ys old new : List ℕ) → old ≡ ys ++ s ∷ [] → new ≡ ys ++ reverse (filter (λ c. not (shut c)) (of_scope os s)) → f s ++ flat_map (raised_from os shut f) (reverse new) ≡ flat_map (raised_from os shut f) (reverse old)
  one_raised s ys old new a b =
      let K = filter (λ c. not (shut c)) (of_scope os s) in
      let F = raised_from os shut f in
      let after : reverse new ≡ K ++ reverse ys = ap reverse b ∙ reverse-append ys (reverse K) ∙ ap (λ l. l ++ reverse ys) (reverse-reverse K) in
      let before : reverse old ≡ s ∷ reverse ys = ap reverse a ∙ reverse-append ys (s ∷ []) in
      ap (λ l. f s ++ flat_map F l) after
      ∙ ap (λ l. f s ++ l) (flat_map-append F K (reverse ys))
      ∙ sym (append_assoc (f s) (flat_map F K) (flat_map F (reverse ys)))
      ∙ ap (λ l. (f s ++ l) ++ flat_map F (reverse ys)) (sym (raised_is shut f os forward s))
      ∙ ap (flat_map F) (sym before)

-- the stack has less to come
pub raised_less : (os : List (ℕ × ℕ)) (shut : ℕ → Bool) → IsForward os → (s : ℕ) (ys old new : List ℕ) → old ≡ ys ++ s ∷ [] → new ≡ ys ++ reverse (filter (λ c. not (shut c)) (of_scope os s)) → length (flat_map (raised_from os shut (λ c. c ∷ [])) (reverse new)) < length (flat_map (raised_from os shut (λ c. c ∷ [])) (reverse old))
raised_less os shut w s ys old new a b =
    let e = ap length (one_raised os shut (λ c. c ∷ []) w s ys old new a b) in
    let F = flat_map (raised_from os shut (λ c. c ∷ [])) (reverse new) in
    let l : length (s ∷ F) ≡ length F + 1 = omega arith in
    omega (arith, e, l)
