-- How the elements of a list are read one after another.
use Rattle.std.proofs.Common.{◌≡◌, ℕ, ◌+◌, ◌≤◌, Bool, true, List, [], ◌∷◌, ◌++◌, length, drop, Ok, Err, refl, ap, ◌∙◌, sym, append_assoc, Result, IsErrAnd, subst}
use Rattle.std.specs.List.{list_all}
use Rattle.std.proofs.lemmas.List.{append-nil, drop_all}
use Rattle.std.proofs.lemmas.List.Folds.{list_all-append}
use Rattle.pipeline_desc.specs.Reading.{Reading, ◌>>=◌, each_behind, each_from, RefusesAs, ReadsAs}
use Rattle.pipeline_desc.specs.declared.refusal.Refused.{Refused}
use Rattle.pipeline_desc.specs.declared.refusal.Refused.TheVariants as refused

-- what was read so far, and then the rest
abbrev pub after : {B : Type 0} → List B → Reading (List B) → Reading (List B)
after found reading = reading >>= (λ more. Ok (found ++ more))

after_one : {B : Type 0} (found : List B) (y : B) (reading : Reading (List B)) → after found (reading >>= (λ ys. Ok (y ∷ ys))) ≡ after (found ++ y ∷ []) reading
after_one found y (Ok ys) = ap (λ z. Ok z) (sym (append_assoc found (y ∷ []) ys))
after_one found y (Err e) = refl

module _ {A B : Type 0} (f : ℕ → A → Reading B) (xs : List A) (whole : Reading (List B)) (found : List B) (n i : ℕ) (so_far : whole ≡ after found (each_from f n (drop i xs))) where
  -- one more element
  pub each_next : (x : A) (y : B) → drop i xs ≡ x ∷ drop (i + 1) xs → f n x ≡ Ok y → whole ≡ after (found ++ y ∷ []) (each_from f (n + 1) (drop (i + 1) xs))
  each_next x y at is =
      let rest = each_from f (n + 1) (drop (i + 1) xs) in
      let here : whole ≡ after found (f n x >>= (λ z. rest >>= (λ zs. Ok (z ∷ zs)))) = so_far ∙ ap (λ zs. after found (each_from f n zs)) at in
      let read : whole ≡ after found (rest >>= (λ zs. Ok (y ∷ zs))) = here ∙ ap (λ r. after found (r >>= (λ z. rest >>= (λ zs. Ok (z ∷ zs))))) is in
      read ∙ after_one found y rest

  -- an element that is refused
  pub each_fails : (x : A) (e : Refused) → drop i xs ≡ x ∷ drop (i + 1) xs → RefusesAs e (f n x) → RefusesAs e whole
  each_fails x refused.Memory at h = tt
  each_fails x (refused.Desc e) at h =
      let rest = each_from f (n + 1) (drop (i + 1) xs) in
      let here : whole ≡ after found (f n x >>= (λ z. rest >>= (λ zs. Ok (z ∷ zs)))) = so_far ∙ ap (λ zs. after found (each_from f n zs)) at in
      here ∙ ap (λ r. after found (r >>= (λ z. rest >>= (λ zs. Ok (z ∷ zs))))) h

  -- no element is left
  pub each_ends : length xs ≤ i → whole ≡ Ok found
  each_ends past = so_far ∙ rw (drop_all i xs past, append-nil found)

module _ {A B : Type 0} (f : List B → A → Reading B) (xs : List A) (whole : Reading (List B)) (found : List B) (i : ℕ) (so_far : whole ≡ each_behind f found (drop i xs)) where
  -- one more element behind those before it
  pub behind_next : (x : A) (y : B) → drop i xs ≡ x ∷ drop (i + 1) xs → f found x ≡ Ok y → whole ≡ each_behind f (found ++ y ∷ []) (drop (i + 1) xs)
  behind_next x y at is = so_far ∙ (ap (each_behind f found) at ∙ ap (λ r. r >>= (λ z. each_behind f (found ++ z ∷ []) (drop (i + 1) xs))) is)

  -- an element that is refused
  pub behind_fails : (x : A) (e : Refused) → drop i xs ≡ x ∷ drop (i + 1) xs → RefusesAs e (f found x) → RefusesAs e whole
  behind_fails x refused.Memory at h = tt
  behind_fails x (refused.Desc e) at h = so_far ∙ (ap (each_behind f found) at ∙ ap (λ r. r >>= (λ z. each_behind f (found ++ z ∷ []) (drop (i + 1) xs))) h)

  -- no element is left
  pub behind_ends : length xs ≤ i → whole ≡ Ok found
  behind_ends past = so_far ∙ ap (each_behind f found) (drop_all i xs past)

-- a test that passes at those before and at one more
pub all_and : {B : Type 0} (p : B → Bool) (found : List B) (y : B) → list_all p found ≡ true → p y ≡ true → list_all p (found ++ y ∷ []) ≡ true
all_and p found y all one = list_all-append p found (y ∷ []) ∙ rw (all, one) refl

-- a refusal is handed on
pub handed_on : {X Y : Type 0} (view : X → Y) (answer : Result X Refused) (e : Refused) (reading : Reading Y) → IsErrAnd answer (λ d. d ≡ e) → RefusesAs e reading → ReadsAs view answer reading
handed_on view (Ok x) e reading is fails = absurd is
handed_on view (Err d) e reading is fails = subst (λ y. RefusesAs y reading) (sym is) fails

-- where something was read, the refusal is of what is read next
pub passed : {A B : Type 0} (r : Reading A) (f : A → Reading B) (x : A) (e : Refused) → r ≡ Ok x → RefusesAs e (f x) → RefusesAs e (r >>= f)
passed r f x e is h = subst (λ s. RefusesAs e (s >>= f)) (sym is) h

-- what is refused isn't read on
pub stopped : {A B : Type 0} (r : Reading A) (f : A → Reading B) (e : Refused) → RefusesAs e r → RefusesAs e (r >>= f)
stopped r f refused.Memory h = tt
stopped r f (refused.Desc e) h = ap (λ s. s >>= f) h

-- where something was read, what is read next
pub goes_on : {A B : Type 0} (r : Reading A) (f : A → Reading B) (x : A) (y : Reading B) → r ≡ Ok x → f x ≡ y → (r >>= f) ≡ y
goes_on r f x y is h = ap (λ s. s >>= f) is ∙ h
