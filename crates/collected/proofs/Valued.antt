-- The values of a plan's tables, of which a stream sees those that were read when it began.
use Rattle.std.proofs.Common.{◌≡◌, ℕ, zero, suc, ◌<◌, ◌≤◌, cond, nat_lt, List, [], ◌∷◌, ◌++◌, length, take, Option, Some, None, IfSome, refl, sym, ◌∙◌, ap, subst, ⊎_elim, arith, length-append}
use Rattle.std.proofs.Math.Path.{fun_ext}
use Rattle.std.proofs.lemmas.Bool.{cases_lt, lt-ltb}
use Rattle.std.specs.Prelude.{option_and_then, slice_get}
use Rattle.chunk_core.specs.Tables.{Values}
use Rattle.csv_pipes.specs.Dictionaries.{table_value}
use Rattle.device_port.specs.Device.{DeviceTold}
use Rattle.outer_tables.specs.Outcomes.{values_in}
use Rattle.plan_work.specs.Seen.{below}
use Rattle.collected.proofs.PlanPlaces.{not_less}

-- the value of what is told, or none
abbrev told_values : (ℕ → DeviceTold) → Values
told_values w t key = elim (w t).content [ Some bytes ↦ table_value bytes key | None ↦ None ]

-- those of the tables that were read, and of the others of what is told
abbrev pub values_by : (ℕ → DeviceTold) → List (List ℕ) → Values
values_by w contents t key = cond (nat_lt t (length contents)) (values_in contents t key) (told_values w t key)

slice_front : {A : Type 0} (xs ys : List A) (k : ℕ) → k < length xs → slice_get (xs ++ ys) k ≡ slice_get xs k
slice_front [] ys k l = absurd (omega (arith, l))
slice_front (x ∷ xs) ys zero l = refl
slice_front (x ∷ xs) ys (suc k) l = slice_front xs ys k (omega (arith, l))

slice_taken : {A : Type 0} (n : ℕ) (xs : List A) (k : ℕ) → k < n → slice_get (take n xs) k ≡ slice_get xs k
slice_taken zero xs k l = absurd (omega (arith, l))
slice_taken (suc n) [] k l = refl
slice_taken (suc n) (x ∷ xs) zero l = refl
slice_taken (suc n) (x ∷ xs) (suc k) l = slice_taken n xs k (omega (arith, l))

slice_past : {A : Type 0} (n : ℕ) (xs : List A) (k : ℕ) → n ≤ k → slice_get (take n xs) k ≡ None
slice_past zero xs k l = refl
slice_past (suc n) [] k l = refl
slice_past (suc n) (x ∷ xs) zero l = absurd (omega (arith, l))
slice_past (suc n) (x ∷ xs) (suc k) l = slice_past n xs k (omega (arith, l))

-- the values of the first tables are those of the contents that were read by then
pub first_values : (w : ℕ → DeviceTold) (front more contents : List (List ℕ)) (n : ℕ) → front ++ more ≡ contents → n ≤ length front → values_in (take n front) ≡ below n (values_by w contents)
first_values w front more contents n split few = fun_ext (λ t. fun_ext (λ key. ⊎_elim (λ (l : t < n). within t key l) (λ (l : n ≤ t). past t key l) (cases_lt t n)))
  where
    value : List ℕ → Option (List ℕ) → Option (List ℕ)
    value key o = option_and_then (λ bytes. table_value bytes key) o

    within : (t : ℕ) (key : List ℕ) → t < n → values_in (take n front) t key ≡ below n (values_by w contents) t key
    within t key l =
        let all = ap (λ (bs : List (List ℕ)). length bs) split in
        let both = length-append front more in
        ap (λ o. option_and_then (λ bytes. table_value bytes key) o) (slice_taken n front t l ∙ (sym (slice_front front more t (omega (arith, l, few))) ∙ ap (λ bs. slice_get bs t) split))
        ∙ (sym (ap (λ c. cond c (values_in contents t key) (told_values w t key)) (lt-ltb t (length contents) (omega (arith, l, few, all, both)))) ∙ sym (ap (λ c. cond c (values_by w contents t key) None) (lt-ltb t n l)))

    past : (t : ℕ) (key : List ℕ) → n ≤ t → values_in (take n front) t key ≡ below n (values_by w contents) t key
    past t key l = ap (λ o. option_and_then (λ bytes. table_value bytes key) o) (slice_past n front t l) ∙ sym (ap (λ c. cond c (values_by w contents t key) None) (not_less t n l))

-- the values of a table that was read are those of its contents, and of another those of what is told
pub told_by : (w : ℕ → DeviceTold) (contents : List (List ℕ)) (t : ℕ) (key : List ℕ) → (t < length contents → IfSome (w t).content (λ bytes. values_in contents t key ≡ table_value bytes key)) → IfSome (w t).content (λ bytes. values_by w contents t key ≡ table_value bytes key)
told_by w contents t key h =
    ⊎_elim
    (λ (l : t < length contents). subst (λ v. IfSome (w t).content (λ bytes. v ≡ table_value bytes key)) (sym (ap (λ c. cond c (values_in contents t key) (told_values w t key)) (lt-ltb t (length contents) l))) (h l))
    (λ (l : length contents ≤ t). subst (λ v. IfSome (w t).content (λ bytes. v ≡ table_value bytes key)) (sym (ap (λ c. cond c (values_in contents t key) (told_values w t key)) (not_less t (length contents) l))) (told_valued (w t).content))
    (cases_lt t (length contents))
  where
    told_valued : (o : Option (List ℕ)) → IfSome o (λ bytes. elim o [ Some x ↦ table_value x key | None ↦ None ] ≡ table_value bytes key)
    told_valued (Some x) = refl
    told_valued None = tt
