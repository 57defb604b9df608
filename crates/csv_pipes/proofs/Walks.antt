-- A reader that goes from one record to the next.
use Rattle.std.proofs.Common.{◌≡◌, ℕ, zero, suc, ◌+◌, ◌<◌, ◌≤◌, ◌||◌, ◌==◌, Bool, true, false, cond, List, [], ◌∷◌, ◌++◌, length, Option, Some, None, refl, ap, arith}
use Rattle.csv.specs.Machine.{Read, next_record, step, in_field, start_field, start_record, is_end, fields_after, ends_at_end}
use Rattle.csv.specs.Reading.{records_from, records_next, default_config}
use Rattle.csv.specs.declared.parser.State.{State}
use Rattle.csv.specs.declared.parser.State.TheVariants as st
use Rattle.csv.specs.declared.parser.Action.{Action}
use Rattle.csv.specs.declared.parser.Action.TheVariants as act

abbrev Turn : Type 0
Turn = State × Action

-- a step that ends a record leaves a state between records
abbrev EndsIdle : Turn → Type 0
EndsIdle t = is_end t.1 ≡ true → ends_at_end t.0 ≡ false

ends_in_field : (a b d : Bool) → EndsIdle (cond {A = Turn} a (st.StartField, act.EndField) (cond {A = Turn} b (cond d st.AfterCr st.StartRecord, act.EndRecord) (st.InField, act.Copy)))
ends_in_field true b d e = (cc)
ends_in_field false true true e = refl
ends_in_field false true false e = refl
ends_in_field false false d e = (cc)

in_field_idle : (c : ℕ) → EndsIdle (in_field default_config c)
in_field_idle c = ends_in_field (c == 44) ((c == 13) || (c == 10)) (c == 13)

skips : (a : Bool) (s : State) (k : Action) (t : Turn) → is_end k ≡ false → EndsIdle t → EndsIdle (cond {A = Turn} a (s, k) t)
skips true s k t none h e = absurd (cc (none, e))
skips false s k t none h e = h e

start_field_idle : (c : ℕ) → EndsIdle (start_field default_config c)
start_field_idle c = skips (c == 34) st.InQuoted act.Skip (in_field default_config c) refl (in_field_idle c)

start_record_idle : (c : ℕ) → EndsIdle (start_record default_config c)
start_record_idle c = skips ((c == 13) || (c == 10)) st.StartRecord act.Skip (start_field default_config c) refl (start_field_idle c)

step_idle : (s : State) (c : ℕ) → EndsIdle (step default_config s c)
step_idle st.StartRecord c = start_record_idle c
step_idle st.StartField c = start_field_idle c
step_idle st.InField c = in_field_idle c
step_idle st.InQuoted c = skips (c == 34) st.AfterQuote act.Skip (st.InQuoted, act.Copy) refl (λ e. (cc))
step_idle st.InEscape c = λ e. (cc)
step_idle st.AfterQuote c = skips (c == 34) st.InQuoted act.Copy (in_field default_config c) refl (in_field_idle c)
step_idle st.InComment c = skips (c == 10) st.StartRecord act.Skip (st.InComment, act.Skip) refl (λ e. (cc))
step_idle st.AfterCr c = skips (c == 10) st.StartRecord act.Skip (start_record default_config c) refl (start_record_idle c)

-- what is left after a record
record Left (p : Read) (n : ℕ) : Type 0 where
  idle : ends_at_end p.1 ≡ false
  short : length p.2 ≤ n

some_is : (p q : Read) → Some p ≡ Some q → p ≡ q
some_is p q e = (cc)

left_step : (t : Bool) (now : Read) (later : Option Read) (n : ℕ) → (t ≡ true → Left now n) → ((p : Read) → later ≡ Some p → Left p n) → (p : Read) → cond t (Some now) later ≡ Some p → Left p n
left_step true now later n here more p e = rw (some_is now p e) at (here refl)
left_step false now later n here more p e = more p e

more_left : (p : Read) (n : ℕ) → Left p n → Left p (suc n)
more_left p n l = let h = l.short in record { idle = l.idle; short = omega (arith, h) }

after_one : (s : State) (fields : List (List ℕ)) (field : List ℕ) (c : ℕ) (rest : List ℕ) (p : Read)
    → ((s2 : State) (f2 : List (List ℕ)) (g : List ℕ) (q : Read) → next_record default_config s2 f2 g rest ≡ Some q → Left q (length rest))
    → next_record default_config s fields field (c ∷ rest) ≡ Some p → Left p (length rest)
unfolding next_record
after_one s fields field c rest p more e =
    left_step (is_end (step default_config s c).1) (fields_after (step default_config s c).1 fields field, (step default_config s c).0, rest) _ (length rest)
    (λ t. record { idle = step_idle s c t; short = omega arith }) (λ q h. more _ _ _ q h) p e

left_at_end : (t : Bool) (f : List (List ℕ)) (p : Read) → cond {A = Option Read} t (Some (f, st.StartRecord, [])) None ≡ Some p → Left p 0
left_at_end true f p e =
    let l : Left (f, st.StartRecord, []) 0 = record { idle = refl; short = omega arith } in
    rw (some_is (f, st.StartRecord, []) p e) at l
left_at_end false f p e = absurd (cc (e))

left_of : (xs : List ℕ) (s : State) (fields : List (List ℕ)) (field : List ℕ) (p : Read) → next_record default_config s fields field xs ≡ Some p → Left p (length xs)
unfolding next_record
left_of [] s fields field p e = left_at_end (ends_at_end s) (fields ++ field ∷ []) p e
left_of (c ∷ rest) s fields field p e = more_left p (length rest) (after_one s fields field c rest p (λ s2 f2 g q h. left_of rest s2 f2 g q h) e)

-- from a state between records a record takes at least one byte
left_idle : (xs : List ℕ) (s : State) (p : Read) → ends_at_end s ≡ false → next_record default_config s [] [] xs ≡ Some p → (n : ℕ) × (length xs ≡ suc n) × Left p n
unfolding next_record
left_idle [] s p idle e = absurd (cc (idle, e))
left_idle (c ∷ rest) s p idle e = (length rest, refl, after_one s [] [] c rest p (λ s2 f2 g q h. left_of rest s2 f2 g q h) e)

-- behind a record the reader stands between two records
pub state_between : (xs : List ℕ) (s : State) (p : Read) → ends_at_end s ≡ false → next_record default_config s [] [] xs ≡ Some p → ends_at_end p.1 ≡ false
state_between xs s p idle next = let (k, size, left) = left_idle xs s p idle next in left.idle

-- any number that is large enough gives all records
next_same : (xs : List ℕ) (s : State) (more others : State → List ℕ → List (List (List ℕ))) (o : Option Read) → ends_at_end s ≡ false → next_record default_config s [] [] xs ≡ o
    → ((p : Read) → ends_at_end p.1 ≡ false → length p.2 < length xs → more p.1 p.2 ≡ others p.1 p.2) → records_next more o ≡ records_next others o
next_same xs s more others None idle e same = refl
next_same xs s more others (Some p) idle e same =
    let (k, size, left) = left_idle xs s p idle e in
    let short = left.short in
    ap (λ z. p.0 ∷ z) (same p left.idle (omega arith))

records_same : (n m : ℕ) (s : State) (xs : List ℕ) → ends_at_end s ≡ false → length xs < n → length xs < m → records_from default_config n s xs ≡ records_from default_config m s xs
unfolding records_from
records_same zero m s xs idle a b = absurd (omega arith)
records_same (suc n) zero s xs idle a b = absurd (omega arith)
records_same (suc n) (suc m) s xs idle a b =
    next_same xs s (records_from default_config n) (records_from default_config m) (next_record default_config s [] [] xs) idle refl
    (λ p between short. records_same n m p.1 p.2 between (omega arith) (omega arith))

-- the first record, and those of what is left behind it
pub records_take : (n : ℕ) (s : State) (xs : List ℕ) (p : Read) → ends_at_end s ≡ false → length xs < n → next_record default_config s [] [] xs ≡ Some p
    → records_from default_config n s xs ≡ p.0 ∷ records_from default_config (length p.2 + 1) p.1 p.2
unfolding records_from
records_take zero s xs p idle a next = absurd (omega arith)
records_take (suc n) s xs p idle a next =
    let (k, size, left) = left_idle xs s p idle next in
    let short = left.short in
    rw next (ap (λ z. p.0 ∷ z) (records_same n (length p.2 + 1) p.1 p.2 left.idle (omega arith) (omega arith)))

-- there is none
pub records_end : (n : ℕ) (s : State) (xs : List ℕ) → next_record default_config s [] [] xs ≡ None → records_from default_config n s xs ≡ []
unfolding records_from
records_end zero s xs none = refl
records_end (suc n) s xs none = rw none refl

next_few : (n : ℕ) (more : State → List ℕ → List (List (List ℕ))) (o : Option Read) → ((s : State) (xs : List ℕ) → length (more s xs) ≤ n) → length (records_next more o) ≤ suc n
next_few n more None few = omega arith
next_few n more (Some p) few = let rest = few p.1 p.2 in omega arith

-- no more than that number
pub records_few : (n : ℕ) (s : State) (xs : List ℕ) → length (records_from default_config n s xs) ≤ n
unfolding records_from
records_few zero s xs = omega arith
records_few (suc n) s xs = next_few n (records_from default_config n) (next_record default_config s [] [] xs) (records_few n)
