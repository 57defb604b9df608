-- Reading that stops at the first refusal.
use Rattle.std.specs.Prelude.{◌≡◌, ℕ, ◌+◌, Bool, List, [], ◌∷◌, ◌++◌, Option, Some, None, Result, Ok, Err, if◌then◌else◌}
use Rattle.pipeline_desc.specs.declared.refusal.Position.{Position}
use Rattle.pipeline_desc.specs.declared.refusal.Position.TheVariants.{Nowhere, InStream, AtStep}
use Rattle.pipeline_desc.specs.declared.refusal.Refusal.{Refusal}
use Rattle.pipeline_desc.specs.declared.refusal.RefusalKind.{RefusalKind}
use Rattle.pipeline_desc.specs.declared.refusal.Refused.{Refused}
use Rattle.pipeline_desc.specs.declared.refusal.Refused.TheVariants as refused

-- a value, or why there is none
abbrev pub Reading : Type 0 → Type 0
Reading A = Result A Refusal

-- the refusal of what stands there, with the numbers that it carries
abbrev pub refusal_of : RefusalKind → Position → Refusal
refusal_of kind Nowhere = record { kind = kind; stream = None; step = None }
refusal_of kind (InStream k) = record { kind = kind; stream = Some k; step = None }
refusal_of kind (AtStep k i) = record { kind = kind; stream = Some k; step = Some i }

-- no value, and this refusal
abbrev pub refuse : {A : Type 0} → RefusalKind → Position → Reading A
refuse kind position = Err (refusal_of kind position)

-- what is read next, where nothing was refused before
infixl 10 ◌>>=◌
abbrev pub ◌>>=◌ : {A B : Type 0} → Reading A → (A → Reading B) → Reading B
(Ok x) >>= f = f x
(Err e) >>= f = Err e

-- nothing, where the test passes
abbrev pub passes : Bool → RefusalKind → Position → Reading (Unit {0})
passes test kind position = if test then Ok tt else refuse kind position

-- the value, where there is one
abbrev pub present : {A : Type 0} → Option A → RefusalKind → Position → Reading A
present None kind position = refuse kind position
present (Some x) kind position = Ok x

-- what each element means, in order; the first has the number i
abbrev pub each_from : {A B : Type 0} → (ℕ → A → Reading B) → ℕ → List A → Reading (List B)
each_from f i [] = Ok []
each_from f i (x ∷ xs) = f i x >>= (λ y. each_from f (i + 1) xs >>= (λ ys. Ok (y ∷ ys)))

-- what each element means beside what those before it mean, in order; these were found before the first
abbrev pub each_behind : {A B : Type 0} → (List B → A → Reading B) → List B → List A → Reading (List B)
each_behind f found [] = Ok found
each_behind f found (x ∷ xs) = f found x >>= (λ y. each_behind f (found ++ y ∷ []) xs)

-- the failure is what is read; memory may be wanting at any time
abbrev pub RefusesAs : {Y : Type 0} → Refused → Reading Y → Type 0
RefusesAs refused.Memory reading = Unit {0}
RefusesAs (refused.Desc e) reading = reading ≡ Err e

-- the answer, seen by view, is what is read, or memory was wanting
abbrev pub ReadsAs : {X Y : Type 0} → (X → Y) → Result X Refused → Reading Y → Type 0
ReadsAs view (Ok x) reading = reading ≡ Ok (view x)
ReadsAs view (Err e) reading = RefusesAs e reading
