-- Numbers that are read, and the head of a frame.
use Rattle.std.specs.Prelude.{◌≡◌, ◌≢◌, ℕ, ◌<◌, ◌^◌, List, [], ◌∷◌, ◌++◌, decimal, Option, MatchOption}
use Rattle.std.specs.Borrow.{Bor}

-- the value that the text spells, of the values with P, or None where it spells none
abbrev pub IsReadAs : {A : Type 0} → (A → Type 0) → (A → List ℕ) → List ℕ → Option A → Type 0
IsReadAs {A} P spelling text r = MatchOption r ((x : A) → P x → text ≢ spelling x) (λ x. P x × (text ≡ spelling x))

-- the same of a value that the text begins with, and what stands behind it
abbrev pub IsReadInFront : {A : Type 0} → (A → Type 0) → (A → List ℕ) → List ℕ → Option (A × Bor (List ℕ)) → Type 0
IsReadInFront {A} P spelling text r = MatchOption r ((x : A) (rest : List ℕ) → P x → text ≢ spelling x ++ rest) (λ p. P p.0 × (text ≡ spelling p.0 ++ p.1.now))

-- the stream's number, and the payload's length
abbrev pub head_text : ℕ → ℕ → List ℕ
head_text k n = (decimal k ++ 32 ∷ []) ++ (decimal n ++ 10 ∷ [])

-- the text begins with no head
abbrev pub HasNoHead : List ℕ → Type 0
HasNoHead text = (k n : ℕ) (rest : List ℕ) → k < 2 ^ 64 → n < 2 ^ 64 → text ≢ head_text k n ++ rest
