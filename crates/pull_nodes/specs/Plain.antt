-- Words on elements and lists that several pipes share.
use Rattle.std.specs.Prelude.{◌≡◌, ℕ, zero, suc, ◌-◌, ◌*◌, ◌/◌, ◌^◌, min, List, [], ◌∷◌, ◌++◌, length, take, drop}
use Rattle.chunk_core.specs.Elements.{Element, Byte, Line, Row}

-- the bytes among the elements
abbrev pub bytes_of : List Element → List ℕ
bytes_of [] = []
bytes_of (Byte b ∷ xs) = b ∷ bytes_of xs
bytes_of (Line line ∷ xs) = bytes_of xs
bytes_of (Row fields ∷ xs) = bytes_of xs

-- the second list is the first one and maybe more
abbrev pub IsFront : {A : Type 0} → List A → List A → Type 0
IsFront {A} ys zs = (more : List A) × (zs ≡ ys ++ more)

-- the greatest multiple of n up to a number
abbrev pub multiple : ℕ → ℕ → ℕ
multiple n len = n * (len / n)

-- the first k groups of n
abbrev pub groups : {A : Type 0} → ℕ → ℕ → List A → List (List A)
groups n zero xs = []
groups n (suc k) xs = take n xs ∷ groups n k (drop n xs)

-- a line, where it isn't empty
abbrev pub if_any : List ℕ → List (List ℕ)
if_any [] = []
if_any (c ∷ line) = (c ∷ line) ∷ []

-- what stands behind the last whole group of n
abbrev pub ungrouped : {A : Type 0} → ℕ → List A → List A
ungrouped n xs = drop (multiple n (length xs)) xs

-- a number of 64 bits, which stays at the greatest
abbrev pub capped_number : ℕ → ℕ
capped_number n = min n (2 ^ 64 - 1)
