-- A load is its elements and its kind.
use Rattle.std.proofs.Common.{◌≡◌, ℕ, List, [], ◌∷◌, map, refl, sym, ap, ◌∙◌, arith}
use Rattle.chunk_core.specs.Elements.{Element, Byte, Line, Row, LoadKind, Bytes, Lines, Rows, elements, kind_of}
use Rattle.chunk_core.specs.declared.load.Load.{Load}
use Rattle.chunk_core.specs.declared.load.Load.TheVariants as load

abbrev byte_of : Element → ℕ
byte_of (Byte b) = b
byte_of (Line line) = 0
byte_of (Row fields) = 0

abbrev line_of : Element → List ℕ
line_of (Byte b) = []
line_of (Line line) = line
line_of (Row fields) = []

abbrev fields_of : Element → List (List ℕ)
fields_of (Byte b) = []
fields_of (Line line) = []
fields_of (Row fields) = fields

map_back : {X Y : Type 0} (f : X → Y) (g : Y → X) → ((x : X) → g (f x) ≡ x) → (xs : List X) → map g (map f xs) ≡ xs
map_back f g h [] = refl
map_back f g h (x ∷ xs) = ap (λ y. y ∷ map g (map f xs)) (h x) ∙ ap (λ l. x ∷ l) (map_back f g h xs)

inj : {X Y : Type 0} (f : X → Y) (g : Y → X) → ((x : X) → g (f x) ≡ x) → (xs ys : List X) → map f xs ≡ map f ys → xs ≡ ys
inj f g h xs ys e = sym (map_back f g h xs) ∙ (ap (λ l. map g l) e ∙ map_back f g h ys)

-- a number for each kind
abbrev code_of : LoadKind → ℕ
code_of Bytes = 0
code_of Lines = 1
code_of Rows = 2

apart : (j k : LoadKind) → ¬ (code_of j ≡ code_of k) → ¬ (j ≡ k)
apart j k n e = n (ap code_of e)

-- loads of the same elements and of the same kind are the same
pub same_load : (a b : Load) → elements a ≡ elements b → kind_of a ≡ kind_of b → a ≡ b
same_load (load.Bytes xs) (load.Bytes ys) e k = ap (λ l. load.Bytes l) (inj Byte byte_of (λ x. refl) xs ys e)
same_load (load.Lines xs) (load.Lines ys) e k = ap (λ l. load.Lines l) (inj Line line_of (λ x. refl) xs ys e)
same_load (load.Rows xs) (load.Rows ys) e k = ap (λ l. load.Rows l) (inj Row fields_of (λ x. refl) xs ys e)
same_load (load.Bytes xs) (load.Lines ys) e k = absurd (apart Bytes Lines (λ n. omega arith) k)
same_load (load.Bytes xs) (load.Rows ys) e k = absurd (apart Bytes Rows (λ n. omega arith) k)
same_load (load.Lines xs) (load.Bytes ys) e k = absurd (apart Lines Bytes (λ n. omega arith) k)
same_load (load.Lines xs) (load.Rows ys) e k = absurd (apart Lines Rows (λ n. omega arith) k)
same_load (load.Rows xs) (load.Bytes ys) e k = absurd (apart Rows Bytes (λ n. omega arith) k)
same_load (load.Rows xs) (load.Lines ys) e k = absurd (apart Rows Lines (λ n. omega arith) k)
