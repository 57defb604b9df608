-- The texts of loads.
use Rattle.std.proofs.Common.{◌≡◌, ℕ, ◌==◌, Bool, List, [], ◌∷◌, ◌++◌, length, refl, ap, ◌∙◌, cond, map}
use Rattle.std.specs.List.{flat_map}
use Rattle.csv.specs.Writing.{escaped, fields_text, field_text, is_blank, row_text, default_writer}
use Rattle.chunk_core.specs.Elements.{rendering_of}
use Rattle.chunk_core.specs.Elements.Element.{Byte, Line, Row}
use Rattle.chunk_core.specs.Writing.{flexible_writer}

escaped_same : (field : List ℕ) → escaped flexible_writer field ≡ escaped default_writer field
unfolding escaped
escaped_same [] = refl
escaped_same (b ∷ rest) = rw (escaped_same rest)

field_same : (field : List ℕ) → field_text flexible_writer field ≡ field_text default_writer field
field_same field = rw (escaped_same field)

fields_same : (fields : List (List ℕ)) → fields_text flexible_writer fields ≡ fields_text default_writer fields
unfolding fields_text
fields_same [] = refl
fields_same (f ∷ fields) = ap (λ x. 44 ∷ (x ++ fields_text flexible_writer fields)) (field_same f) ∙ ap (λ y. 44 ∷ (field_text default_writer f ++ y)) (fields_same fields)

blank_same : (fields : List (List ℕ)) → is_blank flexible_writer fields ≡ is_blank default_writer fields
unfolding is_blank
blank_same [] = refl
blank_same (f ∷ []) = ap (λ x. length x == 0) (field_same f)
blank_same (f ∷ g ∷ fields) = refl

abbrev tail : Bool → List ℕ
tail b = cond b (34 ∷ 34 ∷ []) [] ++ 10 ∷ []

-- a row's text does not depend on whether the writer takes rows of other lengths
row_same : (fields : List (List ℕ)) → row_text flexible_writer fields ≡ row_text default_writer fields
row_same [] = rw (blank_same [])
row_same (f ∷ fields) =
    ap (λ x. (x ++ fields_text flexible_writer fields) ++ tail (is_blank flexible_writer (f ∷ fields))) (field_same f)
    ∙ (ap (λ y. (field_text default_writer f ++ y) ++ tail (is_blank flexible_writer (f ∷ fields))) (fields_same fields)
    ∙ ap (λ b. (field_text default_writer f ++ fields_text default_writer fields) ++ tail b) (blank_same (f ∷ fields)))

pub rows_same : (rows : List (List (List ℕ))) → flat_map (row_text flexible_writer) rows ≡ flat_map (row_text default_writer) rows
rows_same [] = refl
rows_same (r ∷ rows) = rw (rows_same rows) (ap (λ x. x ++ flat_map (row_text default_writer) rows) (row_same r))

pub bytes_rendering : (xs : List ℕ) → xs ≡ rendering_of (map Byte xs)
bytes_rendering [] = refl
bytes_rendering (x ∷ xs) = ap (λ ys. x ∷ ys) (bytes_rendering xs)

pub lines_rendering : (xs : List (List ℕ)) → flat_map (λ line. line ++ 10 ∷ []) xs ≡ rendering_of (map Line xs)
lines_rendering [] = refl
lines_rendering (x ∷ xs) = ap (λ ys. (x ++ 10 ∷ []) ++ ys) (lines_rendering xs)

pub rows_rendering : (xs : List (List (List ℕ))) → flat_map (row_text default_writer) xs ≡ rendering_of (map Row xs)
rows_rendering [] = refl
rows_rendering (x ∷ xs) = ap (λ ys. row_text default_writer x ++ ys) (rows_rendering xs)
