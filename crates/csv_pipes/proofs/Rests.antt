-- Rows of one length, one after another.
use Rattle.std.proofs.Common.{◌≡◌, ℕ, Bool, true, false, not, List, [], ◌∷◌, ◌++◌, length, append_assoc, Option, Some, None, refl, ap, sym, ◌∙◌}
use Rattle.std.specs.Prelude.{unwrap_or}
use Rattle.std.specs.List.{before_first, list_any}
use Rattle.std.proofs.lemmas.Bool.{eq-eqb, ne_eqb}
use Rattle.pull_nodes.specs.Csv.{has_other_length, first_length}
use Rattle.pull_nodes.proofs.LineLaws.{before_first-none}
use Rattle.std.proofs.lemmas.List.{append-nil}
use Rattle.csv_pipes.specs.Even.{Rest, TakesRow, TakesRows, rest_of}
use Rattle.csv_pipes.specs.declared.even.Found.{Found}
use Rattle.csv_pipes.specs.declared.even.Found.TheVariants as found

-- the width of the rows, where the first of them has this length or it is known
same_width : (width : Option ℕ) (r : List (List ℕ)) (rs : List (List (List ℕ))) → unwrap_or width (first_length (r ∷ rs)) ≡ unwrap_or width (length r)
same_width None r rs = refl
same_width (Some n) r rs = refl

module _ (n : ℕ) (r : List (List ℕ)) (rs : List (List (List ℕ))) where
  abbrev cut : List (List (List ℕ)) → Rest
  cut rows = (before_first (has_other_length n) rows, list_any (has_other_length n) rows)

  keeps : has_other_length n r ≡ false → cut (r ∷ rs) ≡ (r ∷ before_first (has_other_length n) rs, list_any (has_other_length n) rs)
  keeps e =
      let none : list_any (has_other_length n) (r ∷ []) ≡ false = rw e refl in
      let any : list_any (has_other_length n) (r ∷ rs) ≡ list_any (has_other_length n) rs = rw e refl in
      λ i. (before_first-none (has_other_length n) (r ∷ []) rs none i, any i)

  ends : has_other_length n r ≡ true → cut (r ∷ rs) ≡ ([], true)
  ends e = rw e refl

pub takes_row : (width : Option ℕ) (r : List (List ℕ)) (n : ℕ) (rs : List (List (List ℕ))) → unwrap_or width (length r) ≡ length r → n ≡ length r
    → rest_of width (r ∷ rs) ≡ (r ∷ (rest_of (Some n) rs).0, (rest_of (Some n) rs).1)
takes_row width r n rs e len =
    let same : unwrap_or width (first_length (r ∷ rs)) ≡ length r = same_width width r rs ∙ e in
    ap (λ k. cut k r rs (r ∷ rs)) same
    ∙ (keeps (length r) r rs (ap not (eq-eqb (length r) (length r) refl)) ∙ ap (λ k. (r ∷ (rest_of (Some k) rs).0, (rest_of (Some k) rs).1)) (sym len))

pub uneven_row : (width : Option ℕ) (r : List (List ℕ)) (rs : List (List (List ℕ))) → (unwrap_or width (length r) ≡ length r → ⊥) → rest_of width (r ∷ rs) ≡ ([], true)
uneven_row width r rs e =
    let n = unwrap_or width (length r) in
    ap (λ k. cut k r rs (r ∷ rs)) (same_width width r rs) ∙ ends n r rs (ap not (ne_eqb (length r) n (λ i. e (sym i))))

-- rows that were taken stand before those that are left
module _ (rows : List (List (List ℕ))) (left whole : Rest) (before : whole ≡ (rows ++ left.0, left.1)) where
  pub rest_more : (fields : List (List ℕ)) (new : Rest) → left ≡ (fields ∷ new.0, new.1) → whole ≡ ((rows ++ fields ∷ []) ++ new.0, new.1)
  rest_more fields new next =
      before ∙ (ap (λ (r : Rest). (rows ++ r.0, r.1)) next ∙ ap (λ l. (l, new.1)) (sym (append_assoc rows (fields ∷ []) new.0)))

  pub rest_all : (b : Bool) → left ≡ ([], b) → whole ≡ (rows, b)
  rest_all b none = before ∙ (ap (λ (r : Rest). (rows ++ r.0, r.1)) none ∙ ap (λ l. (l, b)) (append-nil rows))

  -- there is no row more
  pub taken_all : (f : Found) (fields : List (List ℕ)) (new later : Rest) → (f ≡ found.Row → ⊥) → TakesRow f left fields new → TakesRows f whole rows later
  taken_all found.Row fields new later other next = absurd (other refl)
  taken_all found.End fields new later other next = rest_all false next
  taken_all found.Uneven fields new later other next = rest_all true next
