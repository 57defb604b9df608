-- What is made of rows, one after another.
use Rattle.std.proofs.Common.{◌≡◌, ℕ, ◌+◌, ◌<◌, ◌≤◌, true, false, List, [], ◌∷◌, ◌++◌, map, length, take, drop, get_or, Option, Some, None, ap, sym, ◌∙◌}
use Rattle.std.proofs.lemmas.List.{append-nil, map-append, take_more, take_all, take-append-drop, drop_more}
use Rattle.chunk_core.specs.Elements.{Element, Row}
use Rattle.chunk_core.specs.Feed.{Given}
use Rattle.pull_nodes.specs.Field.{each_made, or_no_field}
use Rattle.pull_nodes.specs.PipeRule.{without_fault}
use Rattle.pull_nodes.proofs.Field.{and_then, each_made-append}
use Rattle.csv_pipes.specs.Made.{made_of}

module _ (made : Element → Option Element) where
  module _ (front : List (List (List ℕ))) (r : List (List ℕ)) (ys : List Element) (before : each_made made (map Row front) ≡ made_of ys true) where
    behind : (rest : List (List (List ℕ))) → each_made made (map Row (front ++ r ∷ rest)) ≡ and_then made (made_of ys true) (or_no_field (made (Row r)) (each_made made (map Row rest)))
    behind rest =
        ap (each_made made) (map-append Row front (r ∷ rest))
        ∙ (each_made-append made (map Row front) (map Row (r ∷ rest)) (ap (λ (g : Given). g.fault) before) ∙ ap (λ g. and_then made g (each_made made (map Row (r ∷ rest)))) before)

    more : (y : Element) → made (Row r) ≡ Some y → each_made made (map Row (front ++ r ∷ [])) ≡ made_of (ys ++ y ∷ []) true
    more y is = behind [] ∙ ap (λ o. and_then made (made_of ys true) (or_no_field o (without_fault []))) is

    lacks : (rest : List (List (List ℕ))) → made (Row r) ≡ None → each_made made (map Row (front ++ r ∷ rest)) ≡ made_of ys false
    lacks rest is =
        behind rest
        ∙ (ap (λ o. and_then made (made_of ys true) (or_no_field o (each_made made (map Row rest)))) is ∙ ap (λ l. made_of l false) (append-nil ys))

  module _ (rows : List (List (List ℕ))) (i : ℕ) (ys : List Element) (before : each_made made (map Row (take i rows)) ≡ made_of ys true) where
    -- all rows were taken
    pub made_all : length rows ≤ i → each_made made (map Row rows) ≡ made_of ys true
    made_all all = rw (take_all i rows all) at before

    module _ (r : List (List ℕ)) (within : i < length rows) (is : r ≡ get_or rows i r) where
      -- one row more was taken
      pub made_more : {X : Type 0} (element : X → Element) (old new : List X) (x : X) → ys ≡ map element old → made (Row r) ≡ Some (element x) → new ≡ old ++ x ∷ []
          → each_made made (map Row (take (i + 1) rows)) ≡ made_of (map element new) true
      made_more element old new x were made_is pushed =
          let next : take (i + 1) rows ≡ take i rows ++ r ∷ [] = take_more rows i r within ∙ ap (λ y. take i rows ++ y ∷ []) (sym is) in
          let given : ys ++ element x ∷ [] ≡ map element new = ap (λ l. l ++ element x ∷ []) were ∙ (sym (map-append element old (x ∷ [])) ∙ ap (map element) (sym pushed)) in
          ap (λ l. each_made made (map Row l)) next ∙ (more (take i rows) r ys before (element x) made_is ∙ ap (λ l. made_of l true) given)

      -- nothing can be made of the next row
      pub made_lacks : made (Row r) ≡ None → each_made made (map Row rows) ≡ made_of ys false
      made_lacks made_is =
          let rest : take i rows ++ r ∷ drop (i + 1) rows ≡ rows =
          ap (λ y. take i rows ++ y ∷ drop (i + 1) rows) is ∙ (ap (λ l. take i rows ++ l) (sym (drop_more rows i r within)) ∙ take-append-drop i rows) in
          ap (λ l. each_made made (map Row l)) (sym rest) ∙ lacks (take i rows) r ys before (drop (i + 1) rows) made_is
