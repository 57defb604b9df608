-- Which lines are given streams.
use Rattle.std.proofs.Common.{◌≡◌, ℕ, zero, suc, ◌<◌, ◌≤◌, Bool, true, false, if◌then◌else◌, List, [], ◌∷◌, ◌++◌, length, map, refl, ap, ◌∙◌, arith}
use Rattle.std.specs.List.{AllByRecursion}
use Rattle.chunk_core.specs.Elements.{Element, Line}
use Rattle.chunk_core.specs.Outcomes.{End, Fault}
use Rattle.chunk_core.specs.declared.code.Code.TheVariants as code
use Rattle.run_rules.specs.Listing.{ListedLines, listing_of}
use Rattle.list_runs.specs.Laws.{AreListings}

module _ (is_bad : List ℕ → Bool) where
  abbrev AreGood : List (List ℕ) → Type 0
  AreGood lines = AllByRecursion (λ line. is_bad line ≡ false) lines

  -- these lines, which end so
  abbrev ends : List (List ℕ) → End → ListedLines
  ends lines e = record { lines = lines; end = e }

  -- a good line in front
  one_more : (n : ℕ) (line : List ℕ) (ys : List Element) (e : End) (lines : List (List ℕ)) (g : End) → is_bad line ≡ false → listing_of n is_bad ys e ≡ record { lines = lines; end = g }
      → listing_of (suc n) is_bad (Line line ∷ ys) e ≡ record { lines = line ∷ lines; end = g }
  one_more n line ys e lines g good h =
      ap (λ b. if b then ends [] (Fault code.BadPath) else ends (line ∷ (listing_of n is_bad ys e).lines) (listing_of n is_bad ys e).end) good
      ∙ ap (λ (x : ListedLines). ends (line ∷ x.lines) x.end) h

  all_good : (n : ℕ) (lines : List (List ℕ)) (e : End) → AreGood lines → length lines ≤ n → listing_of n is_bad (map Line lines) e ≡ record { lines = lines; end = e }
  all_good n [] e good few = refl
  all_good zero (l ∷ lines) e good few = absurd (omega (few, arith))
  all_good (suc n) (l ∷ lines) e good few = one_more n l (map Line lines) e lines e good.0 (all_good n lines e good.1 (omega (few, arith)))

  one_bad : (n : ℕ) (lines : List (List ℕ)) (line : List ℕ) (e : End) → AreGood lines → length lines < n → is_bad line ≡ true → listing_of n is_bad (map Line (lines ++ line ∷ [])) e ≡ record { lines = lines; end = Fault code.BadPath }
  one_bad zero lines line e good few bad = absurd (omega (few, arith))
  one_bad (suc n) [] line e good few bad = ap (λ b. if b then ends [] (Fault code.BadPath) else ends (line ∷ (listing_of n is_bad [] e).lines) (listing_of n is_bad [] e).end) bad
  one_bad (suc n) (l ∷ lines) line e good few bad = one_more n l (map Line (lines ++ line ∷ [])) e lines (Fault code.BadPath) good.0 (one_bad n lines line e good.1 (omega (few, arith)) bad)

  too_many : (n : ℕ) (lines : List (List ℕ)) (line : List ℕ) (e : End) → AreGood lines → length lines ≡ n → listing_of n is_bad (map Line (lines ++ line ∷ [])) e ≡ record { lines = lines; end = Fault code.TooMany }
  too_many zero [] line e good is = refl
  too_many zero (l ∷ lines) line e good is = absurd (omega (is, arith))
  too_many (suc n) [] line e good is = absurd (omega (is, arith))
  too_many (suc n) (l ∷ lines) line e good is = one_more n l (map Line (lines ++ line ∷ [])) e lines (Fault code.TooMany) good.0 (too_many n lines line e good.1 (omega (is, arith)))

pub are_listings : AreListings
are_listings most is_bad lines good = record {
  good = λ few e. all_good is_bad most lines e good few;
  bad = λ few line e bad. one_bad is_bad most lines line e good few bad;
  many = λ is line e. too_many is_bad most lines line e good is;
}
