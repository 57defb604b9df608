-- The table of a name, among tables with their numbers.
use Rattle.std.proofs.Common.{◌≡◌, ℕ, suc, ◌+◌, ◌<◌, ◌==◌, Bool, true, false, cond, nat_lt, List, [], ◌∷◌, ◌++◌, length, not, Some, None, refl, ap, ◌∙◌, sym, arith, inl, inr}
use Rattle.std.specs.Prelude.{IfSome, Option}
use Rattle.std.specs.List.{position, position_or_len}
use Rattle.std.specs.Option.{option_or}
use Rattle.std.specs.Str.{bytes_eq}
use Rattle.std.proofs.lemmas.Bool.{cases_Bool, ltb-true, ltb-false}
use Rattle.std.proofs.lemmas.Option.{none-some}
use Rattle.chunk_core.proofs.Bools.{itself, or_left, or_right}
use Rattle.std.proofs.lemmas.List.Sums.{prefix_len-le-length}
use Rattle.pipeline_desc.specs.Meant.{NamedTables, named_from}
use Rattle.pipeline_desc.specs.Sound.{has_number}
use Rattle.pipeline_desc.specs.Steps.{table_named}
use Rattle.pipeline_desc.specs.declared.table.TableSpec.{TableSpec}

module _ (name : List ℕ) where
  abbrev has_name : TableSpec → Bool
  has_name t = bytes_eq t.name name

  -- a table of the name, the first of which stands so many tables further on
  found_from : (i : ℕ) (tables : List TableSpec) → position_or_len has_name tables < length tables → table_named name (named_from i tables) ≡ Some (i + position_or_len has_name tables)
  found_from i [] h = absurd (omega arith)
  found_from i (t ∷ tables) h =
      elim (cases_Bool (has_name t)) [
        | inl e ↦ rw e (ap (λ n. Some n) (omega arith))
        | inr e ↦ rw e (found_from (suc i) tables (let one : position_or_len has_name (t ∷ tables) ≡ suc (position_or_len has_name tables) = rw e (omega arith) in omega (arith, one)) ∙ ap (λ n. Some n) (omega arith))
      ]

  -- none of the tables has the name
  none_from : (i : ℕ) (tables : List TableSpec) → position_or_len has_name tables ≡ length tables → table_named name (named_from i tables) ≡ None
  none_from i [] h = refl
  none_from i (t ∷ tables) h =
      elim (cases_Bool (has_name t)) [
        | inl e ↦ absurd (let here : position_or_len has_name (t ∷ tables) ≡ 0 = rw e refl in omega (arith, here))
        | inr e ↦ rw e (none_from (suc i) tables (let one : position_or_len has_name (t ∷ tables) ≡ suc (position_or_len has_name tables) = rw e (omega arith) in omega (arith, one)))
      ]

  -- where the first table of the name stands, its place is its number, counted on from the first
  pub named_at : (i : ℕ) (tables : List TableSpec) (at : ℕ) → position has_name tables ≡ Some at → table_named name (named_from i tables) ≡ Some (i + at)
  named_at i tables at is = go (nat_lt first (length tables)) refl is
    where
      first : ℕ
      first = position_or_len has_name tables

      go : (b : Bool) → nat_lt first (length tables) ≡ b → cond b (Some first) None ≡ Some at → table_named name (named_from i tables) ≡ Some (i + at)
      go true e there = let same : first ≡ at = cc in found_from i tables (ltb-true first (length tables) e) ∙ ap (λ n. Some (i + n)) same
      go false e none = cc

  -- where none has it, none is named so
  pub not_named : (i : ℕ) (tables : List TableSpec) → position has_name tables ≡ None → table_named name (named_from i tables) ≡ None
  not_named i tables is = go (nat_lt first (length tables)) refl is
    where
      first : ℕ
      first = position_or_len has_name tables

      go : (b : Bool) → nat_lt first (length tables) ≡ b → cond b (Some first) None ≡ None → table_named name (named_from i tables) ≡ None
      go true e there = cc
      go false e none = none_from i tables (omega (arith, ltb-false first (length tables) e, prefix_len-le-length (λ t. not (has_name t)) tables))

  -- its place is below the number of tables
  pub place_within : (tables : List TableSpec) (i : ℕ) → position has_name tables ≡ Some i → i < length tables
  place_within tables i is = go (nat_lt first (length tables)) refl is
    where
      first : ℕ
      first = position_or_len has_name tables

      go : (b : Bool) → nat_lt first (length tables) ≡ b → cond b (Some first) None ≡ Some i → i < length tables
      go true e at = let same : first ≡ i = cc in omega (arith, ltb-true first (length tables) e, same)
      go false e none = cc

-- of tables before others the first of the name is found first
pub named_both : (name : List ℕ) (xs ys : NamedTables) → table_named name (xs ++ ys) ≡ option_or (table_named name xs) (table_named name ys)
named_both name [] ys = refl
named_both name (x ∷ xs) ys =
    elim (cases_Bool (bytes_eq x.0 name)) [
      | inl e ↦ rw e refl
      | inr e ↦ rw e (named_both name xs ys)
    ]

-- the number of a table of a name is one of theirs
pub number_known : (name : List ℕ) (tables : NamedTables) (t : ℕ) → table_named name tables ≡ Some t → has_number tables t ≡ true
number_known name [] t is = absurd (none-some t is)
number_known name (x ∷ xs) t is =
    elim (cases_Bool (bytes_eq x.0 name)) [
      | inl e ↦ let same : Some x.1 ≡ Some t = rw e at is in let is_it : x.1 ≡ t = cc in or_left (x.1 == t) (has_number xs t) (rw is_it (itself t))
      | inr e ↦ or_right (x.1 == t) (has_number xs t) (number_known name xs t (rw e at is))
    ]

-- so is one that is found
pub known_if : (name : List ℕ) (tables : NamedTables) (o : Option ℕ) → o ≡ table_named name tables → IfSome o (λ t. has_number tables t ≡ true)
known_if name tables None e = tt
known_if name tables (Some t) e = number_known name tables t (sym e)
