-- How the values of an array are read one after another.
use Rattle.std.proofs.Common.{◌≡◌, ℕ, ◌+◌, ◌<◌, ◌≤◌, true, List, [], ◌∷◌, ◌++◌, length, drop, get_or, Option, Some, None, Ok, ap, ◌∙◌, subst, arith}
use Rattle.std.specs.Prelude.{is_some}
use Rattle.toml.specs.Data.{Data}
use Rattle.toml.specs.View.{view, items_view}
use Rattle.toml.specs.declared.value.Value.{Value}
use Rattle.pipeline_desc.specs.Reading.{Reading, each_behind, each_from, RefusesAs}
use Rattle.pipeline_desc.specs.Values.{each_as, seen_as}
use Rattle.pipeline_desc.specs.declared.refusal.Refused.{Refused}
use Rattle.pipeline_desc.proofs.Each.{after, behind_ends, behind_fails, behind_next, each_ends, each_fails, each_next}
use Rattle.pipeline_desc.proofs.Seen.{length_seen, seen_at}

module _ {A : Type 0} (g : Data → Option A) (vs : List Value) (all : is_some (each_as g (items_view vs)) ≡ true) (i : ℕ) (v : Value) (h : i < length vs) (at : v ≡ get_or vs i v) where
  -- the value at a place is such a thing
  pub entry_there : None ≡ g (view v) → ⊥
  entry_there none = let (x, is, rest) = seen_at g vs i v all h at in let none_is : None ≡ Some x = none ∙ is in cc

  -- and stands before those behind it
  pub entry_at : (x : A) → Some x ≡ g (view v) → drop i (seen_as g vs) ≡ x ∷ drop (i + 1) (seen_as g vs)
  entry_at x some = let (y, is, rest) = seen_at g vs i v all h at in let both : Some x ≡ Some y = some ∙ is in let same : y ≡ x = cc in rest ∙ ap (λ z. z ∷ drop (i + 1) (seen_as g vs)) same

module _ {A B : Type 0} (g : Data → Option A) (f : ℕ → A → Reading B) (vs : List Value) (all : is_some (each_as g (items_view vs)) ≡ true) (found : List B) (n i : ℕ) (whole : Reading (List B)) (so_far : whole ≡ after found (each_from f n (drop i (seen_as g vs)))) where
  -- one value more
  pub entry_next : (v : Value) (x : A) (y : B) → i < length vs → v ≡ get_or vs i v → Some x ≡ g (view v) → f n x ≡ Ok y
      → whole ≡ after (found ++ y ∷ []) (each_from f (n + 1) (drop (i + 1) (seen_as g vs)))
  entry_next v x y h at some is = each_next f (seen_as g vs) whole found n i so_far x y (entry_at g vs all i v h at x some) is

  -- a value that is refused
  pub entry_fails : (v : Value) (x : A) (e : Refused) → i < length vs → v ≡ get_or vs i v → Some x ≡ g (view v) → RefusesAs e (f n x) → RefusesAs e whole
  entry_fails v x e h at some fails = each_fails f (seen_as g vs) whole found n i so_far x e (entry_at g vs all i v h at x some) fails

  -- no value is left
  pub entries_end : length vs ≤ i → whole ≡ Ok found
  entries_end past = each_ends f (seen_as g vs) whole found n i so_far (omega (arith, length_seen g vs all))

module _ {A B : Type 0} (g : Data → Option A) (f : List B → A → Reading B) (vs : List Value) (all : is_some (each_as g (items_view vs)) ≡ true) (found : List B) (i : ℕ) (whole : Reading (List B)) (so_far : whole ≡ each_behind f found (drop i (seen_as g vs))) where
  -- one value more behind those before it
  pub further_next : (before : List B) (v : Value) (x : A) (y : B) → i < length vs → v ≡ get_or vs i v → Some x ≡ g (view v) → before ≡ found → f before x ≡ Ok y
      → whole ≡ each_behind f (found ++ y ∷ []) (drop (i + 1) (seen_as g vs))
  further_next before v x y h at some same is = behind_next f (seen_as g vs) whole found i so_far x y (entry_at g vs all i v h at x some) (subst (λ b. f b x ≡ Ok y) same is)

  -- a value that is refused
  pub further_fails : (before : List B) (v : Value) (x : A) (e : Refused) → i < length vs → v ≡ get_or vs i v → Some x ≡ g (view v) → before ≡ found → RefusesAs e (f before x) → RefusesAs e whole
  further_fails before v x e h at some same fails = behind_fails f (seen_as g vs) whole found i so_far x e (entry_at g vs all i v h at x some) (subst (λ b. RefusesAs e (f b x)) same fails)

  -- no value is left
  pub further_end : length vs ≤ i → whole ≡ Ok found
  further_end past = behind_ends f (seen_as g vs) whole found i so_far (omega (arith, length_seen g vs all))
