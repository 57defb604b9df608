-- The values of a document beside what they are seen as.
use Rattle.std.proofs.Common.{◌≡◌, ℕ, zero, suc, ◌+◌, ◌<◌, ◌≤◌, ◌&&◌, ◌||◌, true, false, Bor, List, [], ◌∷◌, length, drop, get_or, map, Option, Some, None, Ok, String, Global, string_bytes, refl, ap, ◌∙◌, sym, arith, add-one}
use Rattle.std.specs.List.{list_any, list_all}
use Rattle.std.specs.Prelude.{is_some, unwrap_or}
use Rattle.std.specs.Str.{bytes_eq}
use Rattle.std.proofs.lemmas.Bool.{false≢true, le-leb, lt-leb}
use Rattle.toml.specs.Data.{Data, as_table}
use Rattle.toml.specs.View.{view, items_view, members_view}
use Rattle.toml.specs.declared.value.Value.{Value}
use Rattle.pipeline_desc.specs.Reading.{present, refuse}
use Rattle.pipeline_desc.specs.Values.{all_known, array_at, each_as, both_or_none, list_at, seen_as, tables_at}
use Rattle.pipeline_desc.specs.declared.refusal.Position.{Position}
use Rattle.pipeline_desc.specs.declared.refusal.Position.TheVariants.{Nowhere}
use Rattle.pipeline_desc.specs.declared.refusal.RefusalKind.{RefusalKind}
use Rattle.pipeline_desc.specs.declared.refusal.RefusalKind.TheVariants as refused

any_of : (k : List ℕ) (names : List (Bor (List ℕ))) → list_any (λ s. bytes_eq k s.now) names ≡ list_any (bytes_eq k) (map (λ s. s.now) names)
any_of k [] = refl
any_of k (n ∷ names) = ap (λ b. bytes_eq k n.now || b) (any_of k names)

-- the keys of a table are those of its members
pub keys_known : (names : List (Bor (List ℕ))) (es : List (String Global × Value))
    → list_all (λ k. list_any (λ s. bytes_eq (string_bytes k) s.now) names) (map (λ e. e.0) es) ≡ all_known (map (λ s. s.now) names) (members_view es)
keys_known names [] = refl
keys_known names (e ∷ es) = rw (any_of (string_bytes e.0) names) (ap (λ b. list_any (bytes_eq (string_bytes e.0)) (map (λ s. s.now) names) && b) (keys_known names es))

both_some : {A : Type 0} (o : Option A) (more : Option (List A)) → (is_some o && is_some more) ≡ is_some (both_or_none o more)
both_some None more = refl
both_some (Some x) None = refl
both_some (Some x) (Some xs) = refl

-- all values are there exactly where each is
pub all_seen : {A : Type 0} (f : Data → Option A) (vs : List Value) → list_all (λ v. is_some (f (view v))) vs ≡ is_some (each_as f (items_view vs))
all_seen f [] = refl
all_seen f (v ∷ vs) = rw (all_seen f vs) (both_some (f (view v)) (each_as f (items_view vs)))

pub present_some : {A : Type 0} (o : Option (List A)) (kind : RefusalKind) (position : Position) → is_some o ≡ true → present o kind position ≡ Ok (unwrap_or o [])
present_some None kind position h = absurd (false≢true h)
present_some (Some xs) kind position h = refl

pub present_none : {A : Type 0} (o : Option (List A)) (kind : RefusalKind) (position : Position) → is_some o ≡ false → present o kind position ≡ refuse kind position
present_none None kind position h = refl
present_none (Some xs) kind position h = absurd (false≢true (sym h))

both_parts : {A : Type 0} (o : Option A) (more : Option (List A)) → is_some (both_or_none o more) ≡ true → (x : A) × (xs : List A) × (o ≡ Some x) × (more ≡ Some xs)
both_parts None more h = absurd (false≢true h)
both_parts (Some x) None h = absurd (false≢true h)
both_parts (Some x) (Some xs) h = (x, xs, refl, refl)

-- one seen before others
seen_both : {A : Type 0} (o : Option A) (more : Option (List A)) (x : A) (xs : List A) → o ≡ Some x → more ≡ Some xs → unwrap_or (both_or_none o more) [] ≡ x ∷ xs
seen_both o more x xs one rest = rw (one, rest) refl

-- as many are seen as there are
pub length_seen : {A : Type 0} (f : Data → Option A) (vs : List Value) → is_some (each_as f (items_view vs)) ≡ true → length (seen_as f vs) ≡ length vs
length_seen f [] h = refl
length_seen f (v ∷ vs) h =
    let (x, xs, one, more) = both_parts (f (view v)) (each_as f (items_view vs)) h in
    let rest = length_seen f vs (ap is_some more) in
    let same = ap (λ o. length (unwrap_or o [])) more in
    let both = ap length (seen_both (f (view v)) (each_as f (items_view vs)) x xs one more) in
    both ∙ omega (arith, rest, same)

drop_behind : {A : Type 0} (i : ℕ) (x : A) (xs : List A) → drop (suc i + 1) (x ∷ xs) ≡ drop (i + 1) xs
drop_behind i x xs = rw (add-one (suc i), add-one i) refl

-- the value at a place is seen there, before those behind it
pub seen_at : {A : Type 0} (f : Data → Option A) (vs : List Value) (i : ℕ) (v : Value) → is_some (each_as f (items_view vs)) ≡ true → i < length vs → v ≡ get_or vs i v
    → (x : A) × (f (view v) ≡ Some x) × (drop i (seen_as f vs) ≡ x ∷ drop (i + 1) (seen_as f vs))
seen_at f [] i v h lt at = absurd (omega arith)
seen_at f (w ∷ vs) zero v h lt at =
    let (x, xs, one, more) = both_parts (f (view w)) (each_as f (items_view vs)) h in
    let both = seen_both (f (view w)) (each_as f (items_view vs)) x xs one more in
    (x, ap (λ u. f (view u)) at ∙ one, both ∙ ap (λ ys. x ∷ drop 1 ys) (sym both))
seen_at f (w ∷ vs) (suc i) v h lt at =
    let (x, xs, one, more) = both_parts (f (view w)) (each_as f (items_view vs)) h in
    let both = seen_both (f (view w)) (each_as f (items_view vs)) x xs one more in
    let same = ap (λ o. unwrap_or o []) more in
    let (y, is, rest) = seen_at f vs i v (ap is_some more) (omega arith) at in
    (y, is, ap (drop (suc i)) both ∙ ap (drop i) (sym same) ∙ rest ∙ ap (λ ys. y ∷ drop (i + 1) ys) same ∙ ap (λ ys. y ∷ ys) (sym (drop_behind i x xs)) ∙ ap (λ ys. y ∷ drop (suc i + 1) ys) (sym both))

module _ {A : Type 0} (f : Data → Option A) (position : Position) (d : Option Data) (vs : List Value) (array : array_at position d ≡ Ok (items_view vs)) where
  -- an array of which one value isn't such a thing
  pub list_refused : list_all (λ v. is_some (f (view v))) vs ≡ false → list_at f position d ≡ refuse refused.WrongType position
  list_refused none = rw array (present_none (each_as f (items_view vs)) refused.WrongType position (sym (all_seen f vs) ∙ none))

  -- an array of such things
  pub list_found : list_all (λ v. is_some (f (view v))) vs ≡ true → list_at f position d ≡ Ok (seen_as f vs)
  list_found all = rw array (present_some (each_as f (items_view vs)) refused.WrongType position (sym (all_seen f vs) ∙ all))

module _ (most : ℕ) (d : Option Data) (vs : List Value) (all : is_some (each_as as_table (items_view vs)) ≡ true) (read : list_at as_table Nowhere d ≡ Ok (seen_as as_table vs)) where
  -- more tables than may stand there
  pub tables_many : most < length vs → tables_at most d ≡ refuse refused.OutOfRange Nowhere
  tables_many more = rw (read, length_seen as_table vs all, lt-leb (length vs) most more) refl

  -- no more tables than may stand there
  pub tables_few : length vs ≤ most → tables_at most d ≡ Ok (seen_as as_table vs)
  tables_few few = rw (read, length_seen as_table vs all, le-leb (length vs) most few) refl
