-- A dictionary and the entries of its table.
use Rattle.std.proofs.Common.{◌≡◌, ℕ, Bool, true, false, cond, List, [], ◌∷◌, map, Option, Some, None, Vec, Global, Bor, refl, ap, sym, ◌∙◌, ⊎_elim}
use Rattle.std.specs.Prelude.{is_some}
use Rattle.std.specs.Option.{option_copied}
use Rattle.std.specs.FinMap.{get, find, get-from_entries}
use Rattle.std.specs.Map.{lookup, KeepsOthers}
use Rattle.std.specs.Ordering.{nat_cmp}
use Rattle.std.specs.Cmp.Lexicographic.{slice_cmp}
use Rattle.std.specs.Str.{bytes_eq}
use Rattle.std.proofs.lemmas.Bool.{cases_Bool}
use Rattle.std.proofs.lemmas.Cmp.{nat_list_cmp_total}
use Rattle.std.proofs.lemmas.Map.Text.{is_eq-slice_cmp}
use Rattle.std.proofs.lemmas.Slice.Eq.{bytes_eq-Decides}
use Rattle.csv_pipes.specs.Dictionaries.{Dictionary, dictionary_of, value_or}

abbrev Entries : Type 0
Entries = List (Vec ℕ Global × List ℕ)

-- the key has these bytes
abbrev is_key : List ℕ → Vec ℕ Global → Bool
is_key q k = bytes_eq q k.items

find_entry : (q : List ℕ) (entries : Entries) → find (slice_cmp nat_cmp) q (map (λ e. (e.0.items, e.1)) entries) ≡ lookup (is_key q) entries
find_entry q [] = refl
find_entry q (e ∷ entries) = λ i. cond (is_eq-slice_cmp q e.0.items i) (Some e.1) (find_entry q entries i)

pub get-entry : (entries : Entries) (q : List ℕ) → get (dictionary_of entries) q ≡ lookup (is_key q) entries
get-entry entries q = get-from_entries nat_list_cmp_total (map (λ e. (e.0.items, e.1)) entries) q ∙ find_entry q entries

-- a reference is there where its value is
pub copied : {A : Type 0} (o : Option (Bor A)) → is_some (option_copied o) ≡ is_some o
copied None = refl
copied (Some x) = refl

pub none_copied : {A : Type 0} (o : Option (Bor A)) → is_some o ≡ false → option_copied o ≡ None
none_copied None h = refl
none_copied (Some x) h = (cc)

-- a value that stands, or no value for another key
value_stays : (x : Option (List ℕ)) (key value other : List ℕ) → (x ≡ None → bytes_eq key other ≡ false) → x ≡ value_or x key value other
value_stays None key value other h = rw (h refl) refl
value_stays (Some y) key value other h = refl

-- nothing changes where the key has a value
pub value_stands : (d : Dictionary) (key value : List ℕ) → is_some (get d key) ≡ true → (other : List ℕ) → get d other ≡ value_or (get d other) key value other
value_stands d key value has other =
    value_stays (get d other) key value other (λ none.
    ⊎_elim (λ same.
    let is : key ≡ other = (bytes_eq-Decides key other).0 same in
    let gone : is_some (get d key) ≡ false = ap is_some (ap (get d) is ∙ none) in
    absurd (cc (has, gone)))
    (λ f. f) (cases_Bool (bytes_eq key other)))

apart_from : (key other : List ℕ) (k : Vec ℕ Global) → bytes_eq key other ≡ false → bytes_eq key k.items ≡ true → bytes_eq other k.items ≡ false
apart_from key other k differs t = ⊎_elim (λ u.
    let is : key ≡ other = (bytes_eq-Decides key k.items).0 t ∙ sym ((bytes_eq-Decides other k.items).0 u) in
    let same : bytes_eq key other ≡ true = (bytes_eq-Decides key other).1 is in
    absurd (cc (same, differs)))
    (λ f. f) (cases_Bool (bytes_eq other k.items))

module _ (key : Vec ℕ Global) (value : List ℕ) (old new : Entries) (none : lookup (is_key key.items) old ≡ None) (puts : lookup (is_key key.items) new ≡ Some value)
    (keeps : KeepsOthers (λ x y. bytes_eq x.items y.items) (λ k. bytes_eq key.items k.items) old new) where
  at_key : (other : List ℕ) → key.items ≡ other → get (dictionary_of new) other ≡ value_or (get (dictionary_of old) other) key.items value other
  at_key other is =
      let now : get (dictionary_of new) other ≡ Some value = ap (get (dictionary_of new)) (sym is) ∙ (get-entry new key.items ∙ puts) in
      let before : get (dictionary_of old) other ≡ None = ap (get (dictionary_of old)) (sym is) ∙ (get-entry old key.items ∙ none) in
      let same : bytes_eq key.items other ≡ true = (bytes_eq-Decides key.items other).1 is in
      rw (now, before, same) refl

  other_key : (other : List ℕ) → bytes_eq key.items other ≡ false → get (dictionary_of new) other ≡ value_or (get (dictionary_of old) other) key.items value other
  unfolding KeepsOthers
  other_key other differs =
      let same : lookup (is_key other) new ≡ lookup (is_key other) old =
      keeps (is_key other) (λ x y t. ap (λ b. bytes_eq b y.items) ((bytes_eq-Decides other x.items).0 t))
      (λ k t. apart_from key.items other k differs t) in
      get-entry new other ∙ (same ∙ (sym (get-entry old other) ∙ value_stays (get (dictionary_of old) other) key.items value other (λ n. differs)))

  -- the key has its value, and the others have theirs
  pub value_added : (other : List ℕ) → get (dictionary_of new) other ≡ value_or (get (dictionary_of old) other) key.items value other
  value_added other = ⊎_elim (λ t. at_key other ((bytes_eq-Decides key.items other).0 t)) (other_key other) (cases_Bool (bytes_eq key.items other))
