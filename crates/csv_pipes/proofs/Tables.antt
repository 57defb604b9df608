-- The faults of a table's records.
use Rattle.std.proofs.Common.{◌≡◌, ℕ, ◌<◌, ◌≤◌, ◌==◌, ◌||◌, Bool, true, false, not, cond, List, [], ◌∷◌, ◌++◌, length, Option, Some, None, refl, ap, sym, ◌∙◌, arith, length-append, ⊎_elim}
use Rattle.std.specs.Prelude.{nat_lt, if◌then◌else◌}
use Rattle.std.specs.List.{before_first, list_any}
use Rattle.std.specs.Prelude.{IsUtf8}
use Rattle.std.specs.Str.{bytes_eq, is_utf8}
use Rattle.std.proofs.lemmas.Str.{IsUtf8-from_is_utf8, is_utf8-from_IsUtf8}
use Rattle.std.proofs.lemmas.Bool.{lt-ltb, eq-eqb, eqb-true, le-ltb, cases_Bool, false_from_ne_true}
use Rattle.chunk_core.specs.declared.code.Code.TheVariants as code
use Rattle.csv.specs.Records.{field_at}
use Rattle.pull_nodes.specs.Csv.{even_rows, first_length, has_other_length, is_uneven, records_of}
use Rattle.pull_nodes.proofs.LineLaws.{before_first-all, before_first-none}
use Rattle.csv_pipes.specs.Dictionaries.{has_long_value, is_first_short, key_of, records_fault, table_fault, value_for, value_of, value_or}
use Rattle.csv.proofs.RecordFacts.{field-get}
use Rattle.std.proofs.lemmas.List.Folds.{list_any-append}
use Rattle.std.specs.FinMap.{get}
use Rattle.csv_pipes.specs.Even.{Rest, even_part}
use Rattle.csv_pipes.specs.Refusals.{IsDraftOf, IsRefusedBy}
use Rattle.csv_pipes.specs.declared.table.Draft.{Draft}
use Rattle.csv_pipes.specs.declared.table.TableRefused.{TableRefused}
use Rattle.csv_pipes.specs.declared.table.TableRefused.TheVariants as refused

-- a field that is not there
pub lacks_first : (fields : List (List ℕ)) → field_at fields 0 ≡ None → length fields < 2
unfolding field_at
lacks_first [] h = omega arith
lacks_first (f ∷ fields) h = (cc)

pub lacks_second : (fields : List (List ℕ)) → field_at fields 1 ≡ None → length fields < 2
unfolding field_at
lacks_second [] h = omega arith
lacks_second (f ∷ []) h = omega arith
lacks_second (f ∷ g ∷ fields) h = (cc)

next_value : (t : Bool) (x : Option (List ℕ)) (y : Option (List ℕ)) (v key value other : List ℕ) → x ≡ value_or y key value other → cond t (Some v) x ≡ value_or (cond t (Some v) y) key value other
next_value true x y v key value other e = refl
next_value false x y v key value other e = e

-- the value of a key, where one record more is read
pub value_for-more : (key : List ℕ) (seen : List (List (List ℕ))) (r : List (List ℕ)) → value_for key (seen ++ r ∷ []) ≡ value_or (value_for key seen) (key_of r) (value_of r) key
value_for-more key [] r = refl
value_for-more key (s ∷ seen) r =
    next_value (bytes_eq (key_of s) key) (value_for key (seen ++ r ∷ [])) (value_for key seen) (value_of s) (key_of r) (value_of r) key (value_for-more key seen r)

-- a front of rows up to the first that passes a test has none that passes
none_before : (t : Bool) (p : List (List ℕ) → Bool) (x r : List (List ℕ)) (xs seen more : List (List (List ℕ))) → p x ≡ t → before_first p (x ∷ xs) ≡ seen ++ r ∷ more
    → ((others : List (List (List ℕ))) → before_first p xs ≡ others ++ r ∷ more → p r ≡ false) → p r ≡ false
none_before true p x r xs seen more t e later =
    let none : length (before_first p (x ∷ xs)) ≡ 0 = rw t refl in
    absurd (omega (arith, ap length e, length-append seen (r ∷ more)))
none_before false p x r xs [] more t e later =
    let kept = sym (before_first-none p (x ∷ []) xs (rw t refl)) ∙ e in
    ap p (sym (cc (kept))) ∙ t
none_before false p x r xs (s ∷ seen) more t e later =
    let kept = sym (before_first-none p (x ∷ []) xs (rw t refl)) ∙ e in
    later seen (cc (kept))

even_before : (p : List (List ℕ) → Bool) (rows seen more : List (List (List ℕ))) (r : List (List ℕ)) → before_first p rows ≡ seen ++ r ∷ more → p r ≡ false
even_before p [] seen more r e = absurd (omega (arith, ap length e, length-append seen (r ∷ more)))
even_before p (x ∷ xs) seen more r e = none_before (p x) p x r xs seen more refl e (λ others f. even_before p xs others more r f)

same_short : (n : ℕ) (r : List (List ℕ)) → not (length r == n) ≡ false → length r < 2 → nat_lt n 2 ≡ true
same_short n r e short = ⊎_elim (λ t. lt-ltb n 2 (let is = eqb-true (length r) n t in omega arith)) (λ f. absurd (cc (e, f))) (cases_Bool (length r == n))

-- a row with fewer than two fields is as long as the first record
short_first : (records seen more : List (List (List ℕ))) (r : List (List ℕ)) → even_rows records ≡ seen ++ r ∷ more → length r < 2 → is_first_short records ≡ true
short_first [] seen more r e short = absurd (omega (arith, ap length e, length-append seen (r ∷ more)))
short_first (x ∷ xs) seen more r e short = same_short (length x) r (even_before (has_other_length (length x)) (x ∷ xs) seen more r e) short

-- the first record is the first of the rows
first_same : (records : List (List (List ℕ))) → is_first_short records ≡ is_first_short (even_rows records)
first_same [] = refl
first_same (x ∷ xs) =
    let other = has_other_length (length x) in
    let none : list_any other (x ∷ []) ≡ false = rw (eq-eqb (length x) (length x) refl) refl in
    ap is_first_short (sym (before_first-none other (x ∷ []) xs none))

pub no_field : (records seen more : List (List (List ℕ))) (r : List (List ℕ)) (b : Bool) → even_part records ≡ (seen ++ r ∷ more, b) → length r < 2 → records_fault records ≡ Some code.NoField
no_field records seen more r b e short = rw (short_first records seen more r (ap (λ (q : Rest). q.0) e) short) refl

module _ (records seen : List (List (List ℕ))) (b : Bool) (e : even_part records ≡ (seen, b)) (whole : is_first_short seen ≡ false) where
  first : is_first_short records ≡ false
  first = first_same records ∙ (ap is_first_short (ap (λ (q : Rest). q.0) e) ∙ whole)

  pub uneven : b ≡ true → records_fault records ≡ Some code.Uneven
  uneven is = let any : is_uneven records ≡ true = ap (λ (q : Rest). q.1) e ∙ is in rw (first, any) refl

  -- all records were read
  pub all_read : b ≡ false → records ≡ seen
  all_read is = sym (before_first-all (has_other_length (first_length records)) records (ap (λ (q : Rest). q.1) e ∙ is)) ∙ ap (λ (q : Rest). q.0) e

  pub long_value : b ≡ false → (long : Bool) → long ≡ list_any has_long_value seen → records_fault records ≡ (if long then Some code.TooLarge else None)
  long_value is long some =
      let none : is_uneven records ≡ false = ap (λ (q : Rest). q.1) e ∙ is in
      let any : list_any has_long_value records ≡ long = ap (list_any has_long_value) (all_read is) ∙ sym some in
      rw (first, none, any) refl

or-false : (b : Bool) → (b || false) ≡ b
or-false true = refl
or-false false = refl

draft_whole : (seen : List (List (List ℕ))) (r : List (List ℕ)) → is_first_short seen ≡ false → 2 ≤ length r → is_first_short (seen ++ r ∷ []) ≡ false
draft_whole [] r h two = le-ltb (length r) 2 two
draft_whole (s ∷ seen) r h two = h

has_two : (fields : List (List ℕ)) (value : List ℕ) → field_at fields 1 ≡ Some value → 2 ≤ length fields
unfolding field_at
has_two [] value h = (cc)
has_two (f ∷ []) value h = (cc)
has_two (f ∷ g ∷ fields) value h = omega arith

-- a record more was taken into a draft
pub taken : (seen : List (List (List ℕ))) (fields : List (List ℕ)) (key value : List ℕ) (old new : Draft) → field_at fields 0 ≡ Some key → field_at fields 1 ≡ Some value
    → ((other : List ℕ) → get new.dict other ≡ value_or (get old.dict other) key value other) → new.long ≡ (old.long || nat_lt 1024 (length value)) → IsDraftOf seen old → IsDraftOf (seen ++ fields ∷ []) new
taken seen fields key value old new first second adds long h =
    let key_is : key_of fields ≡ key = field-get fields 0 key first in
    let value_is : value_of fields ≡ value = field-get fields 1 value second in
    let is_long : list_any has_long_value (fields ∷ []) ≡ nat_lt 1024 (length value) = or-false (has_long_value fields) ∙ ap (λ v. nat_lt 1024 (length v)) value_is in
    record {
      values = λ other.
          adds other ∙ ((λ i. value_or (h.values other i) (sym key_is i) (sym value_is i) other) ∙ sym (value_for-more other seen fields));
      long = long ∙ ((λ i. h.long i || sym is_long i) ∙ sym (list_any-append has_long_value seen (fields ∷ [])));
      whole = draft_whole seen fields h.whole (has_two fields value second);
    }

-- what is wrong with a text that has no more bytes than it may have
pub not_utf8 : (xs : List ℕ) → length xs ≤ 16777216 → ¬ (IsUtf8 xs) → table_fault xs ≡ Some code.NotUtf8
not_utf8 xs small bad =
    let no : is_utf8 xs ≡ false = false_from_ne_true (is_utf8 xs) (λ t. bad (IsUtf8-from_is_utf8 xs t)) in
    rw (le-ltb 16777216 (length xs) small, no) refl

pub fault_by_records : (xs : List ℕ) → length xs ≤ 16777216 → IsUtf8 xs → records_fault (records_of xs) ≡ table_fault xs
fault_by_records xs small good = rw (le-ltb 16777216 (length xs) small, is_utf8-from_IsUtf8 xs good) refl

pub refused_by : (xs : List ℕ) (why : TableRefused) → records_fault (records_of xs) ≡ table_fault xs → IsRefusedBy (records_fault (records_of xs)) why → IsRefusedBy (table_fault xs) why
refused_by xs refused.Memory same h = tt
refused_by xs (refused.Data c) same h = sym same ∙ h

-- more bytes than a table may have
pub table_too_large : (xs : List ℕ) → 16777216 < length xs → table_fault xs ≡ Some code.TooLarge
table_too_large xs more = rw (lt-ltb 16777216 (length xs) more) refl
