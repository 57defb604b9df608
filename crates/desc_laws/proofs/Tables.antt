-- The tables of a description.
use Rattle.std.proofs.Common.{◌≡◌, ◌⊎◌, ℕ, suc, ◌+◌, ◌<◌, Bool, true, false, not, ◌||◌, List, [], ◌∷◌, ◌++◌, length, Option, Some, None, Ok, Err, inl, inr, ⊎_elim, refl, ap, ◌∙◌, sym, subst, Decides, arith, nat_le, codes}
use Rattle.std.specs.Prelude.{slice_get, unwrap_or}
use Rattle.std.specs.List.{list_any}
use Rattle.std.specs.Str.{bytes_eq}
use Rattle.std.proofs.lemmas.Bool.{and_parts, and_from, or_cases, or_left, or_right, false≢true, cases_eq}
use Rattle.std.proofs.lemmas.List.Folds.{list_any-append}
use Rattle.std.proofs.lemmas.Slice.Eq.{bytes_eq-Decides}
use Rattle.toml.specs.Data.{Data, Items, no_items, Members, no_members, as_array, as_str, as_table, get_member}
use Rattle.pipeline_desc.specs.Limits.{is_name, is_path}
use Rattle.pipeline_desc.specs.Reading.{Reading, ◌>>=◌, each_behind, passes, present, refusal_of}
use Rattle.pipeline_desc.specs.Tables.{is_new_name, table_keys, table_meant, tables_meant}
use Rattle.pipeline_desc.specs.Values.{each_as, known_keys, required, tables_at, text_that}
use Rattle.pipeline_desc.specs.declared.refusal.Refusal.{Refusal}
use Rattle.pipeline_desc.specs.declared.refusal.RefusalKind.TheVariants as refused
use Rattle.pipeline_desc.specs.declared.table.TableSpec.{TableSpec}
use Rattle.desc_laws.specs.Flaws.{of_kind}
use Rattle.desc_laws.specs.Flaws.Flaw.{OtherKey}
use Rattle.desc_laws.specs.Flaws.Key.{Name, Path}
use Rattle.desc_laws.specs.Flaws.Part.{Table}
use Rattle.desc_laws.specs.Has.{HasFlaw, flaws_from, flaws_of_keys, flaws_of_part, flaws_of_tables, keys_of}
use Rattle.desc_laws.specs.Places.{entries_in, part_in, tables_in, value_at}
use Rattle.desc_laws.specs.Values.{HasNameBefore, IsNewName}
use Rattle.desc_laws.proofs.Agree.{Agrees, or_refused, then_agrees}
use Rattle.desc_laws.proofs.Positions.{at_top}
use Rattle.desc_laws.proofs.Texts.{bind_ok, needed_text_agrees, that_decides}
use Rattle.desc_laws.proofs.Top.{key_then, keys_agree}

-- the names of these tables are those of the tables before number i
abbrev pub AreNamed : List ℕ → ℕ → List TableSpec → Type 0
AreNamed bytes i found = (name : List ℕ) → Decides (list_any (λ t. bytes_eq t.name name) found) (HasNameBefore bytes i name)

same_text : (d : Data) (a b : List ℕ) → as_str d ≡ Some a → as_str d ≡ Some b → a ≡ b
same_text d a b p q = let both : Some a ≡ Some b = sym p ∙ q in cc

new_name : (bytes : List ℕ) (i : ℕ) (found : List TableSpec) → AreNamed bytes i found → (d : Data) (text : List ℕ) → as_str d ≡ Some text → Decides (is_new_name found text) (IsNewName bytes i d)
new_name bytes i found named d text is = (
  (λ t. let parts = and_parts (is_name text) (not (used text)) t in (text, is, parts.0, (λ b. false≢true (sym (ap not ((named text).1 b)) ∙ parts.1)))),
  (λ w. let (name, that, good, alone) = w in let same = same_text d name text that is in
      and_from (is_name text) (not (used text)) (subst (λ x. is_name x ≡ true) same good) (unused text (subst (λ x. HasNameBefore bytes i x → ⊥) same alone) (used text) refl)),
)
  where
    used : List ℕ → Bool
    used x = list_any (λ t. bytes_eq t.name x) found

    unused : (x : List ℕ) → (HasNameBefore bytes i x → ⊥) → (b : Bool) → used x ≡ b → not b ≡ true
    unused x alone true u = absurd (alone ((named x).0 u))
    unused x alone false u = refl

-- one table behind those that were found
pub table_agrees : (bytes : List ℕ) (i : ℕ) (found : List TableSpec) → AreNamed bytes i found → Agrees (HasFlaw bytes) (flaws_of_part bytes (Table i)) (table_meant found (part_in bytes (Table i)))
table_agrees bytes i found named =
    then_agrees (HasFlaw bytes) (OtherKey (Table i) ∷ []) (flaws_of_keys bytes (Table i) (keys_of (Table i))) _ _ (keys_agree bytes (Table i)) (λ x is.
    key_then bytes (Table i) Name (Path ∷ []) _ _ (needed_text_agrees bytes (Table i) Name at_top.0 refl refl (is_new_name found) (λ d. refl) (new_name bytes i found named) refl) (λ x is.
    key_then bytes (Table i) Path [] _ _ (needed_text_agrees bytes (Table i) Path at_top.0 refl refl is_path (λ d. refl) (that_decides bytes (Table i) Path is_path (λ d. refl)) refl) (λ x is. tt)))

-- the name of a table that was read is the text that stands there
pub text_seen : (p : Option (List ℕ)) (test : List ℕ → Bool) (position : _) (name : List ℕ) → (present p refused.WrongType position >>= (λ text. passes (test text) refused.OutOfRange position >>= (λ _. Ok text))) ≡ Ok name → p ≡ Some name
text_seen None test position name e = (cc)
text_seen (Some text) test position name e = go (test text) e
  where
    go : (b : Bool) → (or_refused b (refusal_of refused.OutOfRange position) >>= (λ _. Ok text)) ≡ Ok name → Some text ≡ Some name
    go true e = (cc)
    go false e = (cc)

pub text_read : (o : Option Data) (test : List ℕ → Bool) (position : _) (name : List ℕ) → required (text_that test position) position o ≡ Ok name → (d : Data) × (o ≡ Some d) × (as_str d ≡ Some name)
text_read None test position name e = (cc)
text_read (Some d) test position name e = (d, refl, text_seen (as_str d) test position name e)

-- a table of this name and path
abbrev pub named_table : List ℕ → List ℕ → Reading TableSpec
named_table name path = Ok (record { name = name; path = path })

abbrev pub table_at : List ℕ → Members → Reading TableSpec
table_at name ms = required (text_that is_path at_top.0) at_top.0 (get_member (codes "path") ms) >>= (λ path. named_table name path)

abbrev pub table_of : List TableSpec → Members → Reading TableSpec
table_of found ms = required (text_that (is_new_name found) at_top.0) at_top.0 (get_member (codes "name") ms) >>= (λ name. table_at name ms)

abbrev name_in : Reading TableSpec → List ℕ
name_in (Ok s) = s.name
name_in (Err r) = []

pub name_is : (name path : List ℕ) (t : TableSpec) → named_table name path ≡ Ok t → name ≡ t.name
name_is name path t e = ap name_in e

name_read : (bytes : List ℕ) (i : ℕ) (found : List TableSpec) (t : TableSpec) → table_meant found (part_in bytes (Table i)) ≡ Ok t → (d : Data) × (value_at bytes (Table i) Name ≡ Some d) × (as_str d ≡ Some t.name)
name_read bytes i found t e =
    let ms = part_in bytes (Table i) in
    let (u, known, more) = bind_ok (known_keys table_keys at_top.0 ms) (λ _. table_of found ms) t e in
    let (name, named, next) = bind_ok (required (text_that (is_new_name found) at_top.0) at_top.0 (get_member (codes "name") ms)) (λ name. table_at name ms) t more in
    let (path, at, last) = bind_ok (required (text_that is_path at_top.0) at_top.0 (get_member (codes "path") ms)) (λ path. named_table name path) t next in
    let (d, there, is) = text_read (value_at bytes (Table i) Name) (is_new_name found) at_top.0 name named in
    (d, there, is ∙ ap (λ (x : List ℕ). Some x) (name_is name path t last))

none_named : (bytes : List ℕ) → AreNamed bytes 0 []
none_named bytes name = ((λ h. absurd (false≢true h)), (λ h. let (j, d, below, there, is) = h in absurd (omega (arith, below))))

one_named : (bytes : List ℕ) (i : ℕ) (found : List TableSpec) (t : TableSpec) → AreNamed bytes i found → (d : Data) → value_at bytes (Table i) Name ≡ Some d → as_str d ≡ Some t.name → AreNamed bytes (i + 1) (found ++ t ∷ [])
one_named bytes i found t named d there is name = (
  (λ h. ⊎_elim (λ old. earlier ((named name).0 old)) (λ new. (i, d, omega arith, there, is ∙ ap (λ (x : List ℕ). Some x) ((bytes_eq-Decides t.name name).0 (last new)))) (or_cases (list_any same found) (list_any same (t ∷ [])) (sym (list_any-append same found (t ∷ [])) ∙ h))),
  (λ h. list_any-append same found (t ∷ []) ∙ to h),
)
  where
    same : TableSpec → Bool
    same x = bytes_eq x.name name

    earlier : HasNameBefore bytes i name → HasNameBefore bytes (i + 1) name
    earlier h = let (j, x, below, at, text) = h in (j, x, omega (arith, below), at, text)

    last : list_any same (t ∷ []) ≡ true → bytes_eq t.name name ≡ true
    last h = ⊎_elim (λ e. e) (λ e. absurd (false≢true e)) (or_cases (same t) false h)

    to : HasNameBefore bytes (i + 1) name → (list_any same found || list_any same (t ∷ [])) ≡ true
    to h = let (j, x, below, at, text) = h in
        ⊎_elim (λ before. or_left (list_any same found) (list_any same (t ∷ [])) ((named name).1 (j, x, before, at, text)))
        (λ here. or_right (list_any same found) (list_any same (t ∷ [])) (or_left (same t) false ((bytes_eq-Decides t.name name).1 (both x (subst (λ n. value_at bytes (Table n) Name ≡ Some x) here at) text))))
        (which j below)
      where
        which : (j : ℕ) → j < i + 1 → (j < i) ⊎ (j ≡ i)
        which j below = ⊎_elim (λ e. inr e) (λ ne. inl (omega (arith, below, ne))) (cases_eq j i)

        both : (x : Data) → value_at bytes (Table i) Name ≡ Some x → as_str x ≡ Some name → t.name ≡ name
        both x at text = let one : Some d ≡ Some x = sym there ∙ at in let equal : x ≡ d = cc in same_text d t.name name is (subst (λ y. as_str y ≡ Some name) equal text)

-- the tables from number i on, behind those that were found
pub behind_agrees : (bytes : List ℕ) (i : ℕ) (found : List TableSpec) (xs : List Members) → AreNamed bytes i found → ((j : ℕ) (x : Members) → slice_get xs j ≡ Some x → part_in bytes (Table (i + j)) ≡ x)
    → Agrees (HasFlaw bytes) (flaws_from (λ n. flaws_of_part bytes (Table n)) i xs) (each_behind table_meant found xs)
behind_agrees bytes i found [] named there = tt
behind_agrees bytes i found (x ∷ xs) named there =
    then_agrees (HasFlaw bytes) (flaws_of_part bytes (Table i)) (flaws_from (λ n. flaws_of_part bytes (Table n)) (i + 1) xs) (table_meant found x) (λ t. each_behind table_meant (found ++ t ∷ []) xs)
    (subst (λ ms. Agrees (HasFlaw bytes) (flaws_of_part bytes (Table i)) (table_meant found ms)) here (table_agrees bytes i found named))
    (λ t is. let (d, at, name) = name_read bytes i found t (ap (table_meant found) here ∙ is) in
    behind_agrees bytes (i + 1) (found ++ t ∷ []) xs (one_named bytes i found t named d at name)
    (λ j y e. ap (λ n. part_in bytes (Table n)) (next j) ∙ there (suc j) y e))
  where
    here : part_in bytes (Table i) ≡ x
    here = let zero_more : i ≡ i + 0 = omega arith in ap (λ n. part_in bytes (Table n)) zero_more ∙ there 0 x refl

    next : (j : ℕ) → i + 1 + j ≡ i + suc j
    next j = omega arith

-- all tables
pub tables_agree_all : (bytes : List ℕ) → Agrees (HasFlaw bytes) (flaws_of_tables bytes) (tables_meant (tables_in bytes))
tables_agree_all bytes = behind_agrees bytes 0 [] (tables_in bytes) (none_named bytes) (λ j x e. let same : 0 + j ≡ j = omega arith in ap (λ n. part_in bytes (Table n)) same ∙ ap (λ o. unwrap_or o no_members) e)

-- what was read of an array of tables is what stands there
few_seen : (ys xs : List Members) (b : Bool) (r : Refusal) → (or_refused b r >>= (λ _. Ok ys)) ≡ Ok xs → ys ≡ xs
few_seen ys xs true r e = (cc)
few_seen ys xs false r e = (cc)

abbrev few_of : ℕ → List Members → Reading (List Members)
few_of most ys = or_refused (nat_le (length ys) most) (of_kind refused.OutOfRange) >>= (λ _. Ok ys)

pub tables_seen : (most : ℕ) (o : Option Data) (xs : List Members) → tables_at most o ≡ Ok xs → entries_in as_table o ≡ xs
tables_seen most None xs e = few_seen [] xs (nat_le 0 most) (of_kind refused.OutOfRange) e
tables_seen most (Some d) xs e = go (as_array d) e
  where
    each : (p : Option (List Members)) → (present p refused.WrongType at_top.0 >>= few_of most) ≡ Ok xs → unwrap_or p [] ≡ xs
    each None e = (cc)
    each (Some ys) e = few_seen ys xs (nat_le (length ys) most) (of_kind refused.OutOfRange) e

    go : (o : Option Items) → ((present o refused.WrongType at_top.0 >>= (λ ds. present (each_as as_table ds) refused.WrongType at_top.0)) >>= few_of most) ≡ Ok xs → unwrap_or (each_as as_table (unwrap_or o no_items)) [] ≡ xs
    go None e = (cc)
    go (Some items) e = each (each_as as_table items) e
