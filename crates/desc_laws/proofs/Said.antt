-- What an accepted description says of its tables.
use Rattle.std.proofs.Common.{◌≡◌, ℕ, suc, ◌+◌, List, [], ◌∷◌, ◌++◌, length, Option, Some, Ok, Err, refl, ap, ◌∙◌, sym, subst, arith, append_assoc, append-nil, codes}
use Rattle.std.specs.Prelude.{slice_get}
use Rattle.toml.specs.Data.{Data, Members, as_str, get_member}
use Rattle.pipeline_desc.specs.Limits.{is_path}
use Rattle.pipeline_desc.specs.Reading.{Reading, each_behind}
use Rattle.pipeline_desc.specs.Tables.{is_new_name, table_keys, table_meant}
use Rattle.pipeline_desc.specs.Values.{known_keys, required, text_that}
use Rattle.pipeline_desc.specs.declared.table.TableSpec.{TableSpec}
use Rattle.desc_laws.specs.Flaws.Key.{Name, Path}
use Rattle.desc_laws.specs.Flaws.Part.{Table}
use Rattle.desc_laws.specs.Places.{part_in, value_at}
use Rattle.desc_laws.specs.Says.{SaysTable, SaysTables, SaysText}
use Rattle.desc_laws.proofs.Positions.{at_top}
use Rattle.desc_laws.proofs.Tables.{name_is, named_table, table_at, table_of, text_read}
use Rattle.desc_laws.proofs.Texts.{bind_ok}

-- a text that was read stands there
pub says_text : (o : Option Data) (d : Data) (text : List ℕ) → o ≡ Some d → as_str d ≡ Some text → SaysText o text
says_text o d text there is = subst (λ p. SaysText p text) (sym there) is

abbrev path_in : Reading TableSpec → List ℕ
path_in (Ok s) = s.path
path_in (Err r) = []

table_said : (bytes : List ℕ) (i : ℕ) (found : List TableSpec) (t : TableSpec) → table_meant found (part_in bytes (Table i)) ≡ Ok t → SaysTable bytes i t
table_said bytes i found t e =
    let ms = part_in bytes (Table i) in
    let (u, known, more) = bind_ok (known_keys table_keys at_top.0 ms) (λ _. table_of found ms) t e in
    let (name, named, next) = bind_ok (required (text_that (is_new_name found) at_top.0) at_top.0 (get_member (codes "name") ms)) (λ name. table_at name ms) t more in
    let (path, at, last) = bind_ok (required (text_that is_path at_top.0) at_top.0 (get_member (codes "path") ms)) (λ path. named_table name path) t next in
    let (d, there, is) = text_read (value_at bytes (Table i) Name) (is_new_name found) at_top.0 name named in
    let (f, stands, reads) = text_read (value_at bytes (Table i) Path) is_path at_top.0 path at in
    record {
      name = says_text (value_at bytes (Table i) Name) d t.name there (is ∙ ap (λ (x : List ℕ). Some x) (name_is name path t last));
      path = says_text (value_at bytes (Table i) Path) f t.path stands (reads ∙ ap (λ (x : List ℕ). Some x) (ap path_in last));
    }

pub tables_said : (bytes : List ℕ) (i : ℕ) (found : List TableSpec) (xs : List Members) (ts : List TableSpec) → ((j : ℕ) (x : Members) → slice_get xs j ≡ Some x → part_in bytes (Table (i + j)) ≡ x) → each_behind table_meant found xs ≡ Ok ts
    → (more : List TableSpec) × (ts ≡ found ++ more) × (length more ≡ length xs) × SaysTables bytes i more
tables_said bytes i found [] ts there e = let same : found ≡ ts = cc in ([], sym same ∙ sym (append-nil found), refl, tt)
tables_said bytes i found (x ∷ xs) ts there e =
    let (t, is, rest) = bind_ok (table_meant found x) (λ t. each_behind table_meant (found ++ t ∷ []) xs) ts e in
    let (more, whole, count, said) = tables_said bytes (i + 1) (found ++ t ∷ []) xs ts (λ j y h. ap (λ n. part_in bytes (Table n)) (next j) ∙ there (suc j) y h) rest in
    (t ∷ more, whole ∙ append_assoc found (t ∷ []) more, (omega (arith, count)), (table_said bytes i found t (ap (table_meant found) here ∙ is), said))
  where
    here : part_in bytes (Table i) ≡ x
    here = let zero_more : i ≡ i + 0 = omega arith in ap (λ n. part_in bytes (Table n)) zero_more ∙ there 0 x refl

    next : (j : ℕ) → i + 1 + j ≡ i + suc j
    next j = omega arith
