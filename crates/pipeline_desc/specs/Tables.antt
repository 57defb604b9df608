-- What the table of a table of records means.
use Rattle.std.specs.Prelude.{ℕ, Bool, ◌&&◌, not, List, [], ◌∷◌, codes, Ok}
use Rattle.std.specs.List.{list_any}
use Rattle.std.specs.Str.{bytes_eq}
use Rattle.toml.specs.Data.{Members, get_member}
use Rattle.pipeline_desc.specs.Limits.{is_name, is_path}
use Rattle.pipeline_desc.specs.Reading.{Reading, ◌>>=◌, each_behind}
use Rattle.pipeline_desc.specs.Values.{known_keys, required, text_that}
use Rattle.pipeline_desc.specs.declared.refusal.Position.TheVariants.{Nowhere}
use Rattle.pipeline_desc.specs.declared.table.TableSpec.{TableSpec}

-- the keys of a table of records
abbrev pub table_keys : List (List ℕ)
table_keys = codes "name" ∷ codes "path" ∷ []

-- a name that none of these tables has
abbrev pub is_new_name : List TableSpec → List ℕ → Bool
is_new_name before name = is_name name && not (list_any (λ t. bytes_eq t.name name) before)

-- a table of records, behind those before it: its keys in their order
abbrev pub table_meant : List TableSpec → Members → Reading TableSpec
table_meant before ms =
    known_keys table_keys Nowhere ms >>= (λ _.
    required (text_that (is_new_name before) Nowhere) Nowhere (get_member (codes "name") ms) >>= (λ name.
    required (text_that is_path Nowhere) Nowhere (get_member (codes "path") ms) >>= (λ path.
    Ok (record { name = name; path = path }))))

-- all tables of records
abbrev pub tables_meant : List Members → Reading (List TableSpec)
tables_meant tables = each_behind table_meant [] tables
