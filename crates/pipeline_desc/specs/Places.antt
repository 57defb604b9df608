-- The rows of a plan, each with its place: a path, and whether it is read or written.
use Rattle.std.specs.Prelude.{ℕ, ◌+◌, ◌-◌, Bool, List, [], ◌∷◌, ◌++◌, length, map, take, Option, option_map, option_to_list, if◌then◌else◌}
use Rattle.std.specs.List.{flat_map, range_with_len, sum_by}
use Rattle.chunk_core.specs.declared.code.Span.{Span}
use Rattle.device_port.specs.Device.{Place, to_read, to_write}
use Rattle.device_port.specs.declared.device.Mode.{Mode}
use Rattle.pipeline_desc.specs.Meant.{PlanMeant}
use Rattle.pipeline_desc.specs.declared.listing.ListSpec.{ListSpec}
use Rattle.pipeline_desc.specs.declared.stream.Second.{Second}
use Rattle.pipeline_desc.specs.declared.stream.StreamSpec.{StreamSpec}
use Rattle.pipeline_desc.specs.declared.table.TableSpec.{TableSpec}

-- the path of a second side, where there is one
abbrev pub second_path : Option Second → Option (List ℕ)
second_path second = option_map (λ x. x.path) second

-- the places of a stream's rows, in order: its `to`, its `path` and its `with`, without those that aren't given
abbrev pub stream_places : StreamSpec → List Place
stream_places s = option_to_list (option_map to_write s.to) ++ to_read s.path ∷ option_to_list (option_map to_read (second_path s.second))

-- the places of the tables' rows
abbrev pub table_places : List TableSpec → List Place
table_places tables = map (λ t. to_read t.path) tables

-- the place of the list's row, where there is a list
abbrev pub list_places : Option ListSpec → List Place
list_places list = option_to_list (option_map (λ l. to_read l.path) list)

-- the places of all rows that are described, in the order of the rows: those of the tables come first, then that of the list, and then those of each
-- described stream
abbrev pub all_places : List TableSpec → Option ListSpec → List StreamSpec → List Place
all_places tables list streams = table_places tables ++ (list_places list ++ flat_map stream_places streams)

-- how many rows a stream has
abbrev pub row_count : StreamSpec → ℕ
row_count s = length (stream_places s)

-- how many rows the outer stream has: one for each table, and one for the list, where there is one
abbrev pub outer_rows : PlanMeant → ℕ
outer_rows p = length p.tables + length (option_to_list p.list)

-- the first row of stream k: behind the outer stream's rows and those of the described streams before it; each stream of the list has one
abbrev pub first_row : PlanMeant → ℕ → ℕ
first_row p k = outer_rows p + sum_by row_count (take k p.streams) + (k - length p.streams)

-- the rows of stream k, which end where those of the next one begin
abbrev pub rows_of : PlanMeant → ℕ → Span
rows_of p k = record { from = first_row p k; to = first_row p (k + 1) }

-- the rows of a span, in order
abbrev pub rows_within : Span → List ℕ
rows_within span = range_with_len span.from (span.to - span.from)

-- of places, the first of which is that of this row, the rows whose mode passes
abbrev pub rows_that : (Mode → Bool) → ℕ → List Place → List ℕ
rows_that test row [] = []
rows_that test row (p ∷ places) = if test p.mode then (row ∷ rows_that test (row + 1) places) else rows_that test (row + 1) places
