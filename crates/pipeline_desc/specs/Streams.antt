-- What the table of a stream means.
use Rattle.std.specs.Prelude.{ℕ, ◌+◌, nat_le, List, [], ◌∷◌, ◌++◌, length, codes, Option, Some, None, Ok, if◌then◌else◌, unwrap_or}
use Rattle.std.specs.Str.{bytes_eq}
use Rattle.toml.specs.Data.{Data, Members, as_str, get_member}
use Rattle.pipeline_desc.specs.Limits.{is_another_stream, is_path, is_short, listed_by_default, most_streams}
use Rattle.pipeline_desc.specs.Meant.{SettingMeant, setting_at}
use Rattle.pipeline_desc.specs.Reading.{Reading, refuse, ◌>>=◌, passes, present, each_from}
use Rattle.pipeline_desc.specs.Steps.{are_fitting, kind_given, steps_at, steps_behind}
use Rattle.pipeline_desc.specs.Values.{known_keys, number_or, number_within, required, text_that, where_given}
use Rattle.pipeline_desc.specs.declared.group.GroupSpec.{GroupSpec}
use Rattle.pipeline_desc.specs.declared.join.Join.{Join}
use Rattle.pipeline_desc.specs.declared.join.Join.TheVariants as join
use Rattle.pipeline_desc.specs.declared.listing.ListSpec.{ListSpec}
use Rattle.pipeline_desc.specs.declared.refusal.Position.{Position}
use Rattle.pipeline_desc.specs.declared.refusal.Position.TheVariants.{InStream}
use Rattle.pipeline_desc.specs.declared.refusal.RefusalKind.TheVariants as refused
use Rattle.pipeline_desc.specs.declared.step.Step.{Step}
use Rattle.pipeline_desc.specs.declared.stream.Second.{Second}
use Rattle.pipeline_desc.specs.declared.stream.StreamSpec.{StreamSpec}
use Rattle.pipeline_desc.specs.declared.table.TableSpec.{TableSpec}

-- the keys of a stream
abbrev pub stream_keys : List (List ℕ)
stream_keys =
    codes "path" ∷ codes "steps" ∷ codes "with" ∷ codes "join" ∷ codes "after" ∷ codes "on_fault" ∷ codes "to" ∷ codes "until" ∷ []

-- a join by its name
abbrev pub join_named : List ℕ → Option Join
join_named name =
    if bytes_eq name (codes "append") then Some join.Append
    else if bytes_eq name (codes "zip") then Some join.Zip
    else if bytes_eq name (codes "merge") then Some join.Merge
    else None

-- a text as the name of a join
abbrev pub join_meant : Position → Data → Reading Join
join_meant position d = present (as_str d) refused.WrongType position >>= (λ name. present (join_named name) refused.OutOfRange position)

-- a second side is whole or not there: a path and a join, and steps behind it only then
abbrev pub second_meant : Position → Option (List ℕ) → Option Join → List Step → Reading (Option Second)
second_meant position None None [] = Ok None
second_meant position None None (s ∷ steps) = refuse refused.OutOfRange position
second_meant position None (Some j) after = refuse refused.OutOfRange position
second_meant position (Some path) None after = refuse refused.OutOfRange position
second_meant position (Some path) (Some j) after = Ok (Some (record { join = j; path = path; after = after }))

-- the number of a stream other than stream k, where there are so many
abbrev pub until_meant : ℕ → ℕ → Data → Reading ℕ
until_meant count k d = number_or refused.BadUntil (is_another_stream count k) (InStream k) d

-- the table of stream k: its keys in their order, and then what holds of several of them
abbrev pub stream_meant : SettingMeant → ℕ → Members → Reading StreamSpec
stream_meant setting k ms =
    known_keys stream_keys (InStream k) ms >>= (λ _.
    required (text_that is_path (InStream k)) (InStream k) (get_member (codes "path") ms) >>= (λ path.
    steps_at setting k 0 (get_member (codes "steps") ms) >>= (λ steps.
    where_given (text_that is_path (InStream k)) (get_member (codes "with") ms) >>= (λ side.
    where_given (join_meant (InStream k)) (get_member (codes "join") ms) >>= (λ joined.
    steps_at setting k (length steps + 1) (get_member (codes "after") ms) >>= (λ after.
    where_given (text_that is_short (InStream k)) (get_member (codes "on_fault") ms) >>= (λ on_fault.
    where_given (text_that is_path (InStream k)) (get_member (codes "to") ms) >>= (λ to.
    where_given (until_meant setting.count k) (get_member (codes "until") ms) >>= (λ until.
    second_meant (InStream k) side joined after >>= (λ second.
    are_fitting k (steps ++ steps_behind second) >>= (λ _.
    kind_given k steps second >>= (λ _.
    Ok (record { path = path; steps = steps; second = second; on_fault = on_fault; to = to; until = until })))))))))))))

-- the tables of all streams, beside these tables of records and groups
abbrev pub streams_meant : List TableSpec → List GroupSpec → List Members → Reading (List StreamSpec)
streams_meant tables groups streams = each_from (λ k. stream_meant (setting_at tables groups (length streams) k) k) 0 streams

-- the keys of the list
abbrev pub list_keys : List (List ℕ)
list_keys = codes "path" ∷ codes "steps" ∷ codes "on_fault" ∷ codes "max" ∷ []

-- how many streams the list behind k streams may have: a number within limits, and no more than there may be in all
abbrev pub max_meant : ℕ → Option Data → Reading ℕ
max_meant k d =
    where_given (number_within 1 most_streams (InStream k)) d >>= (λ max.
    passes (nat_le (k + unwrap_or max listed_by_default) most_streams) refused.OutOfRange (InStream k) >>= (λ _. Ok (unwrap_or max listed_by_default)))

-- the table of the list behind k streams: its keys in their order, and then what holds of several of them; its streams have the numbers from k on
abbrev pub list_meant : SettingMeant → ℕ → Members → Reading ListSpec
list_meant setting k ms =
    known_keys list_keys (InStream k) ms >>= (λ _.
    required (text_that is_path (InStream k)) (InStream k) (get_member (codes "path") ms) >>= (λ path.
    steps_at setting k 0 (get_member (codes "steps") ms) >>= (λ steps.
    where_given (text_that is_short (InStream k)) (get_member (codes "on_fault") ms) >>= (λ on_fault.
    max_meant k (get_member (codes "max") ms) >>= (λ max.
    are_fitting k (steps ++ steps_behind None) >>= (λ _.
    kind_given k steps None >>= (λ _.
    Ok (record { path = path; steps = steps; on_fault = on_fault; max = max }))))))))

-- that of the list behind these streams, where there is one; it may look up the tables of the top
abbrev pub list_behind : List TableSpec → List GroupSpec → ℕ → Option Members → Reading (Option ListSpec)
list_behind tables groups k None = Ok None
list_behind tables groups k (Some ms) = list_meant (setting_at tables groups k k) k ms >>= (λ l. Ok (Some l))
