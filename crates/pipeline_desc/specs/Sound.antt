-- What the type of plans keeps: its values are within all limits.
use Rattle.std.specs.Prelude.{◌≡◌, ◌≢◌, ℕ, ◌+◌, ◌≤◌, ◌<◌, ◌==◌, Bool, true, ◌&&◌, nat_le, List, ◌++◌, length, count_by, take, Some, None, IfSome, IsOk, slice_get}
use Rattle.std.specs.List.{list_all, list_any}
use Rattle.device_port.specs.Device.{Place}
use Rattle.pull_nodes.specs.declared.pipe.Pipe.{Pipe}
use Rattle.pull_nodes.specs.declared.pipe.Pipe.TheVariants as pipe
use Rattle.pipeline_desc.specs.Limits.{is_between, is_path, is_short, is_sized, most_groups, most_steps, most_streams, most_tables}
use Rattle.pipeline_desc.specs.Groups.{FollowOn}
use Rattle.pipeline_desc.specs.Meant.{NamedTables, PlanMeant, SettingMeant, setting_at, top_streams, top_tables}
use Rattle.pipeline_desc.specs.Outputs.{is_alone}
use Rattle.pipeline_desc.specs.Places.{all_places}
use Rattle.pipeline_desc.specs.Steps.{kind_given, puts_between, steps_behind}
use Rattle.pipeline_desc.specs.Tables.{is_new_name}
use Rattle.pipeline_desc.specs.declared.listing.ListSpec.{ListSpec}
use Rattle.pipeline_desc.specs.declared.plan.Numbers.{Numbers}
use Rattle.pipeline_desc.specs.declared.step.Step.{Step}
use Rattle.pipeline_desc.specs.declared.step.Step.TheVariants as step
use Rattle.pipeline_desc.specs.declared.stream.Second.{Second}
use Rattle.pipeline_desc.specs.declared.stream.StreamSpec.{StreamSpec}
use Rattle.pipeline_desc.specs.declared.table.TableSpec.{TableSpec}

-- one of these tables has this number
abbrev pub has_number : NamedTables → ℕ → Bool
has_number tables t = list_any (λ e. e.1 == t) tables

-- the pipe's argument is in its range, and it looks up none but these tables
abbrev pub is_sound_pipe : NamedTables → Pipe → Bool
is_sound_pipe tables (pipe.Field i) = nat_le i 999999999
is_sound_pipe tables (pipe.Lookup t i) = has_number tables t && nat_le i 999999999
is_sound_pipe tables (pipe.Drop n) = nat_le n 999999999
is_sound_pipe tables (pipe.Filter text) = is_sized 1 1024 text
is_sound_pipe tables (pipe.Intersperse text) = is_sized 0 64 text
is_sound_pipe tables (pipe.ChunkN n) = is_between 1 64 n
is_sound_pipe tables _ = true

-- the step's argument is in its range, and it looks up none but these tables
abbrev pub is_sound_step : NamedTables → Step → Bool
is_sound_step tables (step.Take n) = nat_le n 999999999
is_sound_step tables (step.Pipe p) = is_sound_pipe tables p

-- a table of records behind those before it: its name is none of theirs
pub record IsSoundTable (before : List TableSpec) (t : TableSpec) : Type 0 where
  pub name : is_new_name before t.name ≡ true
  pub path : is_path t.path ≡ true

-- so is each of these tables
abbrev pub AreSoundTables : List TableSpec → Type 0
AreSoundTables tables = (i : ℕ) (t : TableSpec) → slice_get tables i ≡ Some t → IsSoundTable (take i tables) t

-- a second side is within its limits
pub record IsSoundSecond (tables : NamedTables) (second : Second) : Type 0 where
  pub path : is_path second.path ≡ true
  pub after : list_all (is_sound_step tables) second.after ≡ true

-- the number is that of a stream other than stream k, where there are so many
pub record IsAnotherStream (count k j : ℕ) : Type 0 where
  pub there : j < count
  pub another : j ≢ k

-- stream k is within its limits, and each step and the join take the kind that they get
pub record IsSoundStream (setting : SettingMeant) (k : ℕ) (s : StreamSpec) : Type 0 where
  pub path : is_path s.path ≡ true
  pub steps : list_all (is_sound_step setting.tables) s.steps ≡ true
  pub second : IfSome s.second (IsSoundSecond setting.tables)
  pub few : length (s.steps ++ steps_behind s.second) ≤ most_steps
  pub between : count_by puts_between (s.steps ++ steps_behind s.second) ≤ 1
  pub on_fault : IfSome s.on_fault (λ text. is_short text ≡ true)
  pub to : IfSome s.to (λ path. is_path path ≡ true)
  pub until : IfSome s.until (IsAnotherStream setting.count k)
  pub kinds : IsOk (kind_given k s.steps s.second)

-- so is each of these streams, each in the setting of its number
abbrev pub AreSoundStreams : (ℕ → SettingMeant) → List StreamSpec → Type 0
AreSoundStreams setting streams = (k : ℕ) (s : StreamSpec) → slice_get streams k ≡ Some s → IsSoundStream (setting k) k s

-- the list behind k streams is within its limits, and each step takes the kind that it gets
pub record IsSoundList (setting : SettingMeant) (k : ℕ) (l : ListSpec) : Type 0 where
  pub path : is_path l.path ≡ true
  pub steps : list_all (is_sound_step setting.tables) l.steps ≡ true
  pub few : length l.steps ≤ most_steps
  pub between : count_by puts_between l.steps ≤ 1
  pub on_fault : IfSome l.on_fault (λ text. is_short text ≡ true)
  pub some_listed : 1 ≤ l.max
  pub few_listed : k + l.max ≤ most_streams
  pub kinds : IsOk (kind_given k l.steps None)

-- each of these streams writes to a path that stands once among those of these places, where it writes
abbrev pub AreAlone : List Place → List StreamSpec → Type 0
AreAlone places streams = (k : ℕ) (s : StreamSpec) → slice_get streams k ≡ Some s → is_alone places s.to ≡ true

-- the numbers of a plan are within their limits
pub record AreSoundNumbers (n : Numbers) : Type 0 where
  pub some_open : 1 ≤ n.max_open
  pub few_open : n.max_open ≤ 64
  pub some_wait : 1 ≤ n.queue
  pub few_wait : n.queue ≤ 64
  pub some_read : 1 ≤ n.chunk
  pub few_read : n.chunk ≤ 65536
  pub few_taken : IfSome n.take (λ n. n ≤ 1000000000)

-- the plan is within all limits, and no path that is written is another one of its paths
pub record IsSoundPlan (p : PlanMeant) : Type 0 where
  pub some_open : 1 ≤ p.max_open
  pub few_open : p.max_open ≤ 64
  pub some_wait : 1 ≤ p.queue
  pub few_wait : p.queue ≤ 64
  pub some_read : 1 ≤ p.chunk
  pub few_read : p.chunk ≤ 65536
  pub few_taken : IfSome p.take (λ n. n ≤ 1000000000)
  pub few_tables : length p.tables ≤ most_tables
  pub few_streams : length p.streams ≤ most_streams
  pub tables : AreSoundTables p.tables
  pub few_groups : length p.groups ≤ most_groups
  pub follow : FollowOn (top_tables (length p.tables) p.groups) (top_streams (length p.streams) p.groups) p.groups (length p.tables) (length p.streams)
  pub streams : AreSoundStreams (setting_at p.tables p.groups (length p.streams)) p.streams
  pub list : IfSome p.list (IsSoundList (setting_at p.tables p.groups (length p.streams) (length p.streams)) (length p.streams))
  pub alone : AreAlone (all_places p.tables p.list p.streams) p.streams
