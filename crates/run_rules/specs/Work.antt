-- What is to be run, and what a run did.
use Rattle.std.specs.Prelude.{ℕ, ◌+◌, ◌-◌, suc, Bool, false, ◌&&◌, ◌||◌, nat_eq, nat_le, nat_lt, if◌then◌else◌, List, [], ◌∷◌, ◌++◌, map, drop, take, length, sum_by, flat_map, Option, Some, None}
pub use Rattle.chunk_core.specs.Tables.{Values}
use Rattle.chunk_core.specs.Texts.{Frame}
use Rattle.chunk_core.specs.Outcomes.{Outcomes}
use Rattle.chunk_core.specs.declared.code.Code.{Code}
use Rattle.res_ledger.specs.declared.event.StreamNo.{StreamNo}
use Rattle.res_ledger.specs.declared.event.StreamNo.TheVariants.{Outer, Inner}
use Rattle.res_ledger.specs.declared.event.Event.{Event}
use Rattle.device_port.specs.Device.{Place, DeviceTold}
use Rattle.device_port.specs.Depot.{DepotTold}
use Rattle.run_rules.specs.declared.end.EndOf.{EndOf}
use Rattle.run_rules.specs.Facts.{at}

-- one stream: the places of its rows, how many scopes it opens at most, and the stream whose end stops it
pub record Stream : Type 0 where
  pub places : List Place
  pub scopes : ℕ
  pub until : Option ℕ

-- tables and streams that belong together, the tables being read when the streams before them were given: how many these are
pub record Part : Type 0 where
  pub tables : ℕ
  pub streams : ℕ

-- A list, each line of which is the path of a stream: its place, and the lines that were given streams, which are the last ones. At most `most` are given, and none
-- for a line that is bad. A read gives at most so many bytes, in which so many lines have ended.
pub record Lister : Type 0 where
  pub place : Place
  pub lines : List (List ℕ)
  pub most : ℕ
  pub is_bad : List ℕ → Bool
  pub piece : ℕ
  pub ended_in : List ℕ → ℕ

-- What the outer stream does: it reads the tables, whose bytes are refused or have values by key, and gives the streams one by one,
-- of which so many are open at once, and so many frames are printed at most. The last tables belong to groups, with the streams of these,
-- and behind all others are the streams of the list, where there is one.
pub record Opener : Type 0 where
  pub tables : List Place
  pub groups : List Part
  pub list : Option Lister
  pub fault_of : List ℕ → Option Code
  pub value_of : List ℕ → List ℕ → Option (List ℕ)
  pub max_open : ℕ
  pub most : Option ℕ

-- The streams that run side by side, and the outer stream that gives them, where there is one. What stream k may give and how it
-- may end is a relation over the values of the tables and the devices of the rows, by which the end tells of what failed on these, too;
-- and what the list may give is one over its device.
pub record Work : Type 1 where
  pub opener : Option Opener
  pub streams : List Stream
  pub runs : ℕ → Values → (ℕ → DeviceTold) → Outcomes
  pub ideal_runs : ℕ → Values → (ℕ → DeviceTold) → Outcomes
  pub listing : DeviceTold → Outcomes
  pub ideal_listing : DeviceTold → Outcomes

-- the place of the list, where there is one
abbrev pub list_places : Option Lister → List Place
list_places None = []
list_places (Some l) = l.place ∷ []

-- the places of an outer stream's rows: those of the tables, and behind them that of the list
abbrev pub opener_places : Opener → List Place
opener_places o = o.tables ++ list_places o.list

-- the row of the list
abbrev pub list_row : Opener → ℕ
list_row o = length o.tables

-- the places of the outer stream's rows, where there is one
abbrev pub outer_places : Work → List Place
outer_places work = elim work.opener [ Some o ↦ opener_places o | None ↦ [] ]

-- the list as one more part, with its one row and a stream for each of its lines
abbrev pub list_parts : Option Lister → List Part
list_parts None = []
list_parts (Some l) = record { tables = 1; streams = length l.lines } ∷ []

-- the parts that have a scope of their own: the groups, and behind them the list
abbrev pub parts_of : Opener → List Part
parts_of o = o.groups ++ list_parts o.list

-- the part that is first, with the tables and those of the n streams that belong to no other
abbrev pub top_of : Opener → ℕ → Part
top_of o n = record { tables = length o.tables - sum_by (λ p. p.tables) o.groups; streams = n - sum_by (λ p. p.streams) (parts_of o) }

-- all parts
abbrev pub all_parts : Opener → ℕ → List Part
all_parts o n = top_of o n ∷ parts_of o

-- Of parts with the rows from r and the streams from k on.

-- how many rows there are up to those of the part of stream j
abbrev pub rows_up_to : ℕ → ℕ → List Part → ℕ → ℕ
rows_up_to r k [] j = r
rows_up_to r k (p ∷ ps) j = if nat_lt j (k + p.streams) then r + p.tables else rows_up_to (r + p.tables) (k + p.streams) ps j

-- how many streams there are before those of the part of row i
abbrev pub streams_before : ℕ → ℕ → List Part → ℕ → ℕ
streams_before r k [] i = k
streams_before r k (p ∷ ps) i = if nat_lt i (r + p.tables) then k else streams_before (r + p.tables) (k + p.streams) ps i

-- i is one of the n numbers from m on
abbrev pub is_from : ℕ → ℕ → ℕ → Bool
is_from m n i = nat_le m i && nat_lt i (m + n)

-- the row i belongs to the part of the stream j
abbrev pub are_together : ℕ → ℕ → List Part → ℕ → ℕ → Bool
are_together r k [] i j = false
are_together r k (p ∷ ps) i j = (is_from r p.tables i && is_from k p.streams j) || are_together (r + p.tables) (k + p.streams) ps i j

-- the row i is lent to the stream j: it is one of the top or of its part
abbrev pub is_lent : Opener → ℕ → ℕ → ℕ → Bool
is_lent o n i j = nat_lt i (top_of o n).tables || are_together 0 0 (all_parts o n) i j

-- how many frames are printed at most
abbrev pub most_of : Work → Option ℕ
most_of work = elim work.opener [ Some o ↦ o.most | None ↦ None ]

-- one stream is open at a time
abbrev pub runs_in_turn : Work → Bool
runs_in_turn work = elim work.opener [ Some o ↦ nat_eq o.max_open 1 | None ↦ false ]

-- the places of all rows, in the order of the rows: those of the outer stream come first
abbrev pub row_places : Work → List Place
row_places work = outer_places work ++ flat_map (λ s. s.places) work.streams

abbrev pub names_from : ℕ → List Stream → List StreamNo
names_from k [] = []
names_from k (s ∷ ss) = Inner k ∷ names_from (suc k) ss

-- the names of the streams, in order
abbrev pub names_of : Work → List StreamNo
names_of work = elim work.opener [ Some o ↦ Outer ∷ names_from 0 work.streams | None ↦ names_from 0 work.streams ]

abbrev pub owners_from : ℕ → List Stream → List StreamNo
owners_from k [] = []
owners_from k (s ∷ ss) = map (λ p. Inner k) s.places ++ owners_from (suc k) ss

-- whose each row is, in the order of the rows
abbrev pub owners_of : Work → List StreamNo
owners_of work = map (λ p. Outer) (outer_places work) ++ owners_from 0 work.streams

-- the places of one stream's rows
abbrev pub places_by : Work → StreamNo → List Place
places_by work Outer = outer_places work
places_by work (Inner k) = elim (at work.streams k) [ Some s ↦ s.places | None ↦ [] ]

-- the first row of stream k: behind those of the outer stream and of the streams before it
abbrev pub first_row_of : Work → ℕ → ℕ
first_row_of work k = length (outer_places work) + sum_by (λ s. length s.places) (take k work.streams)

-- how many scopes one stream opens at most
abbrev pub scopes_by : Work → StreamNo → ℕ
scopes_by work Outer = elim work.opener [ Some o ↦ length (parts_of o) | None ↦ 0 ]
scopes_by work (Inner k) = elim (at work.streams k) [ Some s ↦ s.scopes | None ↦ 0 ]

-- the stream whose end stops it
abbrev pub until_by : Work → StreamNo → Option ℕ
until_by work Outer = None
until_by work (Inner k) = elim (at work.streams k) [ Some s ↦ s.until | None ↦ None ]

-- the ends behind the outer stream's
abbrev pub inner_ends : Work → List EndOf → List EndOf
inner_ends work ends = elim work.opener [ Some o ↦ drop 1 ends | None ↦ ends ]

-- What a run did: the depot before and after, the ends, the ledger, the whole frames that were printed; the frame whose write
-- failed, if one did, and the rest, which is what was written of it; and whether memory was wanting.
pub record RunRecord : Type 0 where
  pub depot_old : DepotTold
  pub depot_new : DepotTold
  pub ends : List EndOf
  pub events : List Event
  pub frames : List Frame
  pub cut : Option Frame
  pub rest : List ℕ
  pub memory : Bool

-- the frames that were begun
abbrev pub begun_frames : RunRecord → List Frame
begun_frames c = c.frames ++ elim c.cut [ Some f ↦ f ∷ [] | None ↦ [] ]
