-- How the outer stream of a plan with a list stands.
use Rattle.std.specs.Prelude.{◌≡◌, ℕ, ◌+◌, ◌-◌, ◌*◌, ◌<◌, ◌≤◌, List, [], ◌∷◌, filter, length, option_to_list, Option, Some, None, IfSome, Result, Ok}
use Rattle.chunk_core.specs.Lists.{IsAmong}
use Rattle.device_port.specs.Device.{DeviceTold}
use Rattle.join_tree.specs.Given.{given}
use Rattle.join_tree.specs.Mains.{IsMain}
use Rattle.join_tree.specs.Notes.{is_table_note}
use Rattle.join_tree.specs.Progress.{Progress}
use Rattle.outer_stream.specs.Parts.{IsAmid, children_left, left_of}
use Rattle.outer_stream.specs.Steps.{ends}
use Rattle.outer_stream.specs.declared.next.OuterPart.{OuterPart}
use Rattle.outer_stream.specs.declared.outer.Outer.{Outer}
use Rattle.outer_tables.specs.declared.not_read.NotRead.{NotRead}
use Rattle.pipeline_desc.specs.Meant.{PlanMeant, stream_limit}
use Rattle.pipeline_desc.specs.Sound.{IsSoundPlan}
use Rattle.pipeline_desc.specs.declared.listing.ListSpec.{ListSpec}
use Rattle.res_ledger.specs.Own.{opens}
use Rattle.scope_tree.specs.Calls.{Seen, used}
use Rattle.scope_tree.specs.Trace.{owed, trace}
use Rattle.outer_source.specs.Lists.{IsInList}
use Rattle.outer_source.specs.declared.source.OuterSource.{OuterSource}

-- one that wasn't pulled
abbrev pub unpulled : OuterSource
unpulled = record { outer = record { leased = 0; part = 0; scope = 0; behind = 0; table = 0; tables = [] }; list = None }

-- the events that are left for a list: four where there is one that wasn't opened, for its scope and its row
abbrev pub list_left : {L : Type 0} → Option ListSpec → Option L → ℕ
list_left l None = 4 * length (option_to_list l)
list_left l (Some r) = 0

-- the events that the outer stream may note still beside its leases and what it owes
abbrev pub events_left : PlanMeant → List OuterPart → OuterSource → ℕ
events_left p parts x = left_of parts (length p.tables) x.outer + list_left p.list x.list

module _ {V : Type 0} (told : V → DeviceTold) (p : PlanMeant) (parts : List OuterPart) where
  -- behind all tables and child scopes of the parts there is room for a list's row and scope
  pub record HasRoomForList (x : Outer) (b : Seen V) : Type 0 where
    pub row : IsAmong (length p.tables) b.seat.empty
    pub used : used b + (length p.tables - x.table) + 1 ≤ b.rows
    pub scopes : length (opens (trace b.seat)) + 2 + children_left parts x.part ≤ b.scopes

  -- it is amid its parts, and nothing was done with the list
  pub record IsAmidParts (x : OuterSource) (b : Seen V) : Type 0 where
    pub amid : IsAmid parts (length p.tables) (length p.streams) x.outer b
    pub unopened : x.list ≡ None
    pub room : IfSome p.list (λ l. HasRoomForList x.outer b)

  -- It stands so, whose list was opened so, if it was, and of which these lines were given streams: it is amid its parts, or in the list.
  pub data IsAmidAll : List (Result V NotRead) → List (List ℕ) → OuterSource → Seen V → Type 0 where
    in_parts : {x : OuterSource} {b : Seen V} → IsAmidParts x b → IsAmidAll [] [] x b
    in_list : {lines : List (List ℕ)} {x : OuterSource} {b : Seen V} (l : ListSpec) (first : V) → p.list ≡ Some l → IsInList told p parts l first lines x b → IsAmidAll (Ok first ∷ []) lines x b

  -- there is room for the events that it may note still, where all streams there may be are leased for
  pub record MayPullAll (x : OuterSource) (b : Seen V) : Type 0 where
    pub free : owed b.seat + events_left p parts x ≤ b.seat.spare
    pub leases : x.outer.leased < stream_limit p → owed b.seat + events_left p parts x + (stream_limit p - x.outer.leased) + 1 ≤ b.seat.spare

  -- The main tree, with room for all streams that there may be, is as far as the outer stream, which stands so: its root is open, so many streams were given, and so much was noted of tables and child scopes. The seats that are out and the leases that wait are as many as the width at most.
  pub record IsSourceAt (width : ℕ) (openings : List (Result V NotRead)) (lines : List (List ℕ)) (q : Progress V) (x : OuterSource) (a : Seen V) : Type 0 where
    pub sound : IsSoundPlan p
    pub some_parts : 1 ≤ length parts
    pub main : IsMain (ends told) width (stream_limit p) a q
    pub root : q.root ≡ None
    pub leased : q.leased ≡ x.outer.leased
    pub noted : q.tables ≡ filter is_table_note (given a.seat)
    pub narrow : length a.seat.out + length q.waits ≤ width
    pub amid : IsAmidAll openings lines x a
    pub may : MayPullAll x a
