-- What was done one after the other: what the outer stream read, which lines were given streams, and what became of each stream.
use Rattle.std.specs.Prelude.{◌≡◌, ℕ, ◌+◌, List, [], ◌∷◌, ◌++◌, flat_map, length, take, Option, Some, Result}
use Rattle.std.specs.List.{AllByRecursion}
use Rattle.device_port.specs.Device.{DeviceTold}
use Rattle.device_port.specs.Depot.{DepotTold, IsUnknown}
use Rattle.outer_tables.specs.Devices.{MakesDevices, OpensDevice}
use Rattle.outer_tables.specs.Outcomes.{ComeOut}
use Rattle.outer_tables.specs.declared.not_read.NotRead.{NotRead}
use Rattle.pipeline_desc.specs.Meant.{PlanMeant}
use Rattle.pipeline_desc.specs.declared.listing.ListSpec.{ListSpec}
use Rattle.dealt_streams.specs.Parts.{Deals, Part}

-- Tables at these paths that were tried one after the other, the first of which has this row: the devices that were opened, those that came back unopened, what was read of the
-- tables that aren't refused, and why not all were read, if so.
pub record Tried (V : Type 0) : Type 0 where
  pub row : ℕ
  pub paths : List (List ℕ)
  pub devices : List V
  pub back : List DeviceTold
  pub contents : List (List ℕ)
  pub lack : Option NotRead

-- what was read of these tables, in order
abbrev pub contents_in : {V : Type 0} → List (Tried V) → List (List ℕ)
contents_in tables = flat_map (λ x. x.contents) tables

-- the tables of a part were tried; the device of the list was made and opened, or it wasn't; the next stream of the list was given this line; or the next stream was dealt with
pub data Move (V F : Type 0) : Type 0 where
  Read : Tried V → Move V F
  Opened : Result V NotRead → Move V F
  Gave : List ℕ → Move V F
  Dealt : Part V F → Move V F

module _ {V F : Type 0} where
  -- which tables were tried by a move, which line was given a stream, and what became of a stream
  abbrev pub tried_in : Move V F → List (Tried V)
  tried_in (Read x) = x ∷ []
  tried_in (Opened r) = []
  tried_in (Gave line) = []
  tried_in (Dealt x) = []

  abbrev pub lines_in : Move V F → List (List ℕ)
  lines_in (Read x) = []
  lines_in (Opened r) = []
  lines_in (Gave line) = line ∷ []
  lines_in (Dealt x) = []

  abbrev pub dealt_in : Move V F → List (Part V F)
  dealt_in (Read x) = []
  dealt_in (Opened r) = []
  dealt_in (Gave line) = []
  dealt_in (Dealt x) = x ∷ []

  -- the list's device, or why it wasn't opened
  abbrev pub opened_in : Move V F → List (Result V NotRead)
  opened_in (Read x) = []
  opened_in (Opened r) = r ∷ []
  opened_in (Gave line) = []
  opened_in (Dealt x) = []

  -- the same of moves, in order
  abbrev pub tried_of : List (Move V F) → List (Tried V)
  tried_of moves = flat_map tried_in moves

  abbrev pub lines_of : List (Move V F) → List (List ℕ)
  lines_of moves = flat_map lines_in moves

  abbrev pub dealt_of : List (Move V F) → List (Part V F)
  dealt_of moves = flat_map dealt_in moves

  abbrev pub opened_of : List (Move V F) → List (Result V NotRead)
  opened_of moves = flat_map opened_in moves

  -- what was read of the tables, in order
  abbrev pub contents_of : List (Move V F) → List (List ℕ)
  contents_of moves = contents_in (tried_of moves)

module _ {V : Type 0} (told : V → DeviceTold) where
  -- so the tables came out while the depot came from old to new, which made a device for each that was tried
  pub record Tries (old new : DepotTold) (x : Tried V) : Type 0 where
    pub out : ComeOut told old.files (length old.made) x.paths x.devices x.back x.contents x.lack
    pub made : MakesDevices old new (take (length x.devices + length x.back) x.paths) x.back
    pub unknown : AllByRecursion (λ d. IsUnknown (told d).number old.retired) x.devices

  module _ {F : Type 0} (p : PlanMeant) where
    -- what a move did behind these, while the depot came from old to new
    abbrev pub Moves : List (Move V F) → DepotTold → DepotTold → Move V F → Type 0
    Moves before old new (Read x) = Tries old new x
    Moves before old new (Opened r) = (l : ListSpec) × (p.list ≡ Some l) × OpensDevice told l.path old new r
    Moves before old new (Gave line) = new ≡ old
    Moves before old new (Dealt x) = Deals told p (contents_of before) (lines_of before) (length (dealt_of before)) old new x

    -- these moves were made behind those, one after the other
    abbrev pub AreMoved : List (Move V F) → DepotTold → List (Move V F) → DepotTold → Type 0
    AreMoved before old [] new = new ≡ old
    AreMoved before old (m ∷ ms) new = (mid : DepotTold) × Moves before old mid m × AreMoved (before ++ m ∷ []) mid ms new
