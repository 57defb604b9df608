-- What the parts of a turn do.
use Rattle.std.specs.Prelude.{◌≡◌, ℕ, zero, suc, ◌+◌, ◌-◌, ◌<◌, ◌≤◌, ◌^◌, Bool, true, false, if◌then◌else◌, List, length, take, drop, map, Option, None, Some, IfSome, Result, Ok, Err}
use Rattle.chunk_core.specs.declared.code.Code.TheVariants as code
use Rattle.chunk_core.specs.declared.code.How.{How}
use Rattle.chunk_core.specs.declared.code.How.TheVariants as how
use Rattle.chunk_core.specs.declared.load.Load.{Load}
use Rattle.chunk_core.specs.Elements.{elements, kind_of, rendering_of, Byte}
use Rattle.chunk_core.specs.Elements.LoadKind.{Lines, Rows}
use Rattle.chunk_core.specs.Outcomes.{exit_of}
use Rattle.device_port.specs.declared.Failed.{Failed}
use Rattle.device_port.specs.declared.device.Mode.TheVariants as mode
use Rattle.pull_turns.specs.Around.{Around, Affords, IsHeld, Keeps, KeepsBut, LeavesScope, Writes}
use Rattle.stream_sides.specs.Sides.{Sides, other, paired, unpaired, with_more}
use Rattle.stream_sides.specs.MergeTurns.{MergeTurns, with_ended}
use Rattle.stream_sides.specs.declared.side.Side.{Side}
use Rattle.pull_turns.specs.declared.rest.Rest.{Rest}
use Rattle.pull_turns.specs.declared.rest.Rest.TheVariants.{Nil, Start, Then'}
use Rattle.pull_turns.specs.declared.rest.When.{When}
use Rattle.pull_turns.specs.declared.rest.When.TheVariants as when
use Rattle.pull_turns.specs.declared.turn.Turn.{Turn}
use Rattle.pull_turns.specs.declared.turn.Turn.TheVariants as turn

-- how a run has ended after a turn
abbrev pub how_of : Turn → Option How
how_of (turn.Chunk l) = None
how_of turn.Quiet = None
how_of turn.Done = Some how.Done
how_of (turn.Fault c) = Some (how.Fault c)

abbrev pub load_or_quiet : ℕ → Load → Turn
load_or_quiet zero l = turn.Quiet
load_or_quiet (suc n) l = turn.Chunk l

-- a load is given, or nothing where it is empty
abbrev pub giving : Load → Turn
giving l = load_or_quiet (length (elements l)) l

-- the second of two parts
abbrev pub behind : {F : Type 0} → Rest F → Rest F
behind (Then' w _ a b) = Start b.value
behind r = r

-- the turn of the first part begins the second
abbrev pub begins : When → Turn → Bool
begins w (turn.Chunk l) = false
begins w turn.Quiet = false
begins when.Done turn.Done = true
begins when.Fault turn.Done = false
begins when.Done (turn.Fault c) = false
begins when.Fault (turn.Fault c) = true

-- an end that begins the second part is none of the whole
abbrev pub turn_of_first : When → Turn → Turn
turn_of_first w t = if begins w t then turn.Quiet else t

-- no more than the wanted elements, in a load of the same kind
abbrev pub TakenOf : ℕ → ℕ → Turn → Turn → Type 0
TakenOf old new (turn.Chunk l) (turn.Chunk m) = (elements m ≡ take old (elements l)) × (new ≡ old - length (elements l)) × (kind_of m ≡ kind_of l)
TakenOf old new (turn.Chunk l) turn.Quiet = ⊥
TakenOf old new (turn.Chunk l) turn.Done = ⊥
TakenOf old new (turn.Chunk l) (turn.Fault c) = ⊥
TakenOf old new t u = (new ≡ old) × (u ≡ t)

-- the turn of a stream that is written, by the turn of what is below it: a load gives nothing, or a write failed; all else is passed on
abbrev pub IntoTurn : Turn → Turn → Type 0
IntoTurn (turn.Chunk l) (turn.Chunk m) = ⊥
IntoTurn (turn.Chunk l) turn.Quiet = Unit {0}
IntoTurn (turn.Chunk l) turn.Done = ⊥
IntoTurn (turn.Chunk l) (turn.Fault c) = c ≡ code.Write
IntoTurn t u = u ≡ t

-- a load that came may be written to the device of p, which is held
abbrev pub CanWrite : Around → ℕ → Turn → Type 0
CanWrite a p (turn.Chunk l) = IsHeld a p × ((a.told p).place.mode ≡ mode.Write) × ((a.told p).write_faults < 2 ^ 64 - 1)
CanWrite a p turn.Quiet = Unit {0}
CanWrite a p turn.Done = Unit {0}
CanWrite a p (turn.Fault c) = Unit {0}

-- all the bytes were written to the device of p, or a front of them and then a write failed
abbrev pub WritesAll : {T : Type 0} → Around → ℕ → List ℕ → Result T Failed → Around → Type 0
WritesAll a p bytes (Ok _) b = Writes a p bytes 0 b
WritesAll a p bytes (Err _) b = (n : ℕ) × (n < length bytes) × Writes a p (take n bytes) 1 b

-- the next bytes of the content, where it is told
abbrev pub IsPiece : Option (List ℕ) → ℕ → List ℕ → Type 0
IsPiece None from bytes = Unit {0}
IsPiece (Some c) from bytes = bytes ≡ take (length bytes) (drop from c)

-- the turn of a read of at most n bytes: some of the next, the end, or a fault
abbrev pub PieceTurn : Around → Around → ℕ → ℕ → ℕ → ℕ → Turn → Type 0
PieceTurn before now n p from to (turn.Chunk l) =
    (bytes : List ℕ) × (elements l ≡ map Byte bytes) × (0 < length bytes) × (length bytes ≤ n) × (to ≡ from + length bytes) × (to ≤ 2 ^ 40)
    × ((now.told p).at ≡ to) × ((now.told p).read_faults ≡ (before.told p).read_faults) × IsPiece (before.told p).content from bytes
    × ((k : ℕ) → before.holds p k → now.holds p k)
PieceTurn before now n p from to turn.Quiet = ⊥
PieceTurn before now n p from to turn.Done =
    (to ≡ from) × (from < 2 ^ 40) × ((now.told p).at ≡ from) × ((now.told p).read_faults ≡ (before.told p).read_faults)
    × IfSome (before.told p).content (λ c. length c ≤ from) × ((now.told p).ended ≡ true)
PieceTurn before now n p from to (turn.Fault code.Endless) =
    (to ≡ from) × (2 ^ 40 ≤ from) × ((now.told p).at ≡ from) × ((now.told p).read_faults ≡ (before.told p).read_faults)
PieceTurn before now n p from to (turn.Fault code.Read) =
    (to ≡ from) × ((now.told p).at ≡ from) × ((now.told p).read_faults ≡ (before.told p).read_faults + 1)
PieceTurn before now n p from to (turn.Fault _) = ⊥

-- a device was read, or not even that
pub record ReadsPlace (before now : Around) (p : ℕ) : Type 0 where
  pub keeps : KeepsBut before p now
  pub affords : Affords before now
  pub content : (now.told p).content ≡ (before.told p).content
  pub place : (now.told p).place ≡ (before.told p).place
  pub written : (now.told p).written ≡ (before.told p).written
  pub write_faults : (now.told p).write_faults ≡ (before.told p).write_faults
  pub opens : (now.told p).opens ≡ (before.told p).opens
  pub open_faults : (now.told p).open_faults ≡ (before.told p).open_faults
  pub later : (before.told p).at ≤ (now.told p).at
  pub within : (before.told p).at ≤ 2 ^ 40 → (now.told p).at ≤ 2 ^ 40

-- a read was made
pub record ReadsPiece (before now : Around) (n p from to : ℕ) (t : Turn) : Type 0 where
  pub place : ReadsPlace before now p
  pub piece : PieceTurn before now n p from to t

module _ {O : Type 0} where
  -- the text of a load was written behind what v says, to the device of p, or a front of it and then a write failed; elsewhere nothing was done
  abbrev pub WritesTurn : (O → Around) → O → O → ℕ → Option (List ℕ) → Option (List ℕ) → Turn → Turn → Type 0
  WritesTurn seen a b p v z (turn.Chunk l) (turn.Chunk m) = ⊥
  WritesTurn seen a b p v z (turn.Chunk l) turn.Quiet = Writes (seen a) p (rendering_of (elements l)) 0 (seen b) × (z ≡ ((seen b).told p).written)
  WritesTurn seen a b p v z (turn.Chunk l) turn.Done = ⊥
  WritesTurn seen a b p v z (turn.Chunk l) (turn.Fault c) =
      (c ≡ code.Write) × (z ≡ v) × ((n : ℕ) × Writes (seen a) p (take n (rendering_of (elements l))) 1 (seen b))
  WritesTurn seen a b p v z t u = (b ≡ a) × (z ≡ v) × (u ≡ t)

  abbrev pub LeavesIf : Option How → (O → Around) → O → ℕ → O → Type 0
  LeavesIf (Some h) seen a c b = LeavesScope (seen a) c (exit_of h) (seen b)
  LeavesIf None seen a c b = b ≡ a

  -- where the turn ends what ran in the scope c, the scope was closed with the exit of that end
  abbrev pub LeavesAtEnd : (O → Around) → O → ℕ → Turn → O → Type 0
  LeavesAtEnd seen a c t b = LeavesIf (how_of t) seen a c b

-- the load of the turn is of lines
abbrev pub GivesLines : Turn → Type 0
GivesLines (turn.Chunk l) = kind_of l ≡ Lines
GivesLines turn.Quiet = Unit {0}
GivesLines turn.Done = Unit {0}
GivesLines (turn.Fault c) = Unit {0}

-- what a turn of a side is to the zip: the pairs that are now whole of what waited and of what came, where they are some, and the other elements wait; an end is the whole's
abbrev pub ZipTurn : Sides → Side → Sides → Turn → Turn → Type 0
ZipTurn z side v (turn.Chunk l) t =
    (m : Load) × (elements m ≡ paired (with_more z side (elements l))) × (kind_of m ≡ Rows) × (v ≡ unpaired (with_more z side (elements l))) × (t ≡ giving m)
ZipTurn z side v u t = (v ≡ z) × (t ≡ u)

-- where a side has ended, nothing is left of it
abbrev pub side_left : {F : Type 0} → Turn → Rest F → Rest F
side_left turn.Done r = Nil
side_left t r = r

-- the end, where both sides have ended
abbrev pub end_of_sides : Bool → Bool → Turn
end_of_sides true true = turn.Done
end_of_sides true false = turn.Quiet
end_of_sides false b = turn.Quiet

-- what a turn of a side is to the merge: after what it gave the other side is next, a fault is the whole's, and so is the end of both
abbrev pub MergeTurn : MergeTurns → Side → MergeTurns → Turn → Turn → Type 0
MergeTurn m side n turn.Done t = (n ≡ with_ended m side) × (t ≡ end_of_sides (with_ended m side).left_ended (with_ended m side).right_ended)
MergeTurn m side n (turn.Fault c) t = (n ≡ m) × (t ≡ turn.Fault c)
MergeTurn m side n u t = (n ≡ record m { turn = other side }) × (t ≡ u)
