-- What a list that is read line by line has given, and what of its device was read for that.
use Rattle.std.specs.Prelude.{◌≡◌, ◌⊎◌, ℕ, ◌+◌, ◌-◌, ◌^◌, ◌≤◌, Bool, true, false, List, [], ◌∷◌, ◌++◌, length, map, take, Option, Some, None, IfSome}
use Rattle.chunk_core.specs.Elements.{Byte, Element, Line}
use Rattle.chunk_core.specs.Elements.LoadKind.{Bytes, Lines}
use Rattle.chunk_core.specs.Feed.{Meaning}
use Rattle.chunk_core.specs.Outcomes.{Cut, Done, End, Fault, Outcomes}
use Rattle.chunk_core.specs.declared.code.Code.{Code}
use Rattle.chunk_core.specs.declared.code.Code.TheVariants as code
use Rattle.chunk_core.specs.declared.code.How.{How}
use Rattle.chunk_core.specs.declared.code.How.TheVariants as how
use Rattle.device_port.specs.Device.{DeviceTold}
use Rattle.pull_nodes.specs.Laws.{IsSteady}
use Rattle.pull_nodes.specs.Runs.{FirstBytes, OrLeft, Piped, Reads}
use Rattle.list_lines.specs.declared.listed.Listed.{Listed}
use Rattle.list_lines.specs.declared.listed.Listed.TheVariants as listed
use Rattle.list_lines.specs.declared.lines.ListLines.{ListLines}

-- a pipe that takes bytes and gives lines
pub record GivesLines (m : Meaning) : Type 0 where
  pub takes : m.takes ≡ Bytes
  pub gives : m.gives ≡ Lines
  pub nothing : (m.part []).list ≡ []
  pub steady : IsSteady m

-- what a list may give, over what its device tells at the end: the device's bytes go through the pipe, and both may be left at any time
abbrev pub ListRun : Meaning → DeviceTold → Outcomes
ListRun m d = OrLeft (Unit {0}) (Piped m.part m.all (OrLeft (Unit {0}) (Reads d)))

-- how a list is over is how its run ends; where memory was wanting it was left
abbrev pub end_of : How → End
end_of how.Done = Done
end_of (how.Fault c) = Fault c
end_of how.Halted = Cut
end_of how.Memory = Cut

-- these lines and this end are those of a run
abbrev pub HasRun : Meaning → DeviceTold → List (List ℕ) → How → Type 0
HasRun m d lines h = ListRun m d (map Line lines) (end_of h)

-- The device was read no further than these lines need: before the last read, which gave at most 4,096 bytes, no other line had come, and where its end was met none had come before that; and no more than 2^40 bytes were read.
pub record IsInTime (m : Meaning) (d : DeviceTold) (given : List (List ℕ)) : Type 0 where
  pub needed : IfSome d.content (λ c. length (m.part (map Byte (take (d.at - 4096) c))).list ≤ length given)
  pub ended : d.ended ≡ true → IfSome d.content (λ c. length (m.part (map Byte (take d.at c))).list ≤ length given)
  pub few : d.at ≤ 2 ^ 40

-- of a list of which these lines were given a further one was wanted, but memory was wanting: no read failed
pub record IsCut (m : Meaning) (d : DeviceTold) (given : List (List ℕ)) : Type 0 where
  pub run : HasRun m d given how.Memory
  pub in_time : IsInTime m d given
  pub unfailed : d.read_faults ≡ 0

-- nothing was read
pub record IsUnread (d : DeviceTold) : Type 0 where
  pub at : d.at ≡ 0
  pub ended : d.ended ≡ false
  pub unfailed : d.read_faults ≡ 0

-- it was read for some way
abbrev pub OnlyReads : DeviceTold → DeviceTold → Type 0
OnlyReads old new = new ≡ record old { at = new.at; ended = new.ended; read_faults = new.read_faults }

-- the list is over, whose run has given just these lines, and nobody has stopped it; a read has failed only where that is its end
pub record IsOver (m : Meaning) (d : DeviceTold) (given : List (List ℕ)) (h : How) : Type 0 where
  pub run : HasRun m d given h
  pub in_time : IsInTime m d given
  pub faults : (d.read_faults ≡ 0) ⊎ (h ≡ how.Fault code.Read)
  pub unhalted : h ≡ how.Halted → ⊥

module _ {F : Type 0} where
  -- no line waits, and more may come
  abbrev pub lacks : ListLines F → Bool
  lacks x = elim x.waiting.items [ [] ↦ elim x.over [ None ↦ true | Some h ↦ false ] | y ∷ ys ↦ false ]

  -- how many reads there may be still
  abbrev pub left_to_read : ListLines F → ℕ
  left_to_read x = elim x.over [ None ↦ 2 ^ 40 + 1 - x.read | Some h ↦ 0 ]

  -- all came of this input
  pub record IsLast (m : Meaning) (xs : List Element) (y : ListLines F) : Type 0 where
    pub lines : (m.all xs).list ≡ (m.part xs).list ++ map Line y.waiting.items
    pub over : y.over ≡ Some (elim (m.all xs).fault [ Some c ↦ how.Fault c | None ↦ how.Done ])

module _ {F : Type 0} (Stands : F → Meaning → List Element → Type 0) where
  -- no line waits, and the pipe may be fed
  abbrev pub MayGoOn : ListLines F → Type 0
  MayGoOn x = (x.waiting.items ≡ []) × (x.over ≡ None) × ((m : Meaning) × (xs : List Element) × GivesLines m × Stands x.pipe m xs)

  -- the pipe was fed bs behind xs, and the lines that came wait now
  pub record TakesIn (m : Meaning) (xs bs : List Element) (x y : ListLines F) : Type 0 where
    pub lines : (m.part (xs ++ bs)).list ≡ (m.part xs).list ++ map Line y.waiting.items
    pub now : ((y.over ≡ None) × Stands y.pipe m (xs ++ bs)) ⊎ ((c : Code) × (y.over ≡ Some (how.Fault c)) × ((m.part (xs ++ bs)).fault ≡ Some c))
    pub read : y.read ≡ x.read

  -- the list is read so far that these lines came
  pub record IsReading (m : Meaning) (d : DeviceTold) (lines : List (List ℕ)) (x : ListLines F) : Type 0 where
    pub xs : List Element
    pub first : FirstBytes d.content d.at xs
    pub within : IfSome d.content (λ c. d.at ≤ length c)
    pub stands : Stands x.pipe m xs
    pub came : (m.part xs).list ≡ map Line lines
    pub read : x.read ≡ d.at
    pub unfailed : d.read_faults ≡ 0

  -- these lines came, and these are all, or more may come
  abbrev pub HaveCome : Option How → Meaning → DeviceTold → List (List ℕ) → ListLines F → Type 0
  HaveCome None m d lines x = IsReading m d lines x
  HaveCome (Some h) m d lines x = HasRun m d lines h

  -- the list has given these lines, and those that wait come next; no read has failed, or one did and none waits
  pub record IsAt (m : Meaning) (d : DeviceTold) (given : List (List ℕ)) (x : ListLines F) : Type 0 where
    pub came : HaveCome x.over m d (given ++ x.waiting.items) x
    pub in_time : IsInTime m d given
    pub faults : (d.read_faults ≡ 0) ⊎ ((x.waiting.items ≡ []) × (x.over ≡ Some (how.Fault code.Read)))
    pub unhalted : x.over ≡ Some how.Halted → ⊥

  -- behind these lines this one was given, which was needed, and no read has failed
  pub record GivesLine (m : Meaning) (d : DeviceTold) (given : List (List ℕ)) (x : ListLines F) (line : List ℕ) : Type 0 where
    pub now : IsAt m d (given ++ line ∷ []) x
    pub in_time : IsInTime m d given
    pub unfailed : d.read_faults ≡ 0

  abbrev pub Comes : Meaning → DeviceTold → List (List ℕ) → ListLines F → Listed → Type 0
  Comes m d given x (listed.Line line) = GivesLine m d given x line
  Comes m d given x (listed.Over h) = IsOver m d given h
