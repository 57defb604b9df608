-- How the outer stream ended.
use Rattle.std.specs.Prelude.{◌≡◌, ◌⊎◌, ℕ, ◌+◌, ◌-◌, ◌<◌, true, false, List, [], ◌∷◌, length, take, drop, Option, Some, None, IfSome}
use Rattle.std.specs.List.{range_with_len, AllByRecursion}
use Rattle.chunk_core.specs.Outcomes.{Done, Fault, Cut, Outcomes}
use Rattle.chunk_core.specs.declared.code.Code.{Code}
use Rattle.chunk_core.specs.declared.code.Code.TheVariants as code
use Rattle.chunk_core.specs.declared.code.How.{How}
use Rattle.chunk_core.specs.declared.code.How.TheVariants as how
use Rattle.res_ledger.specs.declared.event.Event.{Event}
use Rattle.res_ledger.specs.declared.event.StreamNo.TheVariants.{Outer}
use Rattle.res_ledger.specs.declared.event.What.TheVariants.{Lease}
use Rattle.res_ledger.specs.Ledger.{IsAcquired, IsLeased, Notes}
use Rattle.device_port.specs.Device.{Place, DeviceTold}
use Rattle.run_rules.specs.declared.end.EndOf.{EndOf}
use Rattle.run_rules.specs.Facts.{IsOver}
use Rattle.run_rules.specs.Giving.{GivesAll}
use Rattle.run_rules.specs.Homes.{IsBack, is_tried}
use Rattle.run_rules.specs.Listing.{IsListing, IsReadInTime}
use Rattle.run_rules.specs.Work.{Lister, Opener, Part, RunRecord, all_parts, list_row, opener_places, rows_up_to, streams_before, top_of}

-- the table's row was acquired, and its device was read to the end of a content that isn't refused
pub record IsTableRead (o : Opener) (c : RunRecord) (r : ℕ) (d : DeviceTold) : Type 0 where
  pub acquired : IsAcquired c.events r
  pub back : IsBack c d
  pub ended : d.ended ≡ true
  pub unfailed : d.read_faults ≡ 0
  pub whole : IfSome d.content (λ bytes. (d.at ≡ length bytes) × (o.fault_of bytes ≡ None))

-- the tables from r on were read
abbrev pub AreTablesRead : Opener → RunRecord → (ℕ → DeviceTold) → ℕ → List Place → Type 0
AreTablesRead o c w r [] = Unit {0}
AreTablesRead o c w r (p ∷ ps) = IsTableRead o c r (w r) × AreTablesRead o c w (r + 1) ps

-- nothing was tried on the tables from r on
abbrev pub AreUntried : (ℕ → DeviceTold) → ℕ → List Place → Type 0
AreUntried w r [] = Unit {0}
AreUntried w r (p ∷ ps) = (is_tried (w r) ≡ false) × AreUntried w (r + 1) ps

-- a fault of what a table holds
abbrev pub IsTableFault : Code → Type 0
IsTableFault code.NotUtf8 = Unit {0}
IsTableFault code.NoField = Unit {0}
IsTableFault code.Uneven = Unit {0}
IsTableFault code.TooLarge = Unit {0}
IsTableFault _ = ⊥

-- what the table holds is refused so, where it is told
abbrev pub IsRefusedBy : Opener → Option (List ℕ) → Code → Type 0
IsRefusedBy o None f = IsTableFault f
IsRefusedBy o (Some bytes) f = o.fault_of bytes ≡ Some f

-- the table's device could not be opened, or it was and its one read failed, or none did and what it holds is refused
abbrev pub IsTableFailed : Opener → RunRecord → DeviceTold → Code → Type 0
IsTableFailed o c d f =
    IsBack c d × (((d.opens ≡ 0) × (d.open_faults ≡ 1) × (f ≡ code.Open))
    ⊎ ((d.opens ≡ 1) × (((d.read_faults ≡ 1) × (f ≡ code.Read)) ⊎ ((d.read_faults ≡ 0) × IsRefusedBy o d.content f))))

-- one of the tables from r on failed so: those before it were read, and those behind it were left alone
abbrev pub AreTablesFailed : Opener → RunRecord → (ℕ → DeviceTold) → ℕ → List Place → Code → Type 0
AreTablesFailed o c w r [] f = ⊥
AreTablesFailed o c w r (p ∷ ps) f =
    (IsTableFailed o c (w r) f × AreUntried w (r + 1) ps) ⊎ (IsTableRead o c r (w r) × AreTablesFailed o c w (r + 1) ps f)

-- the tables from r on were read up to one of which nothing failed, and nothing was tried on those behind it
abbrev pub AreTablesLeft : Opener → RunRecord → (ℕ → DeviceTold) → ℕ → List Place → Type 0
AreTablesLeft o c w r [] = Unit {0}
AreTablesLeft o c w r (p ∷ ps) =
    (((w r).open_faults ≡ 0) × ((w r).read_faults ≡ 0) × AreUntried w (r + 1) ps) ⊎ (IsTableRead o c r (w r) × AreTablesLeft o c w (r + 1) ps)

-- the tables of these parts, from r on: of each part all were read, or nothing was tried on them nor on those behind them
abbrev pub ArePartsRead : Opener → RunRecord → (ℕ → DeviceTold) → ℕ → List Place → List Part → Type 0
ArePartsRead o c w r ts [] = Unit {0}
ArePartsRead o c w r ts (p ∷ ps) = AreUntried w r ts ⊎ (AreTablesRead o c w r (take p.tables ts) × ArePartsRead o c w (r + p.tables) (drop p.tables ts) ps)

-- the list's row was acquired, and its device was read to the end
pub record IsListRead (c : RunRecord) (r : ℕ) (d : DeviceTold) : Type 0 where
  pub acquired : IsAcquired c.events r
  pub back : IsBack c d
  pub ended : d.ended ≡ true
  pub unfailed : d.read_faults ≡ 0
  pub whole : IfSome d.content (λ bytes. d.at ≡ length bytes)

-- the reading of the list was left, also before it began, and nothing of it had failed
pub record IsListLeft (l : Lister) (A : Outcomes) (d : DeviceTold) : Type 0 where
  pub lines : IsListing l A Cut
  pub opening : d.open_faults ≡ 0
  pub reading : d.read_faults ≡ 0

-- the list with the lines of the last of n streams: each of these has a lease, and it was read in time
pub record IsListed (l : Lister) (n : ℕ) (L : List Event) (d : DeviceTold) : Type 0 where
  pub leased : AllByRecursion (λ k. IsLeased L k) (range_with_len (n - length l.lines) (length l.lines))
  pub in_time : IsReadInTime l d

-- a fault of the list is that of its device, which could not be opened, or of which a read failed; and where nothing of it failed it may be that of a line
abbrev pub IsListFault : DeviceTold → Code → Type 0
IsListFault d f = ((d.open_faults ≡ 1) × (f ≡ code.Open)) ⊎ ((d.open_faults ≡ 0) × ((f ≡ code.Read) ⊎ (d.read_faults ≡ 0)))

module _ (o : Opener) (A : DeviceTold → Outcomes) (n : ℕ) (c : RunRecord) (w : ℕ → DeviceTold) where
  -- how the list came out, where there is one, of which A says what it may give: it was read to its end, it failed so, or it was left
  abbrev pub ListIsDone : Type 0
  ListIsDone = IfSome o.list (λ l. IsListRead c (list_row o) (w (list_row o)) × IsListing l (A (w (list_row o))) Done)

  abbrev pub ListFails : Code → Type 0
  ListFails f = (l : Lister) × (o.list ≡ Some l) × IsBack c (w (list_row o)) × IsListing l (A (w (list_row o))) (Fault f) × IsListFault (w (list_row o)) f

  abbrev pub ListIsLeft : Type 0
  ListIsLeft = IfSome o.list (λ l. IsListLeft l (A (w (list_row o))) (w (list_row o)))

  -- the outer stream is done where all tables were read, the list too, and all was given; it fails by a table or by the list; where it was halted all tables of each part were read or none was tried; and where it found no memory those were read that come before the one that it was at
  abbrev pub IsOuterEnd : How → Type 0
  IsOuterEnd how.Done = AreTablesRead o c w 0 o.tables × GivesAll o n c.events × ListIsDone
  IsOuterEnd (how.Fault f) = (AreTablesFailed o c w 0 o.tables f × ListIsLeft) ⊎ (AreTablesRead o c w 0 o.tables × ListFails f)
  IsOuterEnd how.Halted = ArePartsRead o c w 0 o.tables (top_of o n ∷ o.groups) × ListIsLeft
  IsOuterEnd how.Memory = AreTablesLeft o c w 0 o.tables × ListIsLeft

  -- The outer stream gave its streams and ended so. It leases for a stream only once all tables up to those of its part were read, and tries a row only once the streams
  -- of the parts before were leased, and the list only once all tables were read. Where nothing may be printed it tries no row, and neither ends by itself nor fails.
  pub record OuterHasRun (h : How) : Type 0 where
    pub end : IsOuterEnd h
    pub gives : (j s : ℕ) → Notes c.events Outer (Lease j s) → AreTablesRead o c w 0 (take (rows_up_to 0 0 (all_parts o n) j) o.tables)
    pub turns : (r j : ℕ) → r < length (opener_places o) → is_tried (w r) ≡ true → j < streams_before 0 0 (all_parts o n) r → IsLeased c.events j
    pub behind : IfSome o.list (λ l. is_tried (w (list_row o)) ≡ true → AreTablesRead o c w 0 o.tables)
    pub listed : IfSome o.list (λ l. IsListed l n c.events (w (list_row o)))
    pub nobody : o.most ≡ Some 0 → AreUntried w 0 (opener_places o) × ¬ (IsOver h)

-- where there is an outer stream, the first end is its
abbrev pub HasOuterEnd : Option Opener → (DeviceTold → Outcomes) → ℕ → RunRecord → (ℕ → DeviceTold) → List EndOf → Type 0
HasOuterEnd None A n c w es = Unit {0}
HasOuterEnd (Some o) A n c w [] = ⊥
HasOuterEnd (Some o) A n c w (e ∷ es) = OuterHasRun o A n c w e.how
