-- How the outer stream of a plan stands by the moves that were made.
use Rattle.std.specs.Prelude.{◌≡◌, ◌⊎◌, ℕ, zero, suc, ◌+◌, ◌-◌, ◌^◌, ◌<◌, ◌≤◌, Bool, true, List, [], ◌∷◌, ◌++◌, drop, length, map, take, Option, Some, None, IfSome, IsSome, Result, Ok, Err, slice_get}
use Rattle.std.specs.List.{AllByRecursion}
use Rattle.chunk_core.specs.Lists.{IsAmong}
use Rattle.chunk_core.specs.Outcomes.{End, Cut, Done, Fault}
use Rattle.chunk_core.specs.declared.code.Code.{Code}
use Rattle.chunk_core.specs.declared.code.Code.TheVariants as code
use Rattle.chunk_core.specs.declared.code.Span.{Span}
use Rattle.chunk_core.specs.declared.code.How.{How}
use Rattle.chunk_core.specs.declared.code.How.TheVariants as how
use Rattle.csv_pipes.specs.Dictionaries.{Dictionary}
use Rattle.device_port.specs.Device.{DeviceTold}
use Rattle.join_tree.specs.Given.{given}
use Rattle.outer_stream.specs.declared.next.OuterPart.{OuterPart}
use Rattle.outer_tables.specs.Outcomes.{AreOf}
use Rattle.outer_tables.specs.Whole.{WasRead}
use Rattle.outer_tables.specs.declared.not_read.NotRead.{NotRead}
use Rattle.outer_tables.specs.declared.not_read.NotRead.TheVariants as why
use Rattle.pipeline_desc.specs.Meant.{PlanMeant, top_streams, top_tables}
use Rattle.pipeline_desc.specs.declared.group.GroupSpec.{GroupSpec}
use Rattle.pipeline_desc.specs.declared.listing.ListSpec.{ListSpec}
use Rattle.pipeline_desc.specs.declared.table.TableSpec.{TableSpec}
use Rattle.plan_work.specs.Listed.{lister_of}
use Rattle.plan_work.specs.Plans.{opener_of, run_work}
use Rattle.res_ledger.specs.Ledger.{Notes}
use Rattle.res_ledger.specs.declared.event.StreamNo.TheVariants.{Outer as outer_name}
use Rattle.res_ledger.specs.declared.event.What.{What}
use Rattle.res_ledger.specs.declared.event.What.TheVariants.{Acquire}
use Rattle.run_rules.specs.Facts.{at}
use Rattle.run_rules.specs.Giving.{giving_all}
use Rattle.run_rules.specs.Listing.{IsListing, IsReadInTime}
use Rattle.scope_tree.specs.Calls.{Seen}
use Rattle.dealt_streams.specs.Moves.{Move, Tried, contents_in, lines_of, opened_of, tried_of}

-- the parts of a plan's outer stream: what stands at the top, and then each group
abbrev pub top_part : PlanMeant → OuterPart
top_part p = record { tables = record { from = 0; to = top_tables (length p.tables) p.groups }; behind = top_streams (length p.streams) p.groups }

abbrev pub group_part : GroupSpec → OuterPart
group_part g = record { tables = g.tables; behind = g.streams.to }

abbrev pub plan_parts : PlanMeant → List OuterPart
plan_parts p = top_part p ∷ map group_part p.groups

-- how many streams there are before those of part i
abbrev pub streams_before : List OuterPart → ℕ → ℕ
streams_before parts zero = 0
streams_before parts (suc i) = elim (slice_get parts i) [ Some part ↦ part.behind | None ↦ 0 ]

-- the paths of the tables of a span
abbrev pub paths_within : List TableSpec → Span → List (List ℕ)
paths_within tables span = map (λ t. t.path) (take (span.to - span.from) (drop span.from tables))

module _ {V : Type 0} where
  -- the tables that were tried are those of the part
  pub record IsOfPart (tables : List TableSpec) (part : OuterPart) (x : Tried V) : Type 0 where
    pub row : x.row ≡ part.tables.from
    pub paths : x.paths ≡ paths_within tables part.tables

  -- the tables of the first of these parts were tried, of one part after the other, and all of them were read; or those of the last weren't, and it is told why
  pub data ArePartsTried (tables : List TableSpec) : List OuterPart → List (Tried V) → Option NotRead → Type 0 where
    none : {parts : List OuterPart} → ArePartsTried tables parts [] None
    read : {parts : List OuterPart} {xs : List (Tried V)} {o : Option NotRead} (part : OuterPart) (x : Tried V) → IsOfPart tables part x → x.lack ≡ None → ArePartsTried tables parts xs o → ArePartsTried tables (part ∷ parts) (x ∷ xs) o
    unread : {parts : List OuterPart} (part : OuterPart) (x : Tried V) (w : NotRead) → IsOfPart tables part x → x.lack ≡ Some w → ArePartsTried tables (part ∷ parts) (x ∷ []) (Some w)

  -- the main tree noted the Acquire of each of these tables that was opened, whose device is in its row, open or left
  pub record HasRows (b : Seen V) (x : Tried V) : Type 0 where
    pub noted : (i : ℕ) → i < length x.devices → (s : ℕ) × Notes b.seat.events outer_name (Acquire (x.row + i) s)
    pub pays : (i : ℕ) (d : V) → at x.devices i ≡ Some d → IsAmong (x.row + i, d) b.seat.opened ⊎ IsAmong (x.row + i, d) b.seat.left

  -- row r is that of one of these tables, which was opened
  abbrev pub IsTableRow : List (Tried V) → ℕ → Type 0
  IsTableRow xs r = (x : Tried V) × IsAmong x xs × ((i : ℕ) × (i < length x.devices) × (r ≡ x.row + i))

  -- it is the row of the list behind so many tables, whose device was opened
  abbrev pub IsListRow : ℕ → List (Result V NotRead) → ℕ → Type 0
  IsListRow tables openings r = (r ≡ tables) × ((d : V) × IsAmong (Ok d) openings)

-- why the outer stream ended so that couldn't read all tables of a part
abbrev pub IsStoppedBy : NotRead → Bool → How → Type 0
IsStoppedBy (why.Fault f) memory h = h ≡ how.Fault f
IsStoppedBy why.Memory memory h = (h ≡ how.Memory) × (memory ≡ true)

module _ (p : PlanMeant) where
  -- all that the outer stream of the plan notes as it gives streams, where these lines of the list are given some
  abbrev pub all_given : List (List ℕ) → List What
  all_given lines = giving_all (opener_of p lines) (length p.streams + length lines)

  -- how the outer stream may have ended whose tables were read as far as they were tried: it is done where it gave all there was to give, these being the lines of its list, and it fails by its list alone
  abbrev pub EndsRead : List (List ℕ) → List What → How → Type 0
  EndsRead lines noted how.Done = noted ≡ all_given lines
  EndsRead lines noted how.Halted = Unit {0}
  EndsRead lines noted (how.Fault f) = IsSome p.list
  EndsRead lines noted how.Memory = Unit {0}

  -- The list as it stands, of which these lines were given streams, which end so: nothing was done with it, its device couldn't be opened, or memory was wanting for that; or its device is in its row, open or
  -- left, and these lines are those that it gives as far as it was read, which wasn't too far, and the main tree noted that it was opened.
  pub data StandsList {V : Type 0} (told : V → DeviceTold) (l : ListSpec) (openings : List (Result V NotRead)) (lines : List (List ℕ)) (e : End) (b : Seen V) : Type 0 where
    unopened : openings ≡ [] → lines ≡ [] → e ≡ Cut → StandsList told l openings lines e b
    failed : (f : Code) → openings ≡ Err (why.Fault f) ∷ [] → lines ≡ [] → e ≡ Fault f → StandsList told l openings lines e b
    lacking : openings ≡ Err why.Memory ∷ [] → lines ≡ [] → e ≡ Cut → StandsList told l openings lines e b
    held : (first now : V) (faults : ℕ) → openings ≡ Ok first ∷ [] → IsAmong (length p.tables, now) b.seat.opened ⊎ IsAmong (length p.tables, now) b.seat.left → WasRead faults (told first) (told now) → (faults ≡ 0) ⊎ (e ≡ Fault code.Read)
        → IsListing (lister_of p lines l) ((run_work p lines).listing (told now)) e → IsReadInTime (lister_of p lines l) (told now) → (s : ℕ) × Notes b.seat.events outer_name (Acquire (length p.tables) s) → (told now).at ≤ 2 ^ 40 → StandsList told l openings lines e b

  -- how the lines that were given streams end: they are cut, or end as the outer stream did that could read all tables it tried
  abbrev pub list_end : Option NotRead → Option How → End
  list_end None (Some how.Done) = Done
  list_end None (Some (how.Fault f)) = Fault f
  list_end lack over = Cut

  -- The outer stream that tried these tables and the list so, and gave streams to these lines, which has begun so many parts and leased for so many streams, has dictionaries of the tables that it has read, and has ended
  -- so, if it has. The tables of its first parts were tried, those of each once all streams of the parts before were given, and streams are given of the parts that were begun alone; the list is tried once all tables were read and all described streams given. It noted a front of all that there is
  -- to note. Where it couldn't read all tables of a part it has ended by that. Where no frame is wanted nothing was tried, and it is halted.
  pub record StandsBy {V : Type 0} (told : V → DeviceTold) (tables : List (Tried V)) (openings : List (Result V NotRead)) (lines : List (List ℕ)) (begun leased : ℕ) (dicts : List Dictionary) (over : Option How) (memory : Bool) (b : Seen V) : Type 0 where
    pub lack : Option NotRead
    pub tried : ArePartsTried p.tables (plan_parts p) tables lack
    pub rows : AllByRecursion (HasRows b) tables
    pub read : lack ≡ None → (length tables ≡ begun) × AreOf dicts (contents_in tables)
    pub unread : (w : NotRead) → lack ≡ Some w → (length tables ≡ suc begun) × ((h : How) × (over ≡ Some h) × IsStoppedBy w memory h)
    pub turns : (i : ℕ) → i < length tables → streams_before (plan_parts p) i ≤ leased
    pub ahead : (i : ℕ) → begun ≤ i → i < length (plan_parts p) → leased ≤ streams_before (plan_parts p) i
    pub behind : (o : Result V NotRead) → IsAmong o openings → (lack ≡ None) × (length tables ≡ length (plan_parts p)) × (length p.streams ≤ leased)
    pub lines_are : length lines ≡ leased - length p.streams
    pub noted : (rest : List What) × (given b.seat ++ rest ≡ all_given lines)
    pub acquired : (r s : ℕ) → IsAmong (Acquire r s) (given b.seat) → IsTableRow tables r ⊎ IsListRow (length p.tables) openings r
    pub list : IfSome p.list (λ l. StandsList told l openings lines (list_end lack over) b)
    pub ended : lack ≡ None → IfSome over (EndsRead lines (given b.seat))
    pub nobody : p.take ≡ Some 0 → (tables ≡ []) × (openings ≡ []) × (over ≡ Some how.Halted)

  -- so it stands by these moves
  abbrev pub StandsOuter : {V F : Type 0} → (V → DeviceTold) → List (Move V F) → ℕ → ℕ → List Dictionary → Option How → Bool → Seen V → Type 0
  StandsOuter told moves begun leased dicts over memory b = StandsBy told (tried_of moves) (opened_of moves) (lines_of moves) begun leased dicts over memory b
