-- What a pull of an outer stream with a list does.
use Rattle.std.specs.Prelude.{◌≡◌, ◌⊎◌, ℕ, ◌+◌, ◌-◌, ◌<◌, ◌≤◌, List, [], ◌∷◌, ◌++◌, filter, length, Some, None, Result, Ok, Err}
use Rattle.chain_pipes.specs.Chains.{StandsFor}
use Rattle.chain_pipes.specs.declared.chain.Chain.{Chain}
use Rattle.chunk_core.specs.Lists.{IsAmong}
use Rattle.chunk_core.specs.Outcomes.{Cut}
use Rattle.chunk_core.specs.declared.code.How.{How}
use Rattle.chunk_core.specs.declared.code.How.TheVariants as how
use Rattle.device_port.specs.Depot.{DepotTold}
use Rattle.device_port.specs.Device.{DeviceTold}
use Rattle.join_tree.specs.Given.{GivesMore, given}
use Rattle.join_tree.specs.Mains.{IsMain}
use Rattle.join_tree.specs.Notes.{is_table_note}
use Rattle.join_tree.specs.Progress.{Progress, leasing_next, reading}
use Rattle.join_tree.specs.Steps.{KeepsRows, TakesEvents}
use Rattle.list_lines.specs.Lists.{GivesLine, IsUnread, end_of}
use Rattle.list_lines.specs.declared.lines.ListLines.{ListLines}
use Rattle.list_rows.specs.Reading.{KeepsRowsBut}
use Rattle.list_runs.specs.Meant.{list_meaning}
use Rattle.outer_stream.specs.Parts.{Gave}
use Rattle.outer_stream.specs.Pulls.{Ends, Goes, Leases, how_unread}
use Rattle.outer_stream.specs.Steps.{KeepsOthers, ends}
use Rattle.outer_stream.specs.declared.next.OuterPart.{OuterPart}
use Rattle.outer_stream.specs.declared.outer.Outer.{Outer}
use Rattle.outer_tables.specs.Devices.{OpensDevice}
use Rattle.outer_tables.specs.declared.not_read.NotRead.{NotRead}
use Rattle.pipeline_desc.specs.Meant.{PlanMeant, stream_limit}
use Rattle.pipeline_desc.specs.Places.{outer_rows}
use Rattle.pipeline_desc.specs.declared.listing.ListSpec.{ListSpec}
use Rattle.res_ledger.specs.Own.{leased_rows, opens}
use Rattle.res_ledger.specs.declared.event.What.{What}
use Rattle.res_ledger.specs.declared.event.What.TheVariants.{Acquire, Lease as lease_note, Open}
use Rattle.scope_tree.specs.declared.leases.Lease.{Lease}
use Rattle.scope_tree.specs.Calls.{Seen, used}
use Rattle.scope_tree.specs.Trace.{owed, trace}
use Rattle.scope_tree.specs.Visible.{lessee, rows_covered}
use Rattle.outer_source.specs.Lists.{HasListed, IsAmidList, IsInList, list_closing, list_notes}
use Rattle.outer_source.specs.Standing.{IsAmidParts}
use Rattle.outer_source.specs.declared.next.Next.{Next}
use Rattle.outer_source.specs.declared.next.Next.TheVariants as next
use Rattle.outer_source.specs.declared.source.OuterSource.{OuterSource}

module _ {V : Type 0} (told : V → DeviceTold) (p : PlanMeant) (parts : List OuterPart) (width : ℕ) where
  abbrev T : ℕ
  T = length p.tables

  abbrev n : ℕ
  n = length p.streams

  abbrev k : ℕ
  k = length parts

  abbrev most : ℕ
  most = stream_limit p

  -- The parts were given, and there is room to open a list behind them.
  pub record MayOpenList (q : Progress V) (x : Outer) (a : Seen V) : Type 0 where
    pub some_parts : 1 ≤ k
    pub main : IsMain (ends told) width most a q
    pub root : q.root ≡ None
    pub noted : q.tables ≡ filter is_table_note (given a.seat)
    pub parts_given : Gave parts k 0 T n n (given a.seat)
    pub part : x.part ≡ k
    pub table : x.table ≡ T
    pub leased : q.leased ≡ x.leased
    pub whole : x.leased ≡ n
    pub narrow : length a.seat.out + length q.waits ≤ width
    pub row : IsAmong T a.seat.empty
    pub used : used a + 1 ≤ a.rows
    pub scopes : length (opens (trace a.seat)) + 2 ≤ a.scopes
    pub free : owed a.seat + 4 + (most - x.leased) + 1 ≤ a.seat.spare

  -- A child scope was opened for the list l, whose device was made, opened and acquired there.
  pub record OpensList (l : ListSpec) (first : V) (q : Progress V) (x z : Outer) (old new : DepotTold) (a b : Seen V) : Type 0 where
    pub opens : OpensDevice told l.path old new (Ok first)
    pub gives : GivesMore (Open k 0 ∷ (Acquire T k ∷ [])) a b
    pub main : IsMain (ends told) width most b (reading q (Open k 0 ∷ (Acquire T k ∷ [])))
    pub amid : IsAmidList told p parts l first [] Cut z b
    pub unread : IsUnread (told amid.now)
    pub now : z ≡ record x { scope = k }
    pub keeps : KeepsOthers (T + 1) a b
    pub rows : KeepsRows a.seat b.seat
    pub paid : TakesEvents 4 a b

  -- or its device wasn't opened
  pub record FailsList (l : ListSpec) (why : NotRead) (q : Progress V) (x z : Outer) (old new : DepotTold) (a b : Seen V) : Type 0 where
    pub opens : OpensDevice told l.path old new (Err why)
    pub gives : GivesMore (Open k 0 ∷ []) a b
    pub main : IsMain (ends told) width most b (reading q (Open k 0 ∷ []))
    pub now : z ≡ record x { scope = k }
    pub keeps : KeepsOthers 0 a b
    pub rows : KeepsRows a.seat b.seat
    pub paid : TakesEvents 2 a b

  -- the list was opened, or it wasn't
  abbrev pub TriesList : (l : ListSpec) (q : Progress V) (x z : Outer) (old new : DepotTold) (a b : Seen V) → Result (Unit {0}) NotRead → Type 0
  TriesList l q x z old new a b (Ok u) = (first : V) × OpensList l first q x z old new a b
  TriesList l q x z old new a b (Err why) = FailsList l why q x z old new a b

  module _ (l : ListSpec) (first : V) (lines : List (List ℕ)) where
    -- The main tree is as far as the outer stream, which is in the list.
    pub record IsListAt (q : Progress V) (x : Outer) (a : Seen V) : Type 0 where
      pub list_is : p.list ≡ Some l
      pub main : IsMain (ends told) width most a q
      pub root : q.root ≡ None
      pub leased : q.leased ≡ x.leased
      pub noted : q.tables ≡ filter is_table_note (given a.seat)
      pub narrow : length a.seat.out + length q.waits ≤ width
      pub free : x.leased < most → owed a.seat + (most - x.leased) + 1 ≤ a.seat.spare

    -- It may read the next line.
    pub record MayRead (q : Progress V) (x : OuterSource) (a : Seen V) : Type 0 where
      pub stands : IsListAt q x.outer a
      pub list : IsInList told p parts l first lines x a

    -- It has read the next line, which isn't given a stream yet.
    pub record HasLine (q : Progress V) (x : OuterSource) (line : List ℕ) (a : Seen V) : Type 0 where
      pub stands : IsListAt q x.outer a
      pub amid : IsAmidList told p parts l first lines Cut x.outer a
      pub reader : ListLines Chain
      pub is : x.list ≡ Some reader
      pub at : GivesLine StandsFor list_meaning (told amid.now) lines reader line

    -- The list is over so, and its scope is open still.
    pub record HasEnded (q : Progress V) (x : Outer) (a : Seen V) (h : How) : Type 0 where
      pub stands : IsListAt q x a
      pub amid : IsAmidList told p parts l first lines (end_of h) x a
      pub unhalted : h ≡ how.Halted → ⊥

    -- the next line was read, and the list's scope was leased for its stream, on the rows that a lease of it covers, which are those of tables and the list's
    pub record GivesListed (q : Progress V) (x : Outer) (y : OuterSource) (a b : Seen V) (lease : Lease) (line : List ℕ) : Type 0 where
      pub less : x.leased < most
      pub lessee_is : lessee lease ≡ x.leased
      pub rows_are : rows_covered lease ≡ leased_rows (trace a.seat) k
      pub lent : (r : ℕ) → IsAmong r (rows_covered lease) → (s : ℕ) × IsAmong (Acquire r s) q.tables
      pub low : (r : ℕ) → IsAmong r (rows_covered lease) → r < outer_rows p
      pub gives : GivesMore (lease_note x.leased k ∷ []) a b
      pub main : IsMain (ends told) width most b (leasing_next q (rows_covered lease))
      pub now : y.outer ≡ record x { leased = x.leased + 1 }
      pub amid : IsInList told p parts l first (lines ++ line ∷ []) y b
      pub keeps : KeepsOthers 0 a b
      pub kept : KeepsRowsBut T a.seat b.seat
      pub paid : TakesEvents 1 a b

    -- The list is over so: where it is done its scope was closed; else it has a fault, or memory was wanting. Its device is in its row, or was left there.
    pub record EndsList (q : Progress V) (x : Outer) (y : OuterSource) (a b : Seen V) (h : How) : Type 0 where
      pub now : V
      pub held : IsAmong (T, now) b.seat.opened ⊎ IsAmong (T, now) b.seat.left
      pub has : HasListed told p l first now lines (end_of h)
      pub over : (h ≡ how.Halted) → ⊥
      pub gives : GivesMore (list_closing k h) a b
      pub main : IsMain (ends told) width most b (reading q (list_closing k h))
      pub before : List What
      pub parts_given : Gave parts k 0 T n n before
      pub gave : given b.seat ≡ (before ++ list_notes k T n (length lines)) ++ list_closing k h
      pub leased : y.outer.leased ≡ x.leased
      pub tables : y.outer.tables ≡ x.tables
      pub keeps : KeepsOthers 0 a b
      pub kept : KeepsRowsBut T a.seat b.seat
      pub paid : TakesEvents 0 a b

    -- what comes of the list, of which these lines were given streams then
    abbrev pub ComesOfList : (q : Progress V) (x : Outer) (y : OuterSource) (a b : Seen V) → Next → List (List ℕ) → Type 0
    ComesOfList q x y a b (next.Leased lease) more = ⊥
    ComesOfList q x y a b (next.Listed lease line) more = (more ≡ lines ++ line ∷ []) × GivesListed q x y a b lease line
    ComesOfList q x y a b (next.Over h) more = (more ≡ lines) × EndsList q x y a b h

  -- The list l was tried, and this came of it: its device wasn't opened, or it was, and a line or an end came. So the list was opened then, and these lines were given streams.
  pub data BeginsList (l : ListSpec) (q : Progress V) (x : Outer) (y : OuterSource) (old new : DepotTold) (a b : Seen V) : Next → (opened : List (Result V NotRead)) (more : List (List ℕ)) → Type 0 where
    unopened : (why : NotRead) → FailsList l why q x y.outer old new a b → BeginsList l q x y old new a b (next.Over (how_unread why)) (Err why ∷ []) []
    begun : {z : Outer} {c : Seen V} {result : Next} {more : List (List ℕ)} (first : V) → OpensList l first q x z old new a c → ComesOfList l first [] (reading q (Open k 0 ∷ (Acquire T k ∷ []))) z y c b result more → BeginsList l q x y old new a b result (Ok first ∷ []) more

  -- What a pull does that gives this: before it the list was opened so, if it was, and these lines were given streams, and behind it these.
  pub data Draws (q : Progress V) (x y : OuterSource) (old new : DepotTold) (a b : Seen V) : (openings : List (Result V NotRead)) (lines : List (List ℕ)) → Next → (opened : List (Result V NotRead)) (more : List (List ℕ)) → Type 0 where
    -- parts were begun, and the scope of the last was leased for the next described stream
    leased : {between : Outer} {mid : Seen V} {lease : Lease} (g : Goes told parts p.tables n width most q x.outer between old new a mid) → Leases told parts p.tables n width most (reading q g.noted) between y.outer mid b lease → IsAmidParts told p parts y b → Draws q x y old new a b [] [] (next.Leased lease) [] []
    -- parts were begun, and the outer stream was over by its parts; by their end only where there is no list
    over : {between : Outer} {depot : DepotTold} {mid : Seen V} {h : How} (g : Goes told parts p.tables n width most q x.outer between old depot a mid) → Ends told parts p.tables n width most (reading q g.noted) between y.outer depot new mid b h → (h ≡ how.Done → p.list ≡ None) → Draws q x y old new a b [] [] (next.Over h) [] []
    -- the parts were given, and behind them the list was tried
    behind : {between last : Outer} {depot made : DepotTold} {mid c : Seen V} {result : Next} {opened : List (Result V NotRead)} {more : List (List ℕ)} (l : ListSpec) → p.list ≡ Some l → (g : Goes told parts p.tables n width most q x.outer between old depot a mid) → (e : Ends told parts p.tables n width most (reading q g.noted) between last depot made mid c how.Done)
        → BeginsList l (reading (reading q g.noted) e.noted) last y made new c b result opened more → Draws q x y old new a b [] [] result opened more
    -- the list was in use, and this is what came of it
    listed : {lines more : List (List ℕ)} {result : Next} (l : ListSpec) (first : V) → p.list ≡ Some l → new ≡ old → ComesOfList l first lines q x.outer y a b result more → Draws q x y old new a b (Ok first ∷ []) lines result (Ok first ∷ []) more

  -- A pull, before which the list was opened so, if it was, and these lines were given streams.
  pub record PullsAll (openings : List (Result V NotRead)) (lines : List (List ℕ)) (q : Progress V) (x y : OuterSource) (old new : DepotTold) (a b : Seen V) (result : Next) : Type 0 where
    pub opened : List (Result V NotRead)
    pub more : List (List ℕ)
    pub draws : Draws q x y old new a b openings lines result opened more
    pub keeps : KeepsOthers (outer_rows p) a b
    pub rows : KeepsRowsBut T a.seat b.seat
