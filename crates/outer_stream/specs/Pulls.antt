-- What a pull of the outer stream does.
use Rattle.std.specs.Prelude.{◌≡◌, ℕ, ◌+◌, ◌*◌, ◌-◌, ◌^◌, ◌<◌, ◌≤◌, Bool, true, false, List, [], ◌∷◌, ◌++◌, filter, length, Option, Some, None, Result, Ok, Err, OnOk}
use Rattle.std.specs.List.{slice_get}
use Rattle.chunk_core.specs.declared.code.How.{How}
use Rattle.chunk_core.specs.declared.code.How.TheVariants as how
use Rattle.chunk_core.specs.Lists.{IsAmong}
use Rattle.device_port.specs.Device.{DeviceTold}
use Rattle.device_port.specs.Depot.{DepotTold}
use Rattle.join_tree.specs.Given.{GivesMore, given}
use Rattle.join_tree.specs.Mains.{IsMain}
use Rattle.join_tree.specs.Notes.{is_table_note}
use Rattle.join_tree.specs.Progress.{Progress, leasing_next, reading}
use Rattle.join_tree.specs.Steps.{KeepsRows, TakesEvents}
use Rattle.outer_tables.specs.declared.not_read.NotRead.{NotRead}
use Rattle.outer_tables.specs.declared.not_read.NotRead.TheVariants as why
use Rattle.outer_tables.specs.Outcomes.{AreOf}
use Rattle.outer_tables.specs.Tables.{ReadsTables, TriesTables}
use Rattle.pipeline_desc.specs.declared.table.TableSpec.{TableSpec}
use Rattle.res_ledger.specs.Own.{leased_rows}
use Rattle.res_ledger.specs.declared.event.What.{What}
use Rattle.res_ledger.specs.declared.event.What.TheVariants.{Acquire, Lease as lease_note}
use Rattle.scope_tree.specs.declared.leases.Lease.{Lease}
use Rattle.scope_tree.specs.Calls.{IsOpenScope, Seen, TakesRoom, used}
use Rattle.scope_tree.specs.Trace.{owed, trace}
use Rattle.scope_tree.specs.Visible.{lessee, rows_covered}
use Rattle.outer_stream.specs.declared.next.Next.{Next}
use Rattle.outer_stream.specs.declared.next.Next.TheVariants as next
use Rattle.outer_stream.specs.declared.next.OuterPart.{OuterPart}
use Rattle.outer_stream.specs.declared.outer.Outer.{Outer}
use Rattle.outer_stream.specs.Parts.{FillsRoom, GaveLast, IsAmid, MayPull, beginning, closing, left_of, paths_of}
use Rattle.outer_stream.specs.Steps.{KeepsOthers, ends}

-- how the outer stream is over where its tables weren't read
abbrev pub how_unread : NotRead → How
how_unread (why.Fault f) = how.Fault f
how_unread why.Memory = how.Memory

-- the tables of the part p, which are the next ones, may be read in the scope of x
pub record MayRead {V : Type 0} (T : ℕ) (p : OuterPart) (x : Outer) (a : Seen V) : Type 0 where
  pub scope : IsOpenScope a x.scope
  pub from : p.tables.from ≡ x.table
  pub to : x.table ≤ p.tables.to
  pub within : p.tables.to ≤ T
  pub rows : (r : ℕ) → x.table ≤ r → r < T → IsAmong r a.seat.empty
  pub used : used a + (T - x.table) ≤ a.rows
  pub free : owed a.seat + 2 * (T - x.table) ≤ a.seat.spare

module _ {V : Type 0} (told : V → DeviceTold) (tables : List TableSpec) where
  -- the tables of this part were read in the scope of x, or one of them wasn't
  pub record ReadsPart (p : OuterPart) (x y : Outer) (old new : DepotTold) (a b : Seen V) (result : Result (Unit {0}) NotRead) : Type 0 where
    pub reads : ReadsTables told (ends told) x.scope p.tables.from (paths_of tables p) old new a b x.tables y.tables result
    pub now : OnOk result (y ≡ record x { part = x.part + 1; behind = p.behind; table = p.tables.to; tables = y.tables })
    pub leased : y.leased ≡ x.leased

module _ {V : Type 0} (told : V → DeviceTold) (parts : List OuterPart) (tables : List TableSpec) where
  -- The next part was begun, so far that its tables came out so: the child scope of the part before was closed, one for this part was opened, and its tables were tried there.
  pub record BeginsPart (x y : Outer) (old new : DepotTold) (a b : Seen V) (o : Option NotRead) : Type 0 where
    pub part : OuterPart
    pub is : slice_get parts x.part ≡ Some part
    pub ready : Seen V
    pub kept : KeepsRows a.seat ready.seat
    pub tries : TriesTables told (ends told) x.part part.tables.from (paths_of tables part) old new ready b o
    pub noted : GivesMore (closing x.scope ++ beginning x.part part (length tries.devices)) a b
    pub leased : y.leased ≡ x.leased
    pub now : o ≡ None → (y.part ≡ x.part + 1) × (y.scope ≡ x.part) × (y.table ≡ part.tables.to) × (y.behind ≡ part.behind)
    pub values : o ≡ None → (bss : List (List ℕ)) → AreOf x.tables bss → AreOf y.tables (bss ++ tries.contents)

  -- parts were begun, one after another
  pub data Went : (x y : Outer) (old new : DepotTold) (a b : Seen V) → Type 0 where
    nowhere : {x : Outer} {old : DepotTold} {a : Seen V} → Went x x old old a a
    on : {x y z : Outer} {old mid new : DepotTold} {a b c : Seen V} → Went x y old mid a b → BeginsPart y z mid new b c None → Went x z old new a c

  module _ (n width N : ℕ) where
    -- The main tree, with room for N streams, is as far as the outer stream, with n streams: its root is open, so many streams were given, and so much was noted of tables and child scopes. The seats that are out and the leases that wait are as many as the width at most.
    pub record IsOpenAt (q : Progress V) (x : Outer) (a : Seen V) : Type 0 where
      pub main : IsMain (ends told) width N a q
      pub root : q.root ≡ None
      pub leased : q.leased ≡ x.leased
      pub noted : q.tables ≡ filter is_table_note (given a.seat)
      pub narrow : length a.seat.out + length q.waits ≤ width
      pub few : n ≤ N
      pub small : n < 2 ^ 32
      pub amid : IsAmid parts (length tables) n x a
      pub may : MayPull parts (length tables) n x a

    -- parts were begun, by which the main tree is so much further
    pub record Goes (q : Progress V) (x y : Outer) (old new : DepotTold) (a b : Seen V) : Type 0 where
      pub went : Went x y old new a b
      pub noted : List What
      pub gives : GivesMore noted a b
      pub now : IsOpenAt (reading q noted) y b
      pub leased : y.leased ≡ x.leased
      pub keeps : KeepsOthers (length tables) a b
      pub rows : KeepsRows a.seat b.seat
      pub room : FillsRoom parts (length tables) n x y a b
      pub paid : a.seat.spare + owed b.seat + left_of parts (length tables) y ≤ b.seat.spare + owed a.seat + left_of parts (length tables) x

    -- the scope of x was leased for the next stream, on the rows that a lease of it covers, which are those of tables
    pub record Leases (q : Progress V) (x y : Outer) (a b : Seen V) (l : Lease) : Type 0 where
      pub less : x.leased < n
      pub lessee : lessee l ≡ x.leased
      pub rows : rows_covered l ≡ leased_rows (trace a.seat) x.scope
      pub lent : (r : ℕ) → IsAmong r (rows_covered l) → (s : ℕ) × IsAmong (Acquire r s) q.tables
      pub gives : GivesMore (lease_note x.leased x.scope ∷ []) a b
      pub main : IsMain (ends told) width N b (leasing_next q (rows_covered l))
      pub now : y ≡ record x { leased = x.leased + 1 }
      pub amid : IsAmid parts (length tables) n y b
      pub keeps : KeepsOthers 0 a b
      pub kept : KeepsRows a.seat b.seat
      pub room : TakesRoom 0 0 a b
      pub paid : TakesEvents 1 a b

    -- why the outer stream is over: behind the last stream of the last part, whose child scope was closed; by a table of the next part; or memory was wanting for the lease of the next stream, and nothing was done
    pub data IsOverBy (x y : Outer) (old new : DepotTold) (a b : Seen V) : How → Type 0 where
      done : x.part ≡ length parts → x.leased ≡ n → y ≡ record x { scope = 0 } → new ≡ old → GivesMore (closing x.scope) a b → IsOverBy x y old new a b how.Done
      unread : (w : NotRead) → BeginsPart x y old new a b (Some w) → IsOverBy x y old new a b (how_unread w)
      unleased : y ≡ x → new ≡ old → b ≡ a → IsOverBy x y old new a b how.Memory

    pub record Ends (q : Progress V) (x y : Outer) (old new : DepotTold) (a b : Seen V) (h : How) : Type 0 where
      pub cause : IsOverBy x y old new a b h
      pub noted : List What
      pub gives : GivesMore noted a b
      pub main : IsMain (ends told) width N b (reading q noted)
      pub gave : GaveLast parts n h (given b.seat)
      pub leased : y.leased ≡ x.leased
      pub keeps : KeepsOthers (length tables) a b
      pub rows : KeepsRows a.seat b.seat
      pub room : h ≡ how.Done → TakesRoom 0 0 a b
      pub paid : a.seat.spare + owed b.seat ≤ b.seat.spare + owed a.seat + left_of parts (length tables) x

    -- the next part was begun, or there is none, or a table of it wasn't read
    abbrev pub NextPart : (q : Progress V) (x y : Outer) (old new : DepotTold) (a b : Seen V) → Result Bool NotRead → Type 0
    NextPart q x y old new a b (Ok true) = (x.part < length parts) × (y.part ≡ x.part + 1) × Goes q x y old new a b
    NextPart q x y old new a b (Ok false) = Ends q x y old new a b how.Done
    NextPart q x y old new a b (Err w) = Ends q x y old new a b (how_unread w)

    abbrev pub Comes : (q : Progress V) (x y : Outer) (old new : DepotTold) (a b : Seen V) → Next → Type 0
    Comes q x y old new a b (next.Leased l) = (new ≡ old) × Leases q x y a b l
    Comes q x y old new a b (next.Over h) = Ends q x y old new a b h

    -- A pull: the parts that were begun, and then what comes.
    pub record Pulls (q : Progress V) (x y : Outer) (old new : DepotTold) (a b : Seen V) (n' : Next) : Type 0 where
      pub between : Outer
      pub depot : DepotTold
      pub mid : Seen V
      pub goes : Goes q x between old depot a mid
      pub comes : Comes (reading q goes.noted) between y depot new mid b n'
      pub keeps : KeepsOthers (length tables) a b
      pub rows : KeepsRows a.seat b.seat
