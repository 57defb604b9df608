-- The parts of an outer stream, what it gave of them so far, and the room that it has for the others.
use Rattle.std.specs.Prelude.{◌≡◌, ℕ, zero, suc, ◌+◌, ◌*◌, ◌-◌, ◌<◌, ◌≤◌, List, [], ◌∷◌, ◌++◌, length, map, take, drop, Some}
use Rattle.std.specs.List.{slice_get}
use Rattle.chunk_core.specs.declared.code.Exit.TheVariants.{Succeeded}
use Rattle.chunk_core.specs.declared.code.How.{How}
use Rattle.chunk_core.specs.declared.code.How.TheVariants as how
use Rattle.chunk_core.specs.Lists.{IsAmong}
use Rattle.join_tree.specs.Given.{given}
use Rattle.outer_tables.specs.Rows.{acquires}
use Rattle.pipeline_desc.specs.declared.table.TableSpec.{TableSpec}
use Rattle.res_ledger.specs.declared.event.What.{What}
use Rattle.res_ledger.specs.declared.event.What.TheVariants.{Close, Lease, Open}
use Rattle.res_ledger.specs.Own.{opens}
use Rattle.scope_tree.specs.Calls.{IsOpenScope, Seen, used}
use Rattle.scope_tree.specs.Trace.{owed, trace}
use Rattle.outer_stream.specs.declared.next.OuterPart.{OuterPart}
use Rattle.outer_stream.specs.declared.outer.Outer.{Outer}

-- the parts have the tables from t on and the streams from s on, up to the T tables and n streams that there are
abbrev pub FollowParts : ℕ → ℕ → List OuterPart → ℕ → ℕ → Type 0
FollowParts t s [] T n = (t ≡ T) × (s ≡ n)
FollowParts t s (p ∷ ps) T n = (p.tables.from ≡ t) × (t ≤ p.tables.to) × (s ≤ p.behind) × FollowParts p.tables.to p.behind ps T n

-- how many tables a part has, and their paths
abbrev pub table_count : OuterPart → ℕ
table_count p = p.tables.to - p.tables.from

abbrev pub paths_of : List TableSpec → OuterPart → List (List ℕ)
paths_of tables p = map (λ t. t.path) (take (table_count p) (drop p.tables.from tables))

-- the scope of a part is opened before it, where that isn't the root, and closed behind it
abbrev pub opening : ℕ → List What
opening zero = []
opening (suc s) = Open (suc s) 0 ∷ []

abbrev pub closing : ℕ → List What
closing zero = []
closing (suc s) = Close (suc s) Succeeded ∷ []

-- what is noted as the part with this number is begun, of whose tables so many are acquired
abbrev pub beginning : ℕ → OuterPart → ℕ → List What
beginning k p m = opening k ++ acquires k p.tables.from m

-- What was noted where so many parts were begun, the last in the scope s, up to the table t and the stream `behind`, and of these streams those below `leased` were leased for.
pub data Gave (parts : List OuterPart) : (part s t behind leased : ℕ) → List What → Type 0 where
  -- no part was begun
  nothing : Gave parts 0 0 0 0 0 []
  -- the next part was begun, whose scope has its number
  begun : {k t j : ℕ} {E : List What} (p : OuterPart) → slice_get parts k ≡ Some p → p.tables.from ≡ t → t ≤ p.tables.to → j ≤ p.behind → Gave parts k 0 t j j E → Gave parts (suc k) k p.tables.to p.behind j (E ++ beginning k p (table_count p))
  -- the scope was leased for the next stream
  leased : {k s t behind j : ℕ} {E : List What} → j < behind → Gave parts k s t behind j E → Gave parts k s t behind (suc j) (E ++ Lease j s ∷ [])
  -- the part was left behind its last stream
  left : {k s t j : ℕ} {E : List What} → Gave parts k s t j j E → Gave parts k 0 t j j (E ++ closing s)

-- what was noted where the outer stream is over
pub data GaveLast (parts : List OuterPart) (n : ℕ) : How → List What → Type 0 where
  -- all of all parts
  all : {t : ℕ} {E : List What} → Gave parts (length parts) 0 t n n E → GaveLast parts n how.Done E
  -- or so far
  amid : {h : How} {k s t behind j : ℕ} {E : List What} → Gave parts k s t behind j E → GaveLast parts n h E
  -- or within the tables of a part, of which so many were acquired
  within : {h : How} {k t j : ℕ} {E : List What} (p : OuterPart) (m : ℕ) → slice_get parts k ≡ Some p → p.tables.from ≡ t → m ≤ table_count p → Gave parts k 0 t j j E → GaveLast parts n h (E ++ beginning k p m)

-- how many parts have a child scope that wasn't opened yet, where so many were begun
abbrev pub children_left : List OuterPart → ℕ → ℕ
children_left parts zero = length parts - 1
children_left parts (suc k) = length parts - suc k

-- the events that the outer stream may note still beside its leases and what it owes: two of each table and of each child scope
abbrev pub left_of : List OuterPart → ℕ → Outer → ℕ
left_of parts T x = 2 * (T - x.table) + 2 * children_left parts x.part

module _ {V : Type 0} (parts : List OuterPart) (T n : ℕ) where
  -- The outer stream is amid its parts, with n streams and T tables in all: the scope of the part that was begun last is open, and there are rows and scopes for the others.
  pub record IsAmid (x : Outer) (b : Seen V) : Type 0 where
    pub gave : Gave parts x.part x.scope x.table x.behind x.leased (given b.seat)
    pub follow : FollowParts x.table x.behind (drop x.part parts) T n
    pub scope : IsOpenScope b x.scope
    pub rows : (r : ℕ) → x.table ≤ r → r < T → IsAmong r b.seat.empty
    pub used : used b + (T - x.table) ≤ b.rows
    pub scopes : length (opens (trace b.seat)) + 1 + children_left parts x.part ≤ b.scopes

  -- there is room for the events that it may note still
  pub record MayPull (x : Outer) (b : Seen V) : Type 0 where
    pub free : owed b.seat + left_of parts T x ≤ b.seat.spare
    pub leases : x.leased < n → owed b.seat + left_of parts T x + (n - x.leased) + 1 ≤ b.seat.spare

  -- of the room that the tables and child scopes needed which were left before, no more was taken than is needed no longer
  pub record FillsRoom (x y : Outer) (a b : Seen V) : Type 0 where
    pub used : used b + (T - y.table) ≤ used a + (T - x.table)
    pub opens : length (opens (trace b.seat)) + children_left parts y.part ≤ length (opens (trace a.seat)) + children_left parts x.part
    pub rows : b.rows ≡ a.rows
    pub scopes : b.scopes ≡ a.scopes
