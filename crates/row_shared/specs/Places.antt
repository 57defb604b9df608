-- The shared table as plain data, and its rule.
use Rattle.std.specs.Prelude.{◌≡◌, ◌≢◌, ℕ, ◌+◌, ◌-◌, ◌^◌, ◌<◌, ◌⊎◌, false, map, List, [], ◌∷◌, length, slice_index, None, Option}
use lib.ListN.{get_elem?}
use mathlib.Core.Option.{some, none}
use Rattle.atomic_table.specs.Table.{State, Me}
use Rattle.atomic_table.specs.Seated.{TableId}
use Rattle.chunk_core.specs.Lists.{IsAmong}
use Rattle.res_ledger.specs.Ledger.{IsAcquired}
use Rattle.res_ledger.specs.declared.event.Event.{Event}
use Rattle.res_ledger.specs.declared.event.StreamNo.{StreamNo}
use Rattle.res_ledger.specs.declared.event.StreamNo.TheVariants.{Inner, Outer}
use Rattle.row_seat.specs.Fronts.{IsSight}
use Rattle.row_seat.specs.declared.front.Sight.{Sight}
use Rattle.row_seat.specs.declared.token.Token.{Token}
use Rattle.row_seat.specs.Rule.{KnowsRows, RuleHolds}
use Rattle.row_seat.specs.Steps.{first_token, joined}
use Rattle.row_seat.specs.Totals.{IsAt}
use Rattle.row_shared.specs.declared.table.Place.{Place}
use Rattle.row_shared.specs.declared.table.Start.{Start}

-- a pass and a table are of one maker, who was told k
abbrev pub IsOfTable : TableId → TableId → Start → Type 0
IsOfTable a b k = (a ≡ b) × (b.words ≡ k.rows + 1) × (b.slots ≡ k.rows)

-- a seat as a step finds it: what it knows, and the slots that it holds with what is in them
abbrev pub Seated : Type 0 → Type 0
Seated P = Me (Option P) (Place P)

-- the word of a row; word 0 is the next stamp
abbrev pub row_word : List ℕ → ℕ → ℕ
row_word words r = slice_index words (r + 1)

module _ {P : Type 0} where
  abbrev pub token_of : Place P → Token P
  token_of v = v.token

  -- a seat that holds no slot and saw this of the ledger
  abbrev pub seeing : Token P → List Sight → Place P
  seeing t xs = record { token = t; lifted = []; sights = xs }

  -- between two calls a seat holds no slot, and what it saw is kept by marks
  abbrev pub at_rest : Token P → Place P
  at_rest t = seeing t []

  -- a seat between two calls, as a step finds it
  abbrev pub idle : Token P → Seated P
  idle t = (at_rest t, [])

  -- a seat that holds the slot of the row r, with x in it
  abbrev pub holding : Token P → ℕ → Option P → Seated P
  holding t r x = (record { token = t; lifted = r ∷ []; sights = [] }, (r, x) ∷ [])

  -- what a mark knows beside what was seen
  abbrev pub nobody : Token P
  nobody = record { live = false; main = false; by = Outer; empty = []; opened = []; pairs = []; kept = []; handed = []; taken = []; given = []; left = []; events = []; floor = 0; spare = 0; had = []; out = []; splits = 0 }

  -- a mark that keeps this, as a step finds it
  abbrev pub marking : Sight → Seated P
  marking x = (seeing nobody (x ∷ []), [])

  -- what is left of a seat with the name k that was taken in
  abbrev pub gone_by : StreamNo → Place P
  gone_by k = at_rest (record { live = false; main = false; by = k; empty = []; opened = []; pairs = []; kept = []; handed = []; taken = []; given = []; left = []; events = []; floor = 0; spare = 0; had = []; out = []; splits = 0 })

  -- what the first seat knows: of all seats but itself each may be split off
  abbrev pub first_place : Start → Place P
  first_place k = at_rest (first_token k.by k.rows k.events (k.seats - 1))

  -- the payload in a slot that is at home
  abbrev pub at_home : mathlib.Core.Option.Option (mathlib.Core.Option.Option (Option P)) → Option P
  at_home none = None
  at_home (some none) = None
  at_home (some (some x)) = x

  abbrev pub row_slot : List (mathlib.Core.Option.Option (Option P)) → ℕ → Option P
  row_slot homes r = at_home (get_elem? homes r)

  -- each slot is at home or with a seat
  abbrev pub HomesAgree : ℕ → List (mathlib.Core.Option.Option (Option P)) → List (Place P) → Type 0
  HomesAgree rows homes views = (r : ℕ) → r < rows → ((x : Option P) × (get_elem? homes r ≡ some (some x))) ⊎ ((i : ℕ) × (u : Place P) × IsAt views i u × IsAmong r u.lifted)

  -- a seat holds the slot of a row alone that it has open or that is handed to it
  abbrev pub LiftsAgree : List (Place P) → Type 0
  LiftsAgree views = (i r : ℕ) (u : Place P) → IsAt views i u → IsAmong r u.lifted → IsAmong r u.token.opened ⊎ IsAmong r u.token.handed

  -- what stands between any two steps of any seats: the rule of rows and stamps, over the words and slots of this table, and where each slot is
  pub record IsRows (k : Start) (s : State (Option P) (Place P)) : Type 0 where
    pub log : List Event
    pub small : k.events < 2 ^ 40
    pub words : length s.words ≡ k.rows + 1
    pub slots : length s.homes ≡ k.rows
    pub stamp : slice_index s.words 0 ≡ length log
    pub rule : RuleHolds k.rows k.events (row_word s.words) (row_slot s.homes) log (map token_of s.views)
    pub homes : HomesAgree k.rows s.homes s.views
    pub lifts : LiftsAgree s.views
    -- what was seen of the ledger
    pub sights : (i : ℕ) (u : Place P) (x : Sight) → IsAt s.views i u → IsAmong x u.sights → IsSight log x

  -- what a seat knows of itself alone, whatever the others do
  pub record KnowsItself (v : Token P) : Type 0 where
    -- where each row is that it acquired, or that a seat acquired which it took in
    pub rows : KnowsRows v
    -- each of its events is in its own name or in that of a stream whose seat came back
    pub names : (e : Event) → IsAmong e v.events → (e.by ≡ v.by) ⊎ ((m : ℕ) × (e.by ≡ Inner m) × IsAmong m v.had × ¬ (IsAmong m v.out))
    pub pure : v.main ≡ false → (e : Event) → IsAmong e v.events → e.by ≡ v.by
    -- the seats that are out are other streams', each of which had one
    pub outs : (m : ℕ) → IsAmong m v.out → IsAmong m v.had × (v.by ≢ Inner m)

  -- t is the main seat v with its seat w taken in, which was at rest
  pub record TookIn (t v w : Token P) : Type 0 where
    pub is : t ≡ joined v w
    pub name : ℕ
    pub by : w.by ≡ Inner name
    pub out : IsAmong name v.out
    pub side : w.main ≡ false
    pub mine : KnowsItself v
    pub theirs : KnowsItself w
    pub shut : w.opened ≡ []
    pub unused : (r : ℕ) → IsAmong r w.empty → ¬ (IsAcquired w.events r)
