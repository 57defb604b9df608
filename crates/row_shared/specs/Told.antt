-- What each step tells the seat that makes it, which knows t.
use Rattle.std.specs.Prelude.{◌≡◌, ◌≢◌, ℕ, ◌+◌, ◌^◌, ◌<◌, ◌≤◌, true, List, [], ◌∷◌, length, Some, Option}
use Rattle.chunk_core.specs.Lists.{IsAmong}
use Rattle.res_ledger.specs.declared.event.Event.{Event}
use Rattle.res_ledger.specs.declared.event.What.{What}
use Rattle.row_seat.specs.Fronts.{StandsBehind, sight_of}
use Rattle.row_seat.specs.declared.front.Sight.{Sight}
use Rattle.row_seat.specs.declared.token.Token.{Token}
use Rattle.row_seat.specs.declared.view.Left.{Left}
use Rattle.row_seat.specs.declared.view.Left.TheVariants.{Stays, Yours}
use Rattle.std.specs.Map.{keys_of}
use Rattle.row_seat.specs.Rule.{IsInside, view_of}
use Rattle.row_seat.specs.Steps.{gone, handed_over, joined, leased, noted, placed, shut, took}
use Rattle.row_seat.specs.Totals.{stamp_times}
use Rattle.row_seat.specs.Views.{AreApart, IsFreshStamp, IsHeldStill, IsLastLease, IsLedgerOf, MayStay}
use Rattle.row_shared.specs.Places.{Seated, TookIn, holding, idle, seeing}

module _ {P : Type 0} where
  -- between two calls the seat is in use and holds no slot
  abbrev pub IsIdle : Seated P → Type 0
  IsIdle me = (me ≡ idle me.0.token) × (me.0.token.live ≡ true)

  -- the seat knows t from now on, within a table of so many rows, and holds no slot
  abbrev pub Knows : ℕ → Token P → Seated P → Type 0
  Knows rows t after = (after ≡ idle t) × IsInside rows t

  -- no more is noted or may be noted than there is room for
  abbrev pub IsWithinRoom : ℕ → Token P → Type 0
  IsWithinRoom room t = length t.events + t.spare ≤ room

  -- the event x is noted with the stamp n
  abbrev pub Ticked : ℕ → What → ℕ → Token P → ℕ → Seated P → Type 0
  Ticked rows x room t n after = let e : Event = record { stamp = n; by = t.by; what = x } in Knows rows (noted t e) after × IsFreshStamp (view_of t []) n × IsWithinRoom room t

  -- the row r is placed, and this seat has no lease on it
  abbrev pub Placed : ℕ → ℕ → Token P → Seated P → Type 0
  Placed rows r t after = Knows rows (placed t r) after × ((j : ℕ) → ¬ (IsAmong (j, r) t.pairs))

  -- a lease of the row r is added for the stream j
  abbrev pub Leased : ℕ → ℕ → ℕ → Token P → Seated P → Type 0
  Leased rows j r t after = Knows rows (leased t j r) after

  -- the lease is gone. Stays: where the seat is the main one, the row is held still. Yours: it was the last on a closed row, which is handed over with what was left in it
  abbrev pub Gave : ℕ → ℕ → ℕ → Left → Token P → Seated P → Type 0
  Gave rows j r Stays t after = Knows rows (gone t j r) after × (t.main ≡ true → (hands : List (ℕ × P)) → keys_of hands ≡ t.opened → IsHeldStill (view_of t hands) j r)
  Gave rows j r Yours t after = (p : P) × Knows rows (handed_over (gone t j r) r p) after × ((hands : List (ℕ × P)) → keys_of hands ≡ t.opened → IsLastLease (view_of t hands) j r p)

  -- a lease of the row r is given up, where the word was n: 7 is that of a closed row with one lease
  abbrev pub Quit : ℕ → ℕ → ℕ → Token P → ℕ → Seated P → Type 0
  Quit rows j r t n after = (n ≡ 7 → Gave rows j r Yours t after) × (n ≢ 7 → Gave rows j r Stays t after)

  -- the slot r is taken, with what is in it
  abbrev pub Lifted : ℕ → Token P → Seated P → Type 0
  Lifted r t after = (y : Option P) × (after ≡ holding t r y)

  -- the row r is closed with p in its slot. Stays: the main seat closed it, and leased it. Yours: no lease stands on it, and it is handed over
  abbrev pub Closed : ℕ → ℕ → P → Left → Token P → Seated P → Type 0
  Closed rows r p Stays t after = Knows rows (shut t r p) after × MayStay (view_of t []) r
  Closed rows r p Yours t after = Knows rows (handed_over (shut t r p) r p) after × ((j : ℕ) → ¬ (IsAmong (j, r) t.pairs))

  -- the row r is closed, where the word was n, and its slot given back: 1 is the word of an open row with no lease
  abbrev pub Shut : ℕ → ℕ → Seated P → ℕ → Seated P → Type 0
  Shut rows r me n after = (p : P) × (me ≡ holding me.0.token r (Some p)) × (n ≡ 1 → Closed rows r p Yours me.0.token after) × (n ≢ 1 → Closed rows r p Stays me.0.token after)

  -- x alone was handed over with the row r
  abbrev pub IsGiven : ℕ → P → Token P → Type 0
  IsGiven r x t = IsAmong (r, x) t.given × ((q : P) → IsAmong (r, q) t.given → q ≡ x)

  -- the slot of a handed row is taken, with the payload that was handed over, and the row counts as taken
  abbrev pub Fetched : ℕ → Token P → Seated P → Type 0
  Fetched r t after = (x : P) × (after ≡ holding (took t r) r (Some x)) × IsGiven r x t

  -- the payload of a handed row is taken out of its slot
  abbrev pub Taken : ℕ → P → Token P → Seated P → Type 0
  Taken r x t after = (after ≡ idle (took t r)) × IsGiven r x t

  -- the seat, which knows t, has this sight
  abbrev pub IsMarked : Token P → Sight → Seated P → Type 0
  IsMarked t x me = me ≡ (seeing t (x ∷ []), [])

  -- the seat saw that the ledger has n events
  abbrev pub Saw : ℕ → Token P → ℕ → Seated P → Type 0
  Saw rows t n after = IsMarked t (sight_of (view_of t []) n) after × IsFreshStamp (view_of t []) n × (n < 2 ^ 40)

  -- a mark with these sights was taken in: what the seat's stream noted since stands behind each
  abbrev pub Recalled : Token P → List Sight → Seated P → Type 0
  Recalled t xs after = (after ≡ idle t) × ((x : Sight) → IsAmong x xs → x.by ≡ t.by → StandsBehind x t.events)

  -- a seat that was taken in was apart from this one
  abbrev pub Met : ℕ → ℕ → Token P → Seated P → Type 0
  Met rows room t after = Knows rows t after × IsWithinRoom room t × ((v w : Token P) → TookIn t v w → (mine theirs : List (ℕ × P)) → AreApart (view_of v mine) (view_of w theirs))

  -- the seat of w is taken in
  abbrev pub Joined : ℕ → ℕ → Token P → Token P → Seated P → Type 0
  Joined rows room v w after = Knows rows (joined v w) after × IsWithinRoom room (joined v w) × ((mine theirs : List (ℕ × P)) → AreApart (view_of v mine) (view_of w theirs))

  -- the ledger of all seats, of which each event is here once
  abbrev pub Ended : Token P → Seated P → Type 0
  Ended t after = (after ≡ idle t) × ((log : List Event) × IsLedgerOf (view_of t []) log × ((n : ℕ) → stamp_times n t.events ≤ 1))
