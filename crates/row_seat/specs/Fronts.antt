-- What a seat saw of the ledger.
use Rattle.std.specs.Prelude.{◌≡◌, ℕ, ◌≤◌, List, ◌∷◌, ◌++◌, length}
use Rattle.res_ledger.specs.Streams.{by_stream}
use Rattle.res_ledger.specs.declared.event.Event.{Event}
use Rattle.row_seat.specs.declared.front.Sight.{Sight}
use Rattle.row_seat.specs.declared.view.View.{View}

-- the seat of the view sees a ledger of n events
abbrev pub sight_of : {P : Type 0} → View P → ℕ → Sight
sight_of v n = record { by = v.by; count = length (by_stream v.by v.events); front = n }

-- of these events each that its stream noted since has a stamp which isn't below the front that was seen
abbrev pub StandsBehind : Sight → List Event → Type 0
StandsBehind x L = (A B : List Event) (e : Event) → by_stream x.by L ≡ A ++ e ∷ B → x.count ≤ length A → x.front ≤ e.stamp

-- in the ledger L, which has grown since, this was seen: so many events stood there, and the stream had noted so many
pub record IsSight (L : List Event) (x : Sight) : Type 0 where
  pub reached : x.front ≤ length L
  pub behind : (A B : List Event) (e : Event) → L ≡ A ++ e ∷ B → e.by ≡ x.by → x.count ≤ length (by_stream x.by A) → x.front ≤ length A
