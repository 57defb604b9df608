-- The ledger of all seats at a table, and the rows' words.
use Rattle.std.specs.Prelude.{◌≡◌, ℕ, ◌<◌, ◌↔◌, false, List, length, slice_index, Option}
use Rattle.atomic_table.specs.Table.{State}
use Rattle.chunk_core.specs.Lists.{IsAmong}
use Rattle.res_ledger.specs.declared.event.Event.{Event}
use Rattle.res_ledger.specs.Ledger.{IsLegal, IsStamped}
use Rattle.row_seat.specs.Laws.{WordTells}
use Rattle.row_seat.specs.Totals.{IsAt, total}
use Rattle.row_shared.specs.declared.seat.SharedSeat.{SharedSeat}
use Rattle.row_shared.specs.declared.seat.TableRef.{TableRef}
use Rattle.row_shared.specs.declared.table.Place.{Place}
use Rattle.row_shared.specs.declared.table.Start.{Start}
use Rattle.row_shared.specs.Places.{IsRows, row_word}
use Rattle.row_shared.specs.Seats.{SharedFits, shown}

module _ {P : Type 0} where
  -- the events of all views, each once, in the order of their stamps, which are the numbers below the stamp word
  pub record IsLedgerOfAll (s : State (Option P) (Place P)) (L : List Event) : Type 0 where
    pub stamped : IsStamped L
    pub stamp : slice_index s.words 0 ≡ length L
    pub whole : (e : Event) → IsAmong e L ↔ ((i : ℕ) × (v : Place P) × IsAt s.views i v × IsAmong e v.token.events)
    pub once : total (λ (v : Place P). length v.token.events) s.views ≡ length L

-- between any two steps the events of all views in the order of their stamps are a legal ledger, in which each row stands where its word does, or ahead of it, and never behind
abbrev pub LedgerIsNeverBehind : Type 0 → Type 0
LedgerIsNeverBehind P = (k : Start) (s : State (Option P) (Place P)) → IsRows k s → (L : List Event) × IsLedgerOfAll s L × IsLegal L × ((r : ℕ) → r < k.rows → WordTells L r (row_word s.words r))

-- a seat that was split off fits every handle that some seat fits, where both fit one
abbrev pub HandlesAgree : Type 0 → Type 0
HandlesAgree P = (s o : SharedSeat P) (d e : TableRef P) → SharedFits s d → SharedFits s e → SharedFits o e → (shown o).main ≡ false → SharedFits o d
