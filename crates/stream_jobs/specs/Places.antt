-- Where in the ledger the interruptions lie that a job set and obeyed.
use Rattle.std.specs.Prelude.{◌≡◌, ◌⊎◌, ℕ, ◌+◌, ◌<◌, ◌≤◌, List}
use Rattle.chunk_core.specs.Lists.{IsAmong}
use Rattle.chunk_core.specs.declared.code.Exit.{Exit}
use Rattle.chunk_core.specs.declared.code.How.{How}
use Rattle.chunk_core.specs.declared.code.How.TheVariants as how
use Rattle.interrupt_ctx.specs.Views.{interruption}
use Rattle.interrupt_ctx.specs.declared.view.Interruption.{Interruption}
use Rattle.interrupt_ctx.specs.declared.view.View.{View as BoardView}
use Rattle.interrupt_ctx.specs.declared.why.Stop.{Stop}
use Rattle.res_ledger.specs.declared.event.Event.{Event}
use Rattle.res_ledger.specs.declared.event.What.TheVariants.{Close}
use Rattle.row_seat.specs.declared.view.View.{View}

-- each of these interruptions names a front of the ledger that has all of these events
abbrev pub NameBehind : List Event → List Interruption → Type 0
NameBehind L xs = (x : Interruption) → IsAmong x xs → (e : Event) → IsAmong e L → e.stamp < x.stop.at

-- each Close of a root among these events stands behind the first n of the ledger
abbrev pub CloseBehind : List Event → ℕ → Type 0
CloseBehind L n = (e : Event) (x : Exit) → IsAmong e L → e.what ≡ Close 0 x → n ≤ e.stamp

-- Stream k, whose seat at the desk and at the board these are, has ended so: what it set names fronts behind all that it has noted; and where it was halted, it found an interruption, of
-- the whole run or its own, and closed its root behind the front that this names.
pub record HasPlaces {V : Type 0} (k : ℕ) (seat : View V) (board : BoardView) (h : How) : Type 0 where
  pub named : NameBehind seat.events board.set
  pub obeyed : h ≡ how.Halted → (w : Stop) × (IsAmong (interruption 0 w) board.seen ⊎ IsAmong (interruption (1 + k) w) board.seen) × CloseBehind seat.events w.at
