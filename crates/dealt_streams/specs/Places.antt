-- Where the closes of their roots stand, of streams that stopped others and of those that were stopped.
use Rattle.std.specs.Prelude.{◌≡◌, ℕ, suc, ◌<◌, ◌≤◌, List, Some}
use Rattle.chunk_core.specs.Lists.{IsAmong}
use Rattle.chunk_core.specs.declared.code.Exit.{Exit}
use Rattle.interrupt_ctx.specs.Views.{interruption}
use Rattle.interrupt_ctx.specs.declared.view.Interruption.{Interruption}
use Rattle.interrupt_ctx.specs.declared.why.Stop.{Stop}
use Rattle.interrupt_ctx.specs.declared.why.Why.TheVariants as why
use Rattle.join_tale.specs.Bounds.{Bounds}
use Rattle.join_tale.specs.Tales.{FailedSo, Tale}
use Rattle.join_tree.specs.Progress.{Progress}
use Rattle.res_ledger.specs.declared.event.Event.{Event}
use Rattle.res_ledger.specs.declared.event.StreamNo.{StreamNo}
use Rattle.res_ledger.specs.declared.event.StreamNo.TheVariants.{Inner, Outer}
use Rattle.res_ledger.specs.declared.event.What.TheVariants.{Close}
use Rattle.scope_tree.specs.Calls.{Seen}

-- The stream closed its root with such a stamp: the outer one did, by what the main tree noted; of an inner one the tree came back, and wherever that noted a Close of its root the stamp is such.
abbrev pub ClosedAs : {V : Type 0} → Seen V → Progress V → (ℕ → Type 0) → StreamNo → Type 0
ClosedAs b progress is Outer = (e : Event) × (x : Exit) × IsAmong e b.seat.events × (e.by ≡ Outer) × (e.what ≡ Close 0 x) × is e.stamp
ClosedAs {V} b progress is (Inner k) = (y : Seen V) × IsAmong y progress.back × (y.seat.by ≡ Inner k) × ((e : Event) (x : Exit) → IsAmong e y.seat.events → e.what ≡ Close 0 x → is e.stamp)

-- These streams, which were halted, closed their roots behind what the stops name that they obeyed. Where one of these stops was set for a fault the stream that failed had
-- closed its root within what the stop names, and so had the one whose end stops another, where it was set for that.
pub record ArePlaced {V : Type 0} (bounds : Bounds) (b : Seen V) (progress : Progress V) (tale : Tale) (os : List (StreamNo × Stop)) (vs : List Interruption) : Type 0 where
  pub obeyed : (k : StreamNo) (w : Stop) → IsAmong (k, w) os → ClosedAs b progress (λ n. w.at ≤ n) k
  pub failed : (context : ℕ) (w : Stop) → IsAmong (interruption context w) vs → w.why ≡ why.Fault → (k : StreamNo) × FailedSo tale k × ClosedAs b progress (λ n. n < w.at) k
  pub ended : (context : ℕ) (w : Stop) → IsAmong (interruption context w) vs → w.why ≡ why.Until → (i j : ℕ) × (context ≡ suc i) × (bounds.until i ≡ Some j) × ClosedAs b progress (λ n. n < w.at) (Inner j)

-- all that the tale has
abbrev pub KeepsPlaces : {V : Type 0} → Bounds → Seen V → Progress V → Tale → Type 0
KeepsPlaces bounds b progress tale = ArePlaced bounds b progress tale tale.obeyed tale.set
