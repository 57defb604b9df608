-- The ledger of a lease that was cancelled where it was made.
use Rattle.std.specs.Prelude.{◌≡◌, ◌+◌, ◌≤◌, Bool, true, List, [], ◌∷◌}
use Rattle.chunk_core.specs.declared.code.Exit.{Exit}
use Rattle.res_ledger.specs.declared.event.Event.{Event}
use Rattle.res_ledger.specs.declared.event.StreamNo.TheVariants.{Outer}
use Rattle.res_ledger.specs.declared.event.What.TheVariants.{Acquire, Cancel, Close, Final, Lease, Open}
use Rattle.res_ledger.specs.Ledger.{stamped}
use Rattle.scope_tree.specs.Calls.{IsOpenScope, Seen, used}
use Rattle.scope_tree.specs.Rights.{HasNoLeaseBut, IsNewStream}
use Rattle.scope_tree.specs.Trace.{owed, trace}
use Rattle.tree_scripts.specs.Waiting.{NotesAlone, noted_by}

-- the tree of the outer stream has the row 0 with p in the root and the row 1 with q in its child, nothing was leased or split off, and there is room for a lease and its end
pub record HasTwoRows {P : Type 0} (p q : P) (a : Seen P) : Type 0 where
  pub root : IsOpenScope a 0
  pub new : IsNewStream a.seat 7
  pub leases : HasNoLeaseBut a.seat []
  pub main : a.seat.main ≡ true
  pub out : a.seat.out ≡ []
  pub by : a.seat.by ≡ Outer
  pub trace_is : trace a.seat ≡ Open 1 0 ∷ Acquire 0 0 ∷ Acquire 1 1 ∷ []
  pub events : NotesAlone a.seat
  pub opened : a.seat.opened ≡ (0, p) ∷ (1, q) ∷ []
  pub spare : owed a.seat + 9 ≤ a.seat.spare
  pub room : used a ≤ a.rows

-- the row 0 in the root and the row 1 in its child waited for the lease of the root, which was cancelled as the root was closed, with the exit x
pub record IsLeasedAndCanceled (x : Exit) (L : List Event) : Type 0 where
  pub low : Bool
  pub upper : Bool
  pub ledger : L ≡ stamped 0 (noted_by Outer (Open 1 0 ∷ Acquire 0 0 ∷ Acquire 1 1 ∷ Lease 7 0 ∷ Close 0 x ∷ Cancel 7 x ∷ Final 1 x low ∷ Final 0 x upper ∷ []))
