-- What has become of a tree since a time, whatever calls were made of it.
use Rattle.std.specs.Prelude.{◌≡◌, ◌≢◌, ℕ, ◌+◌, ◌<◌, Bool, true, List, [], ◌∷◌, ◌++◌, length}
use Rattle.chunk_core.specs.declared.code.Exit.{Exit}
use Rattle.chunk_core.specs.Lists.{IsAmong}
use Rattle.res_ledger.specs.declared.event.StreamNo.TheVariants.{Inner}
use Rattle.res_ledger.specs.declared.event.What.TheVariants.{Acquire}
use Rattle.res_ledger.specs.Ledger.{IsFinalized, IsLeased, Notes}
use Rattle.res_ledger.specs.Own.{opens}
use Rattle.row_seat.specs.declared.view.View.{View}
use Rattle.row_seat.specs.Views.{AreApart, CanJoin, CanSplit, HasRow, joined, paid, split_main}
use Rattle.scope_tree.specs.Calls.{AcquiresRow, Cancels, ClosesScope, IsClosedScope, IsOpenScope, Leases, OpensScope, Seen, WasOpened}
use Rattle.scope_tree.specs.Trace.{trace}

module _ {P : Type 0} where
  -- a child of a scope at or above `at` may be opened: the root isn't closed, and there is room for one scope more
  pub record MayOpen (a : Seen P) (at : ℕ) : Type 0 where
    pub root : ¬ (IsClosedScope a 0)
    pub known : WasOpened a at
    pub room : length (opens (trace a.seat)) + 1 < a.scopes

  -- the row r may be acquired in the scope s
  pub record MayAcquire (a : Seen P) (s r : ℕ) : Type 0 where
    pub scope : IsOpenScope a s
    pub row : IsAmong r a.seat.empty

  -- the main tree may lease the scope s for j, a stream that had no seat and has no Lease
  pub record MayLease (a : Seen P) (s j : ℕ) : Type 0 where
    pub main : a.seat.main ≡ true
    pub scope : IsOpenScope a s
    pub other : a.seat.by ≢ Inner j
    pub new : ¬ (IsAmong j a.seat.had)
    pub unleased : ¬ (IsLeased a.seat.events j)

  -- the Lease for j, with leases on the rows T, may be cancelled: it is kept, and where it is that of the seat's own stream the rows of this stream have ended
  pub record MayCancel (a : Seen P) (j : ℕ) (T : List ℕ) : Type 0 where
    pub kept : IsAmong j a.seat.kept
    pub ended : a.seat.by ≡ Inner j → (r s : ℕ) → Notes a.seat.events a.seat.by (Acquire r s) → IsFinalized a.seat.events r
    pub pairs : (r : ℕ) → IsAmong r T → IsAmong (j, r) a.seat.pairs

-- since a, calls of a tree were made, which stands as the last one now; Cs are the leases that it cancelled, each with its rows
pub data Called {P : Type 0} (ends : P → Exit → Bool → P → Type 0) (a : Seen P) : List (ℕ × List ℕ) → Seen P → Type 0 where
  none : Called ends a [] a
  opened : {Cs : List (ℕ × List ℕ)} (b c : Seen P) (at s : ℕ) → Called ends a Cs b → MayOpen b at → OpensScope b at s c → Called ends a Cs c
  acquired : {Cs : List (ℕ × List ℕ)} (b c : Seen P) (s r : ℕ) (p : P) → Called ends a Cs b → MayAcquire b s r → AcquiresRow b s r p c → Called ends a Cs c
  -- an open row has another payload
  written : {Cs : List (ℕ × List ℕ)} (b c : Seen P) (r : ℕ) (p : P) → Called ends a Cs b → HasRow b.seat.opened r → c ≡ record b { seat = paid b.seat r p } → Called ends a Cs c
  leased : {Cs : List (ℕ × List ℕ)} (b c : Seen P) (s j : ℕ) (T : List ℕ) → Called ends a Cs b → MayLease b s j → Leases b s j T c → Called ends a Cs c
  cancelled : {Cs : List (ℕ × List ℕ)} (b c : Seen P) (j : ℕ) (T : List ℕ) (x : Exit) → Called ends a Cs b → MayCancel b j T → Cancels ends b j T x c → Called ends a (Cs ++ (j, T) ∷ []) c
  closed : {Cs : List (ℕ × List ℕ)} (b c : Seen P) (s : ℕ) (x : Exit) → Called ends a Cs b → IsOpenScope b s → ClosesScope ends b s x c → Called ends a Cs c
  -- the seat of the stream j was split off
  split : {Cs : List (ℕ × List ℕ)} (b c : Seen P) (j from to n : ℕ) → Called ends a Cs b → CanSplit b.seat j from to n → c ≡ record b { seat = split_main b.seat j from to n } → Called ends a Cs c
  -- a seat that was split off was taken in again
  taken_in : {Cs : List (ℕ × List ℕ)} (b c : Seen P) (w : View P) → Called ends a Cs b → CanJoin b.seat w → AreApart b.seat w → c ≡ record b { seat = joined b.seat w } → Called ends a Cs c
