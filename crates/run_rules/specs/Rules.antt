-- The rules of a run's ledger.
use Rattle.std.specs.Prelude.{◌≡◌, ℕ, ◌<◌, ◌≤◌, true, List, ◌∷◌, ◌++◌, length, Option, Some, None}
use Rattle.std.specs.List.{AllByRecursion}
use Rattle.chunk_core.specs.Lists.{IsAmong}
use Rattle.chunk_core.specs.declared.code.Exit.{Exit}
use Rattle.res_ledger.specs.declared.event.StreamNo.TheVariants.{Outer, Inner}
use Rattle.res_ledger.specs.declared.event.What.TheVariants.{Acquire, Cancel, Lease}
use Rattle.res_ledger.specs.declared.event.Event.{Event}
use Rattle.res_ledger.specs.Ledger.{Covers, IsLegal, IsStamped, Notes, NotesClose}
use Rattle.res_ledger.specs.Order.{IsOrdered}
use Rattle.res_ledger.specs.Own.{opens, own}
use Rattle.res_ledger.specs.Whole.{IsComplete}
use Rattle.run_rules.specs.Facts.{at}
use Rattle.run_rules.specs.Giving.{GivesInOrder}
use Rattle.run_rules.specs.Pace.{IsPaced}
use Rattle.run_rules.specs.Work.{Work, Opener, is_lent, names_of, opener_places, owners_of, scopes_by}

-- an event is by a stream of the work; only the outer stream leases, and for streams that are there; and each row is acquired by its own stream
pub record IsOurs (work : Work) (e : Event) : Type 0 where
  pub by : IsAmong e.by (names_of work)
  pub leases : (j s : ℕ) → e.what ≡ Lease j s → (e.by ≡ Outer) × (j < length work.streams)
  pub owns : (r s : ℕ) → e.what ≡ Acquire r s → at (owners_of work) r ≡ Some e.by

-- no stream opens more scopes than it has
abbrev pub HaveScopes : Work → List Event → Type 0
HaveScopes work L = AllByRecursion (λ k. length (opens (own k L)) ≤ scopes_by work k) (names_of work)

-- a stream that cancels its own lease has closed its root, so that it notes nothing more but the Finals of that Cancel
abbrev pub ClosesBeforeLeaving : List Event → Type 0
ClosesBeforeLeaving L = (P Q : List Event) (e : Event) (j : ℕ) (x : Exit) → L ≡ P ++ e ∷ Q → e.by ≡ Inner j → e.what ≡ Cancel j x → NotesClose P (Inner j) 0

-- each lease of the outer stream covers the rows that its stream is lent, and no other
pub record LendsTables (o : Opener) (n : ℕ) (L : List Event) : Type 0 where
  pub covers : (j s r : ℕ) → Notes L Outer (Lease j s) → r < length (opener_places o) → is_lent o n r j ≡ true → Covers L j Outer r
  pub only : (j s r : ℕ) → Notes L Outer (Lease j s) → Covers L j Outer r → is_lent o n r j ≡ true

-- an outer stream gave the n streams: in its order, with their tables, and in pace
pub record IsGiven (o : Opener) (n : ℕ) (L : List Event) : Type 0 where
  pub order : GivesInOrder o n L
  pub tables : LendsTables o n L
  pub pace : IsPaced o.max_open n L

-- where there is an outer stream, it gave the n streams
abbrev pub IsGivenBy : Option Opener → ℕ → List Event → Type 0
IsGivenBy None n L = Unit {0}
IsGivenBy (Some o) n L = IsGiven o n L

-- the rules of a ledger
pub record KeepsRules (work : Work) (L : List Event) : Type 0 where
  pub stamped : IsStamped L
  pub legal : IsLegal L
  pub complete : IsComplete L
  pub ordered : IsOrdered L
  pub ours : AllByRecursion (IsOurs work) L
  pub scopes : HaveScopes work L
  pub leaving : ClosesBeforeLeaving L
  pub given : IsGivenBy work.opener (length work.streams) L
