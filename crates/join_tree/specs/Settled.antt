-- What the ledger tells once all streams are back.
use Rattle.std.specs.Prelude.{◌≡◌, ◌⊎◌, ℕ, ◌+◌, ◌<◌, ◌≤◌, List, ◌∷◌, ◌++◌, length}
use Rattle.chunk_core.specs.Lists.{IsAmong}
use Rattle.res_ledger.specs.declared.event.Event.{Event}
use Rattle.res_ledger.specs.declared.event.StreamNo.TheVariants.{Inner, Outer}
use Rattle.res_ledger.specs.declared.event.What.TheVariants.{Acquire, Lease}
use Rattle.res_ledger.specs.Ledger.{Covers, Notes}
use Rattle.res_ledger.specs.Order.{firsts}
use Rattle.res_ledger.specs.Own.{opens, own}
use Rattle.row_seat.specs.Views.{IsLedgerOf}
use Rattle.run_rules.specs.Ends.{HadTurn, WasIn}
use Rattle.run_rules.specs.Pace.{IsPaced}
use Rattle.scope_tree.specs.Calls.{Seen}
use Rattle.scope_tree.specs.Released.{said}
use Rattle.tree_families.specs.Families.{Split}
use Rattle.tree_laws.specs.Ends.{IsFinishedLedger}
use Rattle.tree_laws.specs.Whole.{IsWholeLedger}
use Rattle.run_rules.specs.Giving.{givings}
use Rattle.join_tree.specs.Given.{given}
use Rattle.join_tree.specs.Progress.{Progress}
use Rattle.join_tree.specs.Notes.{IsTold}
use Rattle.join_tree.specs.Turns.{StoodIn, TookTurn}

-- L is the ledger of the main tree b, which is as far as p says, once all streams are back
pub record Settles {P : Type 0} (width n : ℕ) (b : Seen P) (p : Progress P) (L : List Event) : Type 0 where
  -- it is lawful, complete and in order; the n streams were given and begun in pace, and no more than `width` are open at once
  pub ledger : IsLedgerOf b.seat L
  pub whole : IsWholeLedger L
  pub paced : IsPaced width n L
  -- the outer stream acquired rows in their order, and each of its leases covers the rows of its root
  pub rise : (P Q : List Event) (e : Event) (r s q t : ℕ) → L ≡ P ++ e ∷ Q → e.by ≡ Outer → e.what ≡ Acquire r s → Notes P Outer (Acquire q t) → q < r
  pub covers : (j s r : ℕ) → Notes L Outer (Lease j s) → IsAmong (Acquire r 0) p.tables → Covers L j Outer r
  -- each stream had its turn as is told, while those alone hadn't left that stood then
  pub turns : (k : ℕ) → HadTurn L k → TookTurn p k
  pub stood : (k i : ℕ) → i < k → WasIn L k i → StoodIn p k i
  -- what its events tell; the outer stream opened no more scopes than it had room for
  pub told : IsTold p L
  pub scopes : length (opens (own Outer L)) + 1 ≤ b.scopes
  -- and what it noted as it gave streams
  pub gave : givings L ≡ given b.seat
  -- each event is the outer stream's or one of the n's
  pub names : (e : Event) → IsAmong e L → (e.by ≡ Outer) ⊎ ((j : ℕ) × (j < n) × (e.by ≡ Inner j))
  -- the streams that were leased for are among the n, and those that were dealt with among these
  pub few : p.leased ≤ n
  pub dealt : p.next ≤ p.leased
  pub older : (m : Split) → IsAmong m p.splits → m.stream < p.next
  -- the tree of each seat that was split off came back, and of its stream the ledger has just the events that it noted
  pub met : (m : Split) → IsAmong m p.splits → (y : Seen P) × IsAmong y p.back × (y.seat.by ≡ Inner m.stream)
  pub back : (y : Seen P) → IsAmong y p.back → IsFinishedLedger y b.seat L
  -- each row on the shelf is one of the tables
  pub shelf : (r : ℕ) → IsAmong r (firsts (said b.shelf)) → (s : ℕ) × IsAmong (Acquire r s) p.tables
