-- What is kept of a main tree while its streams come and go.
use Rattle.std.specs.Prelude.{◌≡◌, ◌⊎◌, ℕ, ◌<◌, ◌≤◌, Bool, nat_eq, List, [], Option, Some, None}
use Rattle.std.specs.List.{IsDistinct}
use Rattle.chunk_core.specs.declared.code.Exit.{Exit}
use Rattle.chunk_core.specs.Lists.{IsAmong}
use Rattle.res_ledger.specs.declared.event.StreamNo.TheVariants.{Inner, Outer}
use Rattle.row_seat.specs.declared.view.View.{View}
use Rattle.scope_tree.specs.Calls.{IsClosedScope, IsOpenScope, Seen}
use Rattle.tree_laws.specs.Lent.{Lent}
use Rattle.tree_families.specs.Families.{IsFamily, Split}
use Rattle.tree_families.specs.Pace.{IsInPace}
use Rattle.join_tree.specs.Progress.{Follow, Progress}
use Rattle.join_tree.specs.Notes.{GivesInPace, IsTold}
use Rattle.join_tree.specs.Turns.{KeepsOuts}

module _ {P : Type 0} where
  -- the Leases that the seat keeps are those of ws, each with leases on its rows, and it has no others
  pub record Waits (v : View P) (ws : List (ℕ × List ℕ)) : Type 0 where
    pub kept : (j : ℕ) → IsAmong j v.kept → (T : List ℕ) × IsAmong (j, T) ws
    pub keeps : (j : ℕ) (T : List ℕ) → IsAmong (j, T) ws → IsAmong j v.kept
    pub held : (j r : ℕ) → IsAmong (j, r) v.pairs → (T : List ℕ) × IsAmong (j, T) ws × IsAmong r T
    pub holds : (j r : ℕ) (T : List ℕ) → IsAmong (j, T) ws → IsAmong r T → IsAmong (j, r) v.pairs

  -- the root is open, or it was closed
  abbrev pub IsRoot : Seen P → Option Exit → Type 0
  IsRoot b None = IsOpenScope b 0
  IsRoot b (Some x) = IsClosedScope b 0

  -- b is the main tree of n streams, of which no more than `width` are open at once, and is as far as p says
  pub record IsMain (ends : P → Exit → Bool → P → Type 0) (width n : ℕ) (b : Seen P) (p : Progress P) : Type 0 where
    pub family : IsFamily ends b p.splits
    -- it began with an empty shelf, and room for a scope
    pub shelf : family.first.shelf ≡ []
    pub room : 1 ≤ family.first.scopes
    pub by : b.seat.by ≡ Outer
    pub apart : IsDistinct nat_eq b.seat.out
    -- the leases that wait are those of the streams behind the ones that were dealt with
    pub order : Follow p.next p.waits p.leased
    pub few : p.leased ≤ n
    pub waits : Waits b.seat p.waits
    pub lent : (j : ℕ) (T : List ℕ) → IsAmong (j, T) p.waits → Lent b.seat j T
    pub older : (m : Split) → IsAmong m p.splits → m.stream < p.next
    pub paced : (m : Split) → IsAmong m p.splits → IsInPace width b.seat.events Outer p.splits m
    pub root : IsRoot b p.root
    pub told : IsTold p b.seat.events
    pub gives : GivesInPace width b.seat.events
    pub outs : KeepsOuts p.out p.ahead p.last p.leased b.seat
    -- each seat that was split off is out, or its tree is among those that came back, of which none is out
    pub met : (m : Split) → IsAmong m p.splits → IsAmong m.stream b.seat.out ⊎ ((y : Seen P) × IsAmong y p.back × (y.seat.by ≡ Inner m.stream))
    pub home : (y : Seen P) (j : ℕ) → IsAmong y p.back → y.seat.by ≡ Inner j → ¬ (IsAmong j b.seat.out)
