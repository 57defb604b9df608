-- What calls of a tree leave of its room for events.
use Rattle.std.specs.Prelude.{◌≡◌, ℕ, ◌+◌, ◌-◌, ◌≤◌, Bool, List}
use Rattle.chunk_core.specs.declared.code.Exit.{Exit}
use Rattle.row_seat.specs.declared.view.View.{View}
use Rattle.row_seat.specs.Views.{AreApart, joined, split_main}
use Rattle.scope_tree.specs.Calls.{Cancels, ClosesScope, IsOpenScope, Leases, Seen}
use Rattle.scope_tree.specs.Released.{away}
use Rattle.scope_tree.specs.Trees.{IsConsistent, seen}
use Rattle.scope_tree.specs.Trace.{owed}
use Rattle.scope_tree.specs.declared.tree.Tree.{Tree}

-- a lease, a split, a join and a cancellation owe no more and no less; what they take of the spare events, or give
pub record OwedStays {P : Type 0} (ends : P → Exit → Bool → P → Type 0) : Type 0 where
  pub leases : (a b : Seen P) (s j : ℕ) (T : List ℕ) → Leases a s j T b → (owed b.seat ≡ owed a.seat) × (b.seat.spare ≡ a.seat.spare - 1)
  pub splits : (v : View P) (j from to n : ℕ) → (owed (split_main v j from to n) ≡ owed v) × ((split_main v j from to n).spare ≡ v.spare - n)
  pub joins : (v w : View P) → AreApart v w → (owed (joined v w) ≡ owed v) × ((joined v w).spare ≡ v.spare + w.spare)
  pub cancels : (a b : Seen P) (j : ℕ) (T : List ℕ) (x : Exit) → Cancels ends a j T x b → (owed b.seat ≡ owed a.seat) × (a.seat.spare ≤ b.seat.spare + 1 + away T a.seat.opened)

-- once the root is closed nothing is owed, and its close took no more than was owed
abbrev pub RootOwesNothing : {S P : Type 0} → (P → Exit → Bool → P → Type 0) → (S → View P) → Type 0 → Type 0
RootOwesNothing {S} {P} ends view D = (t u : Tree S P D) (x : Exit) → IsConsistent view t → IsConsistent view u → IsOpenScope (seen view t) 0 → ClosesScope ends (seen view t) 0 x (seen view u) → (owed (seen view u).seat ≡ 0) × ((seen view t).seat.spare ≤ (seen view u).seat.spare + owed (seen view t).seat)
