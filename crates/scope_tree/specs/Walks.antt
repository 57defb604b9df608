-- Which scopes are open, by what a tree keeps.
use Rattle.std.specs.Prelude.{◌≡◌, ℕ, ◌<◌, ◌≤◌, true, false, List, length, slice_index_or}
use Rattle.scope_tree.specs.declared.branch.Branch.{Branch}
use Rattle.res_ledger.specs.declared.event.StreamNo.{StreamNo}
use Rattle.res_ledger.specs.declared.event.Event.{Event}
use Rattle.res_ledger.specs.declared.event.What.TheVariants.{Open}
use Rattle.res_ledger.specs.Ledger.{IsClosed, Notes}

abbrev pub Falls : List Branch → Type 0
Falls bs = (c : ℕ) (d : Branch) → 1 ≤ c → c < length bs → (slice_index_or bs c d).parent < c

abbrev pub IsRootOpen : List Branch → Type 0
IsRootOpen bs = (d : Branch) → (slice_index_or bs 0 d).shut ≡ false

-- neither c nor a scope above it is shut
pub data Clear (bs : List Branch) : ℕ → Type 0 where
  root : ((d : Branch) → (slice_index_or bs 0 d).shut ≡ false) → Clear bs 0
  below : (c p : ℕ) → 1 ≤ c → ((d : Branch) → (slice_index_or bs c d).shut ≡ false) → ((d : Branch) → (slice_index_or bs c d).parent ≡ p) → Clear bs p → Clear bs c

-- c or a scope above it is shut
pub data Shaded (bs : List Branch) : ℕ → Type 0 where
  own : (c : ℕ) → ((d : Branch) → (slice_index_or bs c d).shut ≡ true) → Shaded bs c
  under : (c p : ℕ) → 1 ≤ c → ((d : Branch) → (slice_index_or bs c d).parent ≡ p) → Shaded bs p → Shaded bs c

-- q is the first open scope from c upward
pub data Nearest (bs : List Branch) : ℕ → ℕ → Type 0 where
  this : (c : ℕ) → Clear bs c → Nearest bs c c
  next : (c p q : ℕ) → Shaded bs c → 1 ≤ c → ((d : Branch) → (slice_index_or bs c d).parent ≡ p) → Nearest bs p q → Nearest bs c q

-- q is the first open scope of k from c upward
pub data FirstOpen (L : List Event) (k : StreamNo) : ℕ → ℕ → Type 0 where
  this_one : (c : ℕ) → ¬ (IsClosed L k c) → FirstOpen L k c c
  above_it : (c p q : ℕ) → IsClosed L k c → Notes L k (Open c p) → FirstOpen L k p q → FirstOpen L k c q

-- a is s or a scope above it
pub data StandsAbove (bs : List Branch) : ℕ → ℕ → Type 0 where
  itself : (s : ℕ) → StandsAbove bs s s
  further : (s p a : ℕ) → 1 ≤ s → ((d : Branch) → (slice_index_or bs s d).parent ≡ p) → StandsAbove bs p a → StandsAbove bs s a
