-- Whose turn it was, by the main tree and by the tale.
use Rattle.std.specs.Prelude.{ℕ, suc, ◌<◌, List}
use Rattle.chunk_core.specs.Lists.{IsAmong}
use Rattle.join_tale.specs.Tales.{Tale}
use Rattle.join_tree.specs.Progress.{Progress}
use Rattle.join_tree.specs.Turns.{StoodIn, WentOn}

-- Where the outer stream went on behind a stream, it was pulled in its turn, and each stream that stood in a turn is told to have been open then. What stood when the next stream was leased for is told only where it was.
pub record KeepsTurns {V : Type 0} (progress : Progress V) (tale : Tale) : Type 0 where
  pub pulled : (k : ℕ) → WentOn progress k → IsAmong k tale.pulled
  pub ahead : (k : ℕ) (is : List ℕ) → IsAmong (suc k, is) progress.ahead → suc k < progress.leased
  pub room : (k i : ℕ) → i < k → StoodIn progress k i → IsAmong i (tale.room k)
