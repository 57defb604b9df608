-- How a stream ended.
use Rattle.std.specs.Prelude.{◌≡◌, ◌≢◌, ℕ, [], Some}
use Rattle.chunk_core.specs.Lists.{IsAmong}
use Rattle.chunk_core.specs.declared.code.How.{How}
use Rattle.chunk_core.specs.declared.code.How.TheVariants as how
use Rattle.run_rules.specs.Facts.{at}
use Rattle.join_tale.specs.Tales.{Tale, end_of, loads_of}
use Rattle.join_tale.specs.Tales.Fate.{Skipped, Unmade}

-- A stream ended as its end says that came while frames were written. Of those that came later want of memory stays so, and Done where
-- no load of the stream was left unwritten; any other is Halted. A stream without an end found no memory, or it is Halted.
pub data Ended (t : Tale) (k : ℕ) (h : How) : Type 0 where
  told : IsAmong (end_of k h) t.front → Ended t k h
  wanting : IsAmong (end_of k how.Memory) t.late → h ≡ how.Memory → Ended t k h
  whole : IsAmong (end_of k how.Done) t.late → loads_of k t.late ≡ [] → h ≡ how.Done → Ended t k h
  halted : (e : How) → IsAmong (end_of k e) t.late → e ≢ how.Memory → (e ≡ how.Done → loads_of k t.late ≢ []) → h ≡ how.Halted → Ended t k h
  unmade : at t.fates k ≡ Some Unmade → h ≡ how.Memory → Ended t k h
  skipped : at t.fates k ≡ Some Skipped → h ≡ how.Halted → Ended t k h
