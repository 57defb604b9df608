-- What is read of a source, up to a limit.
use Rattle.std.specs.Prelude.{◌≡◌, ℕ, ◌+◌, ◌≤◌, Bool, true, false, ◌&&◌, nat_eq, nat_lt, if◌then◌else◌, List, length, take, IfSome, Result, Ok, Err}
use Rattle.device_port.specs.Source.{SourceTold, without_front}
use Rattle.source_input.specs.declared.reading.NotRead.{NotRead}
use Rattle.source_input.specs.declared.reading.NotRead.TheVariants as why

-- the source gave these bytes, and no read failed; it told its end exactly where they are fewer than are read at most;
-- where it tells what it has, they are all of that, or as many of its first bytes as are read at most
pub record IsRead (most : ℕ) (old new : SourceTold) (bytes : List ℕ) : Type 0 where
  pub few : length bytes ≤ most
  pub told : new ≡ record (without_front (length bytes) old) { ended = nat_lt (length bytes) most }
  pub given : IfSome old.left (λ left. bytes ≡ take most left)

-- the source gave so many bytes, and then one read failed, before which none told the end, or none failed
pub record IsCutShort (most : ℕ) (failed : Bool) (old new : SourceTold) : Type 0 where
  pub count : ℕ
  pub few : count ≤ most
  pub told : new ≡ record (without_front count old) { ended = new.ended; faults = if failed then old.faults + 1 else old.faults }
  pub ended : failed ≡ true → new.ended ≡ (nat_eq count 0 && old.ended)

-- the source was read to its end or to the limit, or a read failed and was the last, or memory was wanting
abbrev pub ReadsSource : ℕ → SourceTold → SourceTold → Result (List ℕ) NotRead → Type 0
ReadsSource most old new (Ok bytes) = IsRead most old new bytes
ReadsSource most old new (Err why.Failed) = IsCutShort most true old new
ReadsSource most old new (Err why.Memory) = IsCutShort most false old new
