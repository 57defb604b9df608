-- What a sink tells.
use Rattle.std.specs.Prelude.{◌≡◌, ℕ, ◌+◌, ◌<◌, List, ◌++◌, length, take, Option, option_map, Result, Ok, Err}
use Rattle.device_port.specs.declared.Failed.{Failed}

pub record SinkTold : Type 0 where
  pub written : Option (List ℕ)
  pub faults : ℕ

-- these bytes behind what was written
abbrev pub with_bytes : SinkTold → List ℕ → SinkTold
with_bytes s bytes = record s { written = option_map (λ w. w ++ bytes) s.written }

-- a front of the bytes was written, and then a call failed
pub record BreaksOff (old new : SinkTold) (bytes : List ℕ) : Type 0 where
  pub count : ℕ
  pub front : count < length bytes
  pub told : new ≡ record (with_bytes old (take count bytes)) { faults = old.faults + 1 }

-- the bytes were written, or a proper front of them and then a call failed
abbrev pub Puts : {T : Type 0} → SinkTold → SinkTold → List ℕ → Result T Failed → Type 0
Puts old new bytes (Ok _) = new ≡ with_bytes old bytes
Puts old new bytes (Err _) = BreaksOff old new bytes
