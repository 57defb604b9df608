-- What is read of a description.
use Rattle.std.specs.Prelude.{ℕ, Bool, List}
use Rattle.device_port.specs.Source.{SourceTold}
use Rattle.source_input.specs.Input.{IsCutShort, IsRead}

-- the most bytes that are read: one more than a description may have
abbrev pub most_input : ℕ
most_input = 1048577

-- the source was read to its end or to that limit, and gave these bytes
abbrev pub IsInput : SourceTold → SourceTold → List ℕ → Type 0
IsInput old new bytes = IsRead most_input old new bytes

-- the source gave some of them, and then one read failed, or none failed
abbrev pub TakesSome : Bool → SourceTold → SourceTold → Type 0
TakesSome failed old new = IsCutShort most_input failed old new
