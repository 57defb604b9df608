-- What a source tells.
use Rattle.std.specs.Prelude.{ℕ, nat_eq, Bool, List, drop, Option, option_map}

-- `ended` says that the last read that didn't fail gave nothing
pub record SourceTold : Type 0 where
  pub left : Option (List ℕ)
  pub ended : Bool
  pub faults : ℕ

-- n bytes further, and at the end where that are none
abbrev pub without_front : ℕ → SourceTold → SourceTold
without_front n s = record s { left = option_map (drop n) s.left; ended = nat_eq n 0 }
