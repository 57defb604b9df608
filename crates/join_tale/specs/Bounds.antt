-- What a tale goes by.
use Rattle.std.specs.Prelude.{ℕ, Bool, nat_eq, List, Option, Some, None}
use Rattle.run_rules.specs.Facts.{at}
use Rattle.run_rules.specs.Work.{Opener, Stream}

-- how many frames are printed at most, how many streams are open at once, and the stream whose end stops each, also where it isn't known yet what a stream reads
pub record Bounds : Type 0 where
  pub most : Option ℕ
  pub max_open : ℕ
  pub until : ℕ → Option ℕ

-- one stream is open at a time
abbrev pub is_in_turn : Bounds → Bool
is_in_turn bounds = nat_eq bounds.max_open 1

-- those of an outer stream and of the streams that it gives
abbrev pub bounds_of : Opener → List Stream → Bounds
bounds_of o ss = record { most = o.most; max_open = o.max_open; until = λ k. elim (at ss k) [ Some s ↦ s.until | None ↦ None ] }
