-- What a report tells of a tale.
use Rattle.std.specs.Prelude.{◌≡◌, ◌≢◌, ℕ, ◌-◌, ◌<◌, Bool, true, false, not, List, [], ◌∷◌, length, Option, Some, is_some, IfSome, option_map, slice_index_or}
use Rattle.chunk_core.specs.declared.code.How.{How}
use Rattle.chunk_core.specs.declared.code.How.TheVariants as how
use Rattle.run_rules.specs.Facts.{at}
use Rattle.join_tale.specs.Ended.{Ended}
use Rattle.join_tale.specs.Tales.{HasCome, IsBegun, Tale, frames_of, loads_of}
use Rattle.join_tale.specs.Tales.Fate.{Unmade}
use Rattle.join_report.specs.declared.report.Report.{Report}

-- of how many streams it is
abbrev pub count_of : Report → ℕ
count_of r = length r.streams.unwritten

-- stream k is one of them
abbrev pub HasStream : Report → ℕ → Type 0
HasStream r k = k < count_of r

-- how stream k is reported
abbrev pub how_of : Report → ℕ → How
how_of r k = slice_index_or r.streams.hows k how.Halted

-- a load of stream k was left unwritten
abbrev pub has_lost : Report → ℕ → Bool
has_lost r k = slice_index_or r.streams.unwritten k false

-- a test whether there is none
abbrev pub is_none : List (List ℕ) → Bool
is_none [] = true
is_none (x ∷ xs) = false

-- a stream whose end came is reported as it ended, one that there was no memory to make as such, and any other as halted; and whether a load of it came too late
pub record IsAccount (t : Tale) (k : ℕ) (h : How) (unwritten : Bool) : Type 0 where
  pub ended : HasCome t k → Ended t k h
  pub unmade : at t.fates k ≡ Some Unmade → h ≡ how.Memory
  pub halted : ¬ (HasCome t k) → at t.fates k ≢ Some Unmade → h ≡ how.Halted
  pub lost : unwritten ≡ not (is_none (loads_of k t.late))

-- how many frames more may be written
abbrev pub wanted_after : Option ℕ → Tale → Option ℕ
wanted_after most t = option_map (λ m. m - length (frames_of t.front)) most

-- while frames are written a further one is wanted, nothing came too late, and memory wasn't wanting
pub record IsQuiet (most : Option ℕ) (t : Tale) : Type 0 where
  pub wanted : IfSome (wanted_after most t) (λ n. 0 < n)
  pub late : t.late ≡ []
  pub memory : t.memory ≡ false

-- the report of a run of n streams, of which so many frames are written at most, tells the tale
pub record IsReport (most : Option ℕ) (n : ℕ) (t : Tale) (r : Report) : Type 0 where
  pub wanted : r.wanted ≡ wanted_after most t
  pub ceased : r.ceased ≡ t.ceased
  pub sink_failed : r.sink_failed ≡ is_some t.cut
  pub memory : r.memory ≡ t.memory
  pub quiet : t.ceased ≡ false → IsQuiet most t
  pub ours : (k : ℕ) → HasCome t k → IsBegun t k
  pub hows : length r.streams.hows ≡ n
  pub unwritten : length r.streams.unwritten ≡ n
  pub accounts : (k : ℕ) → k < n → IsAccount t k (how_of r k) (has_lost r k)
