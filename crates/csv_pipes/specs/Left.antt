-- The records that are left of a text.
use Rattle.std.specs.Prelude.{◌≡◌, ℕ, ◌+◌, Bool, true, false, List, [], ◌∷◌, length, Option, Some, None}
use Rattle.csv.specs.Machine.{ends_at_end}
use Rattle.csv.specs.Reading.{Ready, default_config, reader_config, reader_state, reader_trim, records_from, source_of}
use Rattle.csv.specs.declared.parser.State.{State}
use Rattle.csv.specs.declared.reader.Reader.{Reader}
use Rattle.csv.specs.declared.reader.Trim.TheVariants as trim
use Rattle.std.specs.declared.boxed.Box.{Box}
use Rattle.std.specs.declared.alloc.Global.{Global}

-- the records of the bytes, from a state
abbrev pub records_behind : State → Option (List ℕ) → List (List (List ℕ))
records_behind s None = []
records_behind s (Some xs) = records_from default_config (length xs + 1) s xs

module _ {R : Type 0} (remaining : R → Option (List ℕ)) where
  -- the records that a reader has still to give
  abbrev pub records_at : Reader R → List (List (List ℕ))
  records_at r = records_behind (reader_state r) (source_of remaining r)

  -- the reader stands between two records of bytes that are known, and gives each record as it stands
  pub record IsReading (r : Reader R) : Type 0 where
    pub plain : reader_trim r ≡ trim.None
    pub ready : Ready r
    pub config : reader_config r ≡ default_config
    pub between : ends_at_end (reader_state r) ≡ false
    pub known : (xs : List ℕ) × (source_of remaining r ≡ Some xs)

  -- none where there is no reader
  abbrev pub records_left : Option (Box (Reader R) Global) → List (List (List ℕ))
  records_left None = []
  records_left (Some b) = records_at b.value

-- the first of the records is taken, or there is none
abbrev pub TakesRecord : Bool → List (List (List ℕ)) → List (List ℕ) → List (List (List ℕ)) → Type 0
TakesRecord true old fields new = old ≡ fields ∷ new
TakesRecord false old fields new = old ≡ []
