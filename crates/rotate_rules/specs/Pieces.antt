-- What a rotating output is given, and what it writes where.
use Rattle.std.specs.Prelude.{◌≡◌, ◌≢◌, ◌⊎◌, ◌↔◌, ◌<◌, ◌≤◌, ◌+◌, ◌*◌, ℕ, true, List, [], ◌∷◌, ◌++◌, length, take, drop, map, None, IfSome, codes, decimal}
use Rattle.chunk_core.specs.Outcomes.{End, Outcomes}
use Rattle.chunk_core.specs.Outcomes.End.{Done, Fault, Cut}
use Rattle.chunk_core.specs.declared.code.Code.TheVariants as code
use Rattle.device_port.specs.Device.{DeviceTold, Place, to_read, to_write}
use Rattle.run_rules.specs.Facts.{first_numbers}
use Rattle.run_rules.specs.Work.{Work}

-- piece i of xs, which has n bytes but for the last one
abbrev pub piece_of : ℕ → List ℕ → ℕ → List ℕ
piece_of n xs i = take n (drop (i * n) xs)

-- the most files
abbrev pub most_files : ℕ
most_files = 1024

-- the path of file i
abbrev pub file_name : List ℕ → ℕ → List ℕ
file_name prefix i = prefix ++ (codes "." ++ decimal i)

-- the path that is read is that of none of the files
abbrev pub IsApart : List ℕ → List ℕ → Type 0
IsApart path prefix = (i : ℕ) → i < most_files → path ≢ file_name prefix i

-- ys is a front of xs
abbrev pub IsFront : List ℕ → List ℕ → Type 0
IsFront ys xs = (more : List ℕ) × (xs ≡ ys ++ more)

-- what the last file was written: its piece, or where a write failed a front of it
abbrev pub IsLast : End → List ℕ → List ℕ → Type 0
IsLast (Fault code.Write) written piece = IsFront written piece
IsLast e written piece = written ≡ piece

-- all that the device d gave was written: so many bytes, and these, where its content is told
pub record IsAllRead (d : DeviceTold) (given : List ℕ) : Type 0 where
  pub count : length given ≡ d.at
  pub bytes : IfSome d.content (λ c. given ≡ take d.at c)

-- the device d came to its end, and all of its content was written
pub record IsWhole (d : DeviceTold) (given : List ℕ) : Type 0 where
  pub ended : d.ended ≡ true
  pub count : length given ≡ d.at
  pub bytes : IfSome d.content (λ c. given ≡ c)

-- as many bytes as the files hold were written, and there is a further one
pub record IsTooMuch (n : ℕ) (d : DeviceTold) (given : List ℕ) : Type 0 where
  pub count : length given ≡ most_files * n
  pub more : most_files * n < d.at
  pub bytes : IfSome d.content (λ c. (most_files * n < length c) × (given ≡ take (most_files * n) c))

-- what an end says of the device d that was read, of which these bytes were given to files
abbrev pub EndSays : ℕ → DeviceTold → List ℕ → End → Type 0
EndSays n d given Done = IsWhole d given
EndSays n d given (Fault code.Read) = IsAllRead d given
EndSays n d given (Fault code.TooMany) = IsTooMuch n d given
EndSays n d given (Fault code.Open) = Unit {0}
EndSays n d given (Fault code.Write) = Unit {0}
EndSays n d given (Fault _) = ⊥
EndSays n d given Cut = Unit {0}

-- Of the content of row 0 a front was given to files, of which there are as many as it has pieces. Each was opened and written its piece, but for the last one
-- where a write failed, and no other was opened.
pub record Rotated (n : ℕ) (w : ℕ → DeviceTold) (e : End) : Type 0 where
  pub given : List ℕ
  pub files : ℕ
  pub few : files ≤ most_files
  pub front : IfSome (w 0).content (λ c. IsFront given c)
  pub opened : (i : ℕ) → i < most_files → (i < files) ↔ ((w (1 + i)).opens ≡ 1)
  pub enough : (i : ℕ) → (i < files) ↔ (i * n < length given)
  pub whole : (i : ℕ) → i + 1 < files → IfSome (w (1 + i)).written (λ b. b ≡ piece_of n given i)
  pub last : (i : ℕ) → i + 1 ≡ files → IfSome (w (1 + i)).written (λ b. IsLast e b (piece_of n given i))
  pub says : EndSays n (w 0) given e

-- nothing is printed
abbrev pub RotatingRuns : ℕ → (ℕ → DeviceTold) → Outcomes
RotatingRuns n w ys e = (ys ≡ []) × Rotated n w e

-- where no act of a device fails, all is written, or there is more than the files hold
abbrev pub IdealRotatingRuns : ℕ → (ℕ → DeviceTold) → Outcomes
IdealRotatingRuns n w ys e = (ys ≡ []) × Rotated n w e × ((e ≡ Done) ⊎ (e ≡ Fault code.TooMany))

-- row 0 is read, and row 1 + i is file i
abbrev pub rotate_places : List ℕ → List ℕ → List Place
rotate_places path prefix = to_read path ∷ map (λ i. to_write (file_name prefix i)) (first_numbers most_files)

-- one stream, that copies a file into files of n bytes, each in a scope of its own
abbrev pub rotate_work : List ℕ → List ℕ → ℕ → Work
rotate_work path prefix n = record {
  opener = None;
  streams = record { places = rotate_places path prefix; scopes = most_files; until = None } ∷ [];
  runs = λ k v w. RotatingRuns n w;
  ideal_runs = λ k v w. IdealRotatingRuns n w;
  listing = λ d ys e. ⊥;
  ideal_listing = λ d ys e. ⊥;
}
