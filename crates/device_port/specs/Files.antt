-- The files of a depot in memory.
use Rattle.std.specs.Prelude.{◌≡◌, ℕ, Bool, cond, ◌&&◌, nat_eq, List, reverse, find, Option, None, Some, option_map}
use Rattle.std.specs.Str.{bytes_eq}
use Rattle.device_port.specs.Device.{Place, is_write}
use Rattle.device_port.specs.Stage.{times_opened}
use Rattle.device_port.specs.declared.record.Record.{Record}
use Rattle.device_port.specs.declared.files.FileOf.{FileOf}
use Rattle.device_port.specs.declared.files.PlaceOf.{PlaceOf}

-- a device that was opened for writing at the path
abbrev pub wrote : List ℕ → Record → Bool
wrote path r = is_write r.mode && (nat_eq (times_opened r.stage) 1 && bytes_eq r.path path)

-- the first, or else the second
abbrev pub or_else : Option (List ℕ) → Option (List ℕ) → Option (List ℕ)
or_else (Some x) y = Some x
or_else None y = y

-- the bytes at a path: what came back last, or else those of the first file
abbrev pub bytes_at : List FileOf → List Record → List ℕ → Option (List ℕ)
bytes_at files records path =
    or_else (option_map (λ r. r.written.items) (find (wrote path) (reverse records))) (option_map (λ f. f.bytes) (find (λ f. bytes_eq f.path path) files))

-- the path and the mode
abbrev pub place_of : PlaceOf → Place
place_of p = record { path = p.path; mode = p.mode }

-- what a record wrote are the bytes of its path now, and each other path is as before
abbrev pub Stores : List FileOf → List Record → List Record → Record → Type 0
Stores files old new r = (path : List ℕ) → bytes_at files new path ≡ cond (wrote path r) (Some r.written.items) (bytes_at files old path)
