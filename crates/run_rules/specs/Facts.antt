-- Tests on names, places, ends and events, which compute on a list that is written out.
use Rattle.std.specs.Prelude.{◌≡◌, ◌⊎◌, ℕ, zero, suc, Bool, true, false, ◌&&◌, not, nat_eq, if◌then◌else◌, List, [], ◌∷◌, Option, Some, None, is_some}
use Rattle.std.specs.Str.{bytes_eq}
use Rattle.std.specs.List.{range_with_len, list_any as any}
use Rattle.chunk_core.specs.Lists.{IsAmong}
use Rattle.chunk_core.specs.declared.code.Code.{Code}
use Rattle.chunk_core.specs.declared.code.Exit.{Exit}
use Rattle.chunk_core.specs.declared.code.How.{How}
use Rattle.chunk_core.specs.declared.code.How.TheVariants as how
use Rattle.res_ledger.specs.declared.event.What.{What}
use Rattle.res_ledger.specs.declared.event.What.TheVariants.{Acquire, Lease, Close, Final}
use Rattle.res_ledger.specs.declared.event.Event.{Event}
use Rattle.res_ledger.specs.declared.event.StreamNo.{StreamNo}
use Rattle.res_ledger.specs.declared.event.StreamNo.TheVariants.{Inner}
use Rattle.res_ledger.specs.Ledger.{NotesCancel}
use Rattle.res_ledger.specs.Order.{same_exit}
use Rattle.res_ledger.specs.Streams.{same_stream, by_stream}
use Rattle.res_ledger.specs.Whole.{is_cancel}
use Rattle.device_port.specs.declared.device.Mode.{Mode}
use Rattle.device_port.specs.declared.device.Mode.TheVariants as mode
use Rattle.device_port.specs.Device.{Place}

abbrev pub is_mode : Mode → Mode → Bool
is_mode mode.Read mode.Read = true
is_mode mode.Write mode.Write = true
is_mode mode.Read mode.Write = false
is_mode mode.Write mode.Read = false

-- the same path, for the same mode
abbrev pub is_place : Place → Place → Bool
is_place p q = bytes_eq p.path q.path && is_mode p.mode q.mode

-- the element at a place, from 0
abbrev pub at : {A : Type 0} → List A → ℕ → Option A
at [] i = None
at (x ∷ xs) zero = Some x
at (x ∷ xs) (suc i) = at xs i

-- the number is there, and is n
abbrev pub holds_number : Option ℕ → ℕ → Bool
holds_number o n = elim o [ Some m ↦ nat_eq m n | None ↦ false ]

-- the numbers below n
abbrev pub first_numbers : ℕ → List ℕ
first_numbers n = range_with_len 0 n

abbrev pub is_fault : How → Bool
is_fault (how.Fault c) = true
is_fault how.Done = false
is_fault how.Halted = false
is_fault how.Memory = false

abbrev pub is_halted : How → Bool
is_halted how.Halted = true
is_halted (how.Fault c) = false
is_halted how.Done = false
is_halted how.Memory = false

abbrev pub is_memory : How → Bool
is_memory how.Memory = true
is_memory (how.Fault c) = false
is_memory how.Done = false
is_memory how.Halted = false

-- the stream ended by itself
abbrev pub is_over : How → Bool
is_over how.Done = true
is_over (how.Fault c) = true
is_over how.Halted = false
is_over how.Memory = false

-- a finalizer failed
abbrev pub is_failed : What → Bool
is_failed (Final r x ok) = not ok
is_failed w = false

-- the exit of a Close of the root
abbrev pub root_exit : What → Option Exit
root_exit (Close s x) = if nat_eq s 0 then Some x else None
root_exit w = None

abbrev pub is_root_close : What → Bool
is_root_close w = is_some (root_exit w)

-- the row that is acquired
abbrev pub acquired_row : What → Option ℕ
acquired_row (Acquire r s) = Some r
acquired_row w = None

-- the row whose finalizer failed
abbrev pub failed_row : What → Option ℕ
failed_row (Final r x ok) = if ok then None else Some r
failed_row w = None

-- the row whose finalizer was told this exit
abbrev pub ended_row : Exit → What → Option ℕ
ended_row x (Final r y ok) = if same_exit x y then Some r else None
ended_row x w = None

-- the stream that is leased for
abbrev pub leased_stream : What → Option ℕ
leased_stream (Lease j s) = Some j
leased_stream w = None

-- an event says so
abbrev pub has_event : (What → Bool) → List Event → Bool
has_event p L = any (λ e. p e.what) L

-- the stream noted an event
abbrev pub acts : StreamNo → List Event → Bool
acts k L = any (λ e. same_stream e.by k) L

-- the stream j cancelled its own lease, as each does that has ended
abbrev pub has_left : ℕ → List Event → Bool
has_left j L = has_event (is_cancel j) (by_stream (Inner j) L)

-- The same and more as facts.

-- the stream noted an event
abbrev pub Acts : StreamNo → List Event → Type 0
Acts k L = (e : Event) × IsAmong e L × (e.by ≡ k)

-- the stream j cancelled its own lease
abbrev pub HasLeft : ℕ → List Event → Type 0
HasLeft j L = NotesCancel L (Inner j) j

-- the stream failed
abbrev pub IsFailure : How → Type 0
IsFailure h = (c : Code) × (h ≡ how.Fault c)

-- the stream ended by itself
abbrev pub IsOver : How → Type 0
IsOver h = (h ≡ how.Done) ⊎ IsFailure h
