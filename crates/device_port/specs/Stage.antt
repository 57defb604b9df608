-- How far a device has come, as numbers.
use Rattle.std.specs.Prelude.{◌≡◌, ℕ, Bool, true, false, Option, None, Some, refl, unwrap_or}
use Rattle.std.proofs.Common.{ap}
use Rattle.std.proofs.lemmas.Bool.{false≢true}
use Rattle.std.proofs.Math.Nat.{suc-ne-zero}
use Rattle.std.proofs.lemmas.Option.{none-some}
use Rattle.chunk_core.specs.declared.code.Exit.{Exit}
use Rattle.device_port.specs.declared.device.Mode.{Mode}
use Rattle.device_port.specs.declared.device.Mode.TheVariants as mode
use Rattle.device_port.specs.declared.record.Stage.{Stage}
use Rattle.device_port.specs.declared.record.Stage.TheVariants as stage

-- opened and not yet closed
abbrev pub is_open_at : Stage → Bool
is_open_at stage.Unopened = false
is_open_at stage.Open = true
is_open_at (stage.Closed exit) = false
is_open_at (stage.ClosedBadly exit) = false

-- how often it was opened
abbrev pub times_opened : Stage → ℕ
times_opened stage.Unopened = 0
times_opened stage.Open = 1
times_opened (stage.Closed exit) = 1
times_opened (stage.ClosedBadly exit) = 1

-- how often it was closed
abbrev pub times_closed : Stage → ℕ
times_closed stage.Unopened = 0
times_closed stage.Open = 0
times_closed (stage.Closed exit) = 1
times_closed (stage.ClosedBadly exit) = 1

-- how what used it ended, where it was closed
abbrev pub exit_at : Stage → Option Exit
exit_at stage.Unopened = None
exit_at stage.Open = None
exit_at (stage.Closed exit) = Some exit
exit_at (stage.ClosedBadly exit) = Some exit

-- how often closing it failed
abbrev pub close_faults_of : Stage → ℕ
close_faults_of stage.Unopened = 0
close_faults_of stage.Open = 0
close_faults_of (stage.Closed exit) = 0
close_faults_of (stage.ClosedBadly exit) = 1

-- an open device was opened once and never closed
pub open_once_at : (s : Stage) → is_open_at s ≡ true → (times_opened s ≡ 1) × (times_closed s ≡ 0) × (close_faults_of s ≡ 0)
open_once_at stage.Unopened h = absurd (false≢true h)
open_once_at stage.Open h = (refl, refl, refl)
open_once_at (stage.Closed exit) h = absurd (false≢true h)
open_once_at (stage.ClosedBadly exit) h = absurd (false≢true h)

-- never closed, so without an exit
pub no_exit_at : (s : Stage) → times_closed s ≡ 0 → exit_at s ≡ None
no_exit_at stage.Unopened h = refl
no_exit_at stage.Open h = refl
no_exit_at (stage.Closed exit) h = absurd (suc-ne-zero 0 h)
no_exit_at (stage.ClosedBadly exit) h = absurd (suc-ne-zero 0 h)

-- a device that tells whether its path was there
pub no_open_at : (m : Mode) (present : Bool) (s : Stage) → (m ≡ mode.Read → present ≡ false → times_opened s ≡ 0) → m ≡ mode.Read → Some present ≡ Some false → times_opened s ≡ 0
no_open_at m present s h is_read gone = h is_read (ap (λ o. unwrap_or o true) gone)

-- a device that doesn't
pub no_open_untold : (m : Mode) (s : Stage) → m ≡ mode.Read → None ≡ Some false → times_opened s ≡ 0
no_open_untold m s is_read gone = absurd (none-some false gone)
