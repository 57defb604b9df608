-- What a real file tells.
use Rattle.std.specs.Prelude.{ℕ, List, Option, None}
use Rattle.device_port.specs.Device.{DeviceTold}
use Rattle.device_port.specs.Stage.{is_open_at, times_opened, times_closed, exit_at, close_faults_of}
use Rattle.device_port.specs.declared.record.Stage.{Stage}
use Rattle.device_port.specs.declared.record.Stage.TheVariants as stage
use Rattle.device_port.specs.declared.file_device.FileState.{FileState}
use Rattle.device_port.specs.declared.file_device.FileState.TheVariants as held
use Rattle.device_port.specs.declared.file_device.FileDevice.{FileDevice}

-- how far the device has come
abbrev pub stage_of : {F : Type 0} → FileState F → Stage
stage_of held.Unopened = stage.Unopened
stage_of (held.Open file) = stage.Open
stage_of (held.Closed exit) = stage.Closed exit
stage_of (held.ClosedBadly exit) = stage.ClosedBadly exit

-- what the open file says of its bytes
abbrev pub bytes_in : {F : Type 0} → (F → Option (List ℕ)) → FileState F → Option (List ℕ)
bytes_in says (held.Open file) = says file
bytes_in says held.Unopened = None
bytes_in says (held.Closed exit) = None
bytes_in says (held.ClosedBadly exit) = None

-- its numbers, and no content
abbrev pub file_told : {R F : Type 0} → FileDevice R F → DeviceTold
file_told d = record {
  number = d.number;
  place = record { path = d.path; mode = d.mode };
  present = None;
  content = None;
  at = d.at;
  ended = d.ended;
  written = None;
  is_open = is_open_at (stage_of d.held);
  opens = times_opened (stage_of d.held);
  closes = times_closed (stage_of d.held);
  exit = exit_at (stage_of d.held);
  open_faults = d.open_faults;
  read_faults = d.read_faults;
  write_faults = d.write_faults;
  close_faults = close_faults_of (stage_of d.held);
}
