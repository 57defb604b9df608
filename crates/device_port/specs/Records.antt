-- What a record of a memory device tells.
use Rattle.std.specs.Prelude.{Some}
use Rattle.device_port.specs.Device.{DeviceTold}
use Rattle.device_port.specs.Stage.{is_open_at, times_opened, times_closed, exit_at, close_faults_of}
use Rattle.device_port.specs.declared.record.Record.{Record}

-- its number, place, contents, state and counts
abbrev pub record_told : Record → DeviceTold
record_told r = record {
  number = r.number;
  place = record { path = r.path; mode = r.mode };
  present = Some r.present;
  content = Some r.content.items;
  at = r.at;
  ended = r.ended;
  written = Some r.written.items;
  is_open = is_open_at r.stage;
  opens = times_opened r.stage;
  closes = times_closed r.stage;
  exit = exit_at r.stage;
  open_faults = r.open_faults;
  read_faults = r.read_faults;
  write_faults = r.write_faults;
  close_faults = close_faults_of r.stage;
}
