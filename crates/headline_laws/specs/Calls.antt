-- Calls of cat that are written out.
use Rattle.std.specs.Prelude.{ℕ, Bool, true, false, cond, List, [], ◌∷◌, Option, Some, None, codes}
use Rattle.std.specs.Str.{bytes_eq}
use Rattle.chunk_core.specs.declared.code.Exit.{Exit}
use Rattle.chunk_core.specs.declared.code.How.{How}
use Rattle.res_ledger.specs.declared.event.StreamNo.{StreamNo}
use Rattle.res_ledger.specs.declared.event.StreamNo.TheVariants.{Inner}
use Rattle.res_ledger.specs.declared.event.What.{What}
use Rattle.res_ledger.specs.declared.event.What.TheVariants.{Acquire, Close, Final}
use Rattle.res_ledger.specs.declared.event.Event.{Event}
use Rattle.device_port.specs.Device.{DeviceTold, to_read}
use Rattle.device_port.specs.Depot.{DepotTold}
use Rattle.device_port.specs.Sink.{SinkTold}
use Rattle.device_port.specs.Source.{SourceTold}
use Rattle.run_rules.specs.declared.end.EndOf.{EndOf}
use Rattle.flume_cli.specs.declared.status.Status.{Status}
use Rattle.flume_cli.specs.Headline.{Call}

-- one file
abbrev pub file : List ℕ → List ℕ → List ℕ → Option (List ℕ)
file path bytes p = cond (bytes_eq path p) (Some bytes) None

abbrev pub event : ℕ → StreamNo → What → Event
event n k w = record { stamp = n; by = k; what = w }

abbrev pub end_of_0 : How → EndOf
end_of_0 h = record { who = Inner 0; how = h }

-- the path of each call
abbrev pub a : List ℕ
a = codes "a"

-- the device of the file a: what it has, how far it was read and whether to its end, the exit that it was closed with, and how often a read and its close failed
abbrev pub closed_device : List ℕ → ℕ → Bool → Exit → ℕ → ℕ → DeviceTold
closed_device bytes at ended exit read_faults close_faults = record {
  number = 0;
  place = to_read a;
  present = Some true;
  content = Some bytes;
  at = at;
  ended = ended;
  written = Some [];
  is_open = false;
  opens = 1;
  closes = 1;
  exit = Some exit;
  open_faults = 0;
  read_faults = read_faults;
  write_faults = 0;
  close_faults = close_faults;
}

-- a depot that tells one file, and had made nothing before
abbrev pub depot_before : List ℕ → DepotTold
depot_before bytes = record { files = Some (file a bytes); made = []; retired = [] }

-- one device was made, and these came back
abbrev pub depot_after : List ℕ → List DeviceTold → DepotTold
depot_after bytes ds = record { files = Some (file a bytes); made = to_read a ∷ []; retired = ds }

abbrev pub output_of : List ℕ → ℕ → SinkTold
output_of bytes faults = record { written = Some bytes; faults = faults }

-- a source that was read to its end
abbrev pub no_input : SourceTold
no_input = record { left = Some []; ended = true; faults = 0 }

-- a row was acquired, closed and finalized, with this exit
abbrev pub one_row_ledger : Exit → Bool → List Event
one_row_ledger exit ok = event 0 (Inner 0) (Acquire 0 0) ∷ event 1 (Inner 0) (Close 0 exit) ∷ event 2 (Inner 0) (Final 0 exit ok) ∷ []

-- cat a
abbrev pub cat_call : DepotTold → DepotTold → SinkTold → Status → How → List Event → Call
cat_call before after out s how L = record {
  words = codes "cat" ∷ a ∷ [];
  source_old = no_input;
  source_new = no_input;
  depot_old = before;
  depot_new = after;
  out_old = output_of [] 0;
  out_new = out;
  err_old = output_of [] 0;
  err_new = output_of [] 0;
  status = s;
  ends = end_of_0 how ∷ [];
  events = L;
}

-- cat a, where a was opened and closed
abbrev pub file_call : List ℕ → DeviceTold → SinkTold → Status → How → List Event → Call
file_call bytes device out s how L = cat_call (depot_before bytes) (depot_after bytes (device ∷ [])) out s how L
