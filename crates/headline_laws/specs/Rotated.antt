-- Calls of rotate that are written out.
use Rattle.std.specs.Prelude.{ℕ, Bool, true, false, cond, List, [], ◌∷◌, map, Some, None, codes, ◌++◌}
use Rattle.std.specs.Str.{bytes_eq}
use Rattle.chunk_core.specs.declared.code.Exit.{Exit}
use Rattle.chunk_core.specs.declared.code.Exit.TheVariants.{Succeeded, Errored}
use Rattle.chunk_core.specs.declared.code.Code.TheVariants as code
use Rattle.chunk_core.specs.declared.code.How.{How}
use Rattle.chunk_core.specs.declared.code.How.TheVariants as how
use Rattle.device_port.specs.Device.{DeviceTold, to_write}
use Rattle.device_port.specs.Depot.{DepotTold, Files}
use Rattle.device_port.specs.Sink.{SinkTold}
use Rattle.res_ledger.specs.declared.event.Event.{Event}
use Rattle.run_rules.specs.Texts.{tail_text}
use Rattle.run_rules.specs.Work.{RunRecord}
use Rattle.rotate_rules.specs.Worked.{failed_open, late, two_files}
use Rattle.flume_cli.specs.declared.status.Status.{Status}
use Rattle.flume_cli.specs.declared.status.Status.TheVariants as status
use Rattle.flume_cli.specs.Headline.{Call}
use Rattle.headline_laws.specs.Calls.{a, closed_device, depot_before, end_of_0, file, no_input, output_of}

-- the content of each rotation
abbrev pub six : List ℕ
six = codes "abcdef"

-- the prefix of each rotation
abbrev pub p : List ℕ
p = codes "p"

-- a file that was opened: the number of its device, its path, what it was written, and the exit that it was closed with
abbrev pub piece_device : ℕ → List ℕ → List ℕ → Exit → DeviceTold
piece_device n path bytes exit = record {
  number = n;
  place = to_write path;
  present = Some false;
  content = Some [];
  at = 0;
  ended = false;
  written = Some bytes;
  is_open = false;
  opens = 1;
  closes = 1;
  exit = Some exit;
  open_faults = 0;
  read_faults = 0;
  write_faults = 0;
  close_faults = 0;
}

-- one that could not be opened
abbrev pub unopened_device : ℕ → List ℕ → DeviceTold
unopened_device n path = record (piece_device n path [] Succeeded) { opens = 0; closes = 0; exit = None; open_faults = 1 }

-- the first file holds these bytes
abbrev pub with_first : List ℕ → Files
with_first first path = cond (bytes_eq (codes "p.0") path) (Some first) (file a six path)

-- and so does the second
abbrev pub with_both : List ℕ → List ℕ → Files
with_both first second path = cond (bytes_eq (codes "p.1") path) (Some second) (with_first first path)

-- these devices were made and came back, and these files are there
abbrev pub rotated_depot : Files → List DeviceTold → DepotTold
rotated_depot files ds = record { files = Some files; made = map (λ d. d.place) ds; retired = ds }

-- the devices of two files, which were written this
abbrev pub two_devices : List ℕ → List ℕ → List DeviceTold
two_devices first second = closed_device six 6 true Succeeded 0 0 ∷ piece_device 1 (codes "p.0") first Succeeded ∷ piece_device 2 (codes "p.1") second Succeeded ∷ []

-- the second file could not be opened
abbrev pub failed_devices : List DeviceTold
failed_devices = closed_device six 6 false Errored 0 0 ∷ piece_device 1 (codes "p.0") (codes "abcd") Errored ∷ unopened_device 2 (codes "p.1") ∷ []

-- a run of one stream, of which nothing was printed
abbrev pub rotation_record : DepotTold → How → List Event → Bool → RunRecord
rotation_record new h L memory = record { depot_old = depot_before six; depot_new = new; ends = end_of_0 h ∷ []; events = L; frames = []; cut = None; rest = []; memory = memory }

-- what is printed of each ledger, behind the line of the end
abbrev pub two_text : List ℕ
two_text = codes "ledger 10\n0 acquire 0 0\n0 open 1 0\n0 acquire 1 1\n0 open 2 0\n0 acquire 2 2\n0 close 1 succeeded\n0 final 1 succeeded ok\n0 close 0 succeeded\n0 final 2 succeeded ok\n0 final 0 succeeded ok\n"

abbrev pub failed_text : List ℕ
failed_text = codes "ledger 6\n0 acquire 0 0\n0 open 1 0\n0 acquire 1 1\n0 close 0 errored\n0 final 1 errored ok\n0 final 0 errored ok\n"

-- rotate --bytes N a p, of a file of six bytes: N, what the depot came to, what was printed, the status, the end and the ledger
abbrev pub rotate_call : List ℕ → DepotTold → SinkTold → Status → How → List Event → Call
rotate_call n after out s h L = record {
  words = codes "rotate" ∷ codes "--bytes" ∷ n ∷ a ∷ p ∷ [];
  source_old = no_input;
  source_new = no_input;
  depot_old = depot_before six;
  depot_new = after;
  out_old = output_of [] 0;
  out_new = out;
  err_old = output_of [] 0;
  err_new = output_of [] 0;
  status = s;
  ends = end_of_0 h ∷ [];
  events = L;
}

-- two files hold four bytes and two
abbrev pub two_pieces : Call
two_pieces = rotate_call (codes "4") (rotated_depot (with_both (codes "abcd") (codes "ef")) (two_devices (codes "abcd") (codes "ef"))) (output_of (codes "end 0 done\n" ++ two_text) 0) status.Good how.Done two_files

-- the second one could not be opened
abbrev pub unopened_piece : Call
unopened_piece = rotate_call (codes "4") (rotated_depot (with_first (codes "abcd")) failed_devices) (output_of (codes "end 0 fault open\n" ++ failed_text) 0) status.Faulty (how.Fault code.Open) failed_open

-- With one thing wrong.

-- the last byte of the second file was lost
abbrev pub cut_piece : Call
cut_piece = record two_pieces { depot_new = rotated_depot (with_both (codes "abcd") (codes "e")) (two_devices (codes "abcd") (codes "e")) }

-- three files of two bytes, all of which are closed at the end alone
abbrev pub closed_at_the_end : Call
closed_at_the_end = rotate_call (codes "2") (rotated_depot (with_both (codes "ab") (codes "cd")) (two_devices (codes "ab") (codes "cd"))) (output_of (tail_text (end_of_0 how.Done ∷ []) late) 0) status.Good how.Done late

-- a file of six bytes is said to be too long
abbrev pub too_many_of_six : Call
too_many_of_six = record unopened_piece { out_new = output_of (codes "end 0 fault toomany\n" ++ failed_text) 0; ends = end_of_0 (how.Fault code.TooMany) ∷ [] }

-- it was halted
abbrev pub halted_rotation : Call
halted_rotation = record two_pieces { out_new = output_of (codes "end 0 halted\n" ++ two_text) 0; ends = end_of_0 how.Halted ∷ [] }

-- a write is said to have failed, and none has
abbrev pub unfailed_write : Call
unfailed_write = record unopened_piece { out_new = output_of (codes "end 0 fault write\n" ++ failed_text) 0; ends = end_of_0 (how.Fault code.Write) ∷ [] }

-- it is done, and what was open was told of an error
abbrev pub done_as_errored : Call
done_as_errored = record unopened_piece { out_new = output_of (codes "end 0 done\n" ++ failed_text) 0; status = status.Good; ends = end_of_0 how.Done ∷ [] }

-- what was copied is printed too
abbrev pub printed_too : Call
printed_too = record two_pieces { out_new = output_of (codes "0 6\nabcdef\n\nend 0 done\n" ++ two_text) 0 }
