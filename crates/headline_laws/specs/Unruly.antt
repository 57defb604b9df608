-- Calls with devices, files or streams that do as none does.
use Rattle.std.specs.Prelude.{ℕ, true, false, cond, List, [], ◌∷◌, Option, Some, None, codes}
use Rattle.std.specs.Str.{bytes_eq}
use Rattle.chunk_core.specs.declared.code.Exit.TheVariants.{Succeeded, Canceled}
use Rattle.chunk_core.specs.declared.code.How.TheVariants as how
use Rattle.res_ledger.specs.declared.event.StreamNo.TheVariants.{Inner, Outer}
use Rattle.res_ledger.specs.declared.event.What.TheVariants.{Acquire, Lease, Cancel, Close, Final}
use Rattle.res_ledger.specs.declared.event.Event.{Event}
use Rattle.device_port.specs.Depot.{Files}
use Rattle.device_port.specs.Device.{DeviceTold, to_read}
use Rattle.flume_cli.specs.declared.status.Status.TheVariants as status
use Rattle.flume_cli.specs.Headline.{Call}
use Rattle.headline_laws.specs.Calls.{a, event, closed_device, depot_before, depot_after, end_of_0, no_input, output_of, one_row_ledger, cat_call, file_call}
use Rattle.headline_laws.specs.Described.{source_of}
use Rattle.headline_laws.specs.Surplus.{idle_device_at, told_of_memory}
use Rattle.headline_laws.specs.Worked.{missing_device}

-- the file was opened and closed twice, and no row tells of that
abbrev pub opened_twice : Call
opened_twice = record (cat_call (depot_before (codes "hello\n")) (depot_after (codes "hello\n") (record (idle_device_at 0 (to_read a)) { present = Some true; content = Some (codes "hello\n"); opens = 2; closes = 2 } ∷ []))
    (output_of [] 0) status.Memory how.Memory (event 0 (Inner 0) (Close 0 Canceled) ∷ [])) { err_new = told_of_memory }

-- the path isn't there, and was opened and read all the same
abbrev pub opened_though_missing : Call
opened_though_missing =
    cat_call (record { files = Some (λ p. None); made = []; retired = [] }) (record { files = Some (λ p. None); made = to_read a ∷ []; retired = record missing_device { ended = true; opens = 1; closes = 1; exit = Some Succeeded; open_faults = 0 } ∷ [] })
    (output_of (codes "end 0 done\nledger 3\n0 acquire 0 0\n0 close 0 succeeded\n0 final 0 succeeded ok\n") 0) status.Good how.Done (one_row_ledger Succeeded true)

-- the first write failed, and seven bytes of a file of six had been read
abbrev pub read_beyond_the_end : Call
read_beyond_the_end = file_call (codes "hello\n") (closed_device (codes "hello\n") 7 false Canceled 0 0) (output_of [] 1) status.NotWritten how.Halted (one_row_ledger Canceled true)

-- the path of another file
abbrev pub b : List ℕ
b = codes "b"

-- the files a and b
abbrev pub two_files : List ℕ → List ℕ → Option Files
two_files of_a of_b = Some (λ p. cond (bytes_eq a p) (Some of_a) (cond (bytes_eq b p) (Some of_b) None))

-- memory was wanting before the stream was begun, and the file that it was to write is empty, though nobody opened it
abbrev pub emptied_unopened : Call
emptied_unopened = record {
  words = codes "run" ∷ [];
  source_old = source_of (codes "[[stream]]\npath = 'a'\nto = 'b'\n") 0;
  source_new = no_input;
  depot_old = record { files = two_files (codes "hello\n") (codes "kept\n"); made = []; retired = [] };
  depot_new = record { files = two_files (codes "hello\n") []; made = []; retired = [] };
  out_old = output_of [] 0;
  out_new = output_of [] 0;
  err_old = output_of [] 0;
  err_new = told_of_memory;
  status = status.Memory;
  ends = record { who = Outer; how = how.Memory } ∷ end_of_0 how.Halted ∷ [];
  events = event 0 Outer (Close 0 Canceled) ∷ [];
}

-- of two streams, of which one may be open at a time, the second was begun first
abbrev pub second_first_ledger : List Event
second_first_ledger =
    event 0 Outer (Lease 0 0) ∷ event 1 Outer (Lease 1 0) ∷ event 2 Outer (Close 0 Succeeded) ∷ event 3 (Inner 1) (Acquire 1 0) ∷ event 4 (Inner 1) (Close 0 Succeeded) ∷ event 5 (Inner 1) (Final 1 Succeeded true) ∷ event 6 (Inner 1) (Cancel 1 Succeeded)
    ∷ event 7 (Inner 0) (Acquire 0 0) ∷ event 8 (Inner 0) (Close 0 Succeeded) ∷ event 9 (Inner 0) (Final 0 Succeeded true) ∷ event 10 (Inner 0) (Cancel 0 Succeeded) ∷ []

-- its device, which was made first, and that of the first stream
abbrev pub two_devices : List DeviceTold
two_devices = record (closed_device (codes "y\n") 2 true Succeeded 0 0) { place = to_read b } ∷ record (closed_device (codes "x\n") 2 true Succeeded 0 0) { number = 1 } ∷ []

-- all went well, but that the frame of the second stream stands before that of the first
abbrev pub out_of_turn : Call
out_of_turn = record {
  words = codes "run" ∷ codes "--max-open" ∷ codes "1" ∷ [];
  source_old = source_of (codes "[[stream]]\npath = 'a'\n[[stream]]\npath = 'b'\n") 0;
  source_new = no_input;
  depot_old = record { files = two_files (codes "x\n") (codes "y\n"); made = []; retired = [] };
  depot_new = record { files = two_files (codes "x\n") (codes "y\n"); made = to_read b ∷ to_read a ∷ []; retired = two_devices };
  out_old = output_of [] 0;
  out_new = output_of (codes "1 2\ny\n\n0 2\nx\n\nend outer done\nend 0 done\nend 1 done\nledger 11\nouter lease 0 0\nouter lease 1 0\nouter close 0 succeeded\n1 acquire 1 0\n1 close 0 succeeded\n1 final 1 succeeded ok\n1 cancel 1 succeeded\n0 acquire 0 0\n0 close 0 succeeded\n0 final 0 succeeded ok\n0 cancel 0 succeeded\n") 0;
  err_old = output_of [] 0;
  err_new = output_of [] 0;
  status = status.Good;
  ends = record { who = Outer; how = how.Done } ∷ end_of_0 how.Done ∷ record { who = Inner 1; how = how.Done } ∷ [];
  events = second_first_ledger;
}
