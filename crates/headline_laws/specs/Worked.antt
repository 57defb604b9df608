-- Calls that went as they should.
use Rattle.std.specs.Prelude.{ℕ, Bool, true, false, [], ◌∷◌, Some, None, codes}
use Rattle.chunk_core.specs.declared.code.Code.TheVariants as code
use Rattle.chunk_core.specs.declared.code.Exit.{Exit}
use Rattle.chunk_core.specs.declared.code.Exit.TheVariants.{Succeeded, Errored, Canceled}
use Rattle.chunk_core.specs.declared.code.How.TheVariants as how
use Rattle.res_ledger.specs.declared.event.StreamNo.TheVariants.{Inner}
use Rattle.res_ledger.specs.declared.event.What.TheVariants.{Close}
use Rattle.device_port.specs.Device.{DeviceTold, to_read}
use Rattle.flume_cli.specs.declared.status.Status.TheVariants as status
use Rattle.flume_cli.specs.Headline.{Call}
use Rattle.headline_laws.specs.Calls.{a, event, closed_device, depot_before, output_of, one_row_ledger, cat_call, file_call}

abbrev pub hello_device : ℕ → Bool → Exit → ℕ → ℕ → DeviceTold
hello_device at ended exit read_faults close_faults = closed_device (codes "hello\n") at ended exit read_faults close_faults

-- a file of one line
abbrev pub whole_file : Call
whole_file = file_call (codes "hello\n") (hello_device 6 true Succeeded 0 0)
    (output_of (codes "0 6\nhello\n\nend 0 done\nledger 3\n0 acquire 0 0\n0 close 0 succeeded\n0 final 0 succeeded ok\n") 0) status.Good how.Done (one_row_ledger Succeeded true)

-- there was no memory to read the words
abbrev pub words_not_read : Call
words_not_read = record (cat_call (depot_before (codes "hello\n")) (depot_before (codes "hello\n")) (output_of [] 0) status.Memory how.Done []) { err_new = output_of (codes "flume: out of memory\n") 0; ends = [] }

-- a file of no bytes
abbrev pub empty_file : Call
empty_file = file_call [] (closed_device [] 0 true Succeeded 0 0)
    (output_of (codes "end 0 done\nledger 3\n0 acquire 0 0\n0 close 0 succeeded\n0 final 0 succeeded ok\n") 0) status.Good how.Done (one_row_ledger Succeeded true)

-- the device of a path that isn't there
abbrev pub missing_device : DeviceTold
missing_device = record {
  number = 0;
  place = to_read a;
  present = Some false;
  content = Some [];
  at = 0;
  ended = false;
  written = Some [];
  is_open = false;
  opens = 0;
  closes = 0;
  exit = None;
  open_faults = 1;
  read_faults = 0;
  write_faults = 0;
  close_faults = 0;
}

-- a path that isn't there
abbrev pub missing_file : Call
missing_file = cat_call (record { files = Some (λ p. None); made = []; retired = [] }) (record { files = Some (λ p. None); made = to_read a ∷ []; retired = missing_device ∷ [] })
    (output_of (codes "end 0 fault open\nledger 1\n0 close 0 errored\n") 0) status.Faulty (how.Fault code.Open) (event 0 (Inner 0) (Close 0 Errored) ∷ [])

-- a read that failed when two bytes were printed
abbrev pub read_fault : Call
read_fault = file_call (codes "hello\n") (hello_device 2 false Errored 1 0)
    (output_of (codes "0 2\nhe\nend 0 fault read\nledger 3\n0 acquire 0 0\n0 close 0 errored\n0 final 0 errored ok\n") 0) status.Faulty (how.Fault code.Read) (one_row_ledger Errored true)

-- a close that failed
abbrev pub failed_close : Call
failed_close = file_call (codes "hello\n") (hello_device 6 true Succeeded 0 1)
    (output_of (codes "0 6\nhello\n\nend 0 done\nledger 3\n0 acquire 0 0\n0 close 0 succeeded\n0 final 0 succeeded fault\n") 0) status.Unclean how.Done (one_row_ledger Succeeded false)

-- an output whose first write failed
abbrev pub failed_write : Call
failed_write = file_call (codes "hello\n") (hello_device 6 false Canceled 0 0) (output_of [] 1) status.NotWritten how.Halted (one_row_ledger Canceled true)
