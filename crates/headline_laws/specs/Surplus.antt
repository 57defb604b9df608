-- Calls that do more than they may.
use Rattle.std.specs.Prelude.{true, false, ℕ, [], ◌∷◌, Some, codes}
use Rattle.chunk_core.specs.declared.code.Exit.TheVariants.{Succeeded, Canceled}
use Rattle.chunk_core.specs.declared.code.How.TheVariants as how
use Rattle.res_ledger.specs.declared.event.StreamNo.TheVariants.{Inner}
use Rattle.res_ledger.specs.declared.event.What.TheVariants.{Open, Acquire, Close, Final}
use Rattle.device_port.specs.Device.{Place, DeviceTold, to_read, to_write}
use Rattle.device_port.specs.Sink.{SinkTold}
use Rattle.flume_cli.specs.declared.status.Status.TheVariants as status
use Rattle.flume_cli.specs.Headline.{Call}
use Rattle.headline_laws.specs.Calls.{a, event, file, closed_device, depot_after, depot_before, output_of, one_row_ledger, cat_call, file_call}
use Rattle.headline_laws.specs.Refused.{whole_device, whole_text}
use Rattle.headline_laws.specs.Worked.{missing_device}

-- a device that was made for the place and given back as it came
abbrev pub idle_device_at : ℕ → Place → DeviceTold
idle_device_at n place = record missing_device { number = n; place = place; open_faults = 0 }

-- two devices more were made, one of them for writing, and given back unopened
abbrev pub idle_devices : Call
idle_devices = cat_call (depot_before (codes "hello\n"))
    (record { files = Some (file a (codes "hello\n")); made = to_read a ∷ to_write (codes "b") ∷ to_read (codes "c") ∷ []; retired = whole_device ∷ idle_device_at 1 (to_write (codes "b")) ∷ idle_device_at 2 (to_read (codes "c")) ∷ [] })
    (output_of whole_text 0) status.Good how.Done (one_row_ledger Succeeded true)

-- opening failed, another device was made for the path, and nobody is told
abbrev pub opened_again : Call
opened_again = cat_call (depot_before (codes "hello\n"))
    (record { files = Some (file a (codes "hello\n")); made = to_read a ∷ to_read a ∷ []; retired = missing_device ∷ record whole_device { number = 1 } ∷ [] })
    (output_of whole_text 0) status.Good how.Done (one_row_ledger Succeeded true)

-- scopes that cat hasn't
abbrev pub invented_scopes : Call
invented_scopes = file_call (codes "hello\n") whole_device
    (output_of (codes "0 6\nhello\n\nend 0 done\nledger 6\n0 open 7 0\n0 acquire 0 7\n0 open 9 7\n0 close 7 succeeded\n0 final 0 succeeded ok\n0 close 0 succeeded\n") 0) status.Good how.Done
    (event 0 (Inner 0) (Open 7 0) ∷ event 1 (Inner 0) (Acquire 0 7) ∷ event 2 (Inner 0) (Open 9 7) ∷ event 3 (Inner 0) (Close 7 Succeeded) ∷ event 4 (Inner 0) (Final 0 Succeeded true) ∷ event 5 (Inner 0) (Close 0 Succeeded) ∷ [])

-- the first write failed, and another was made behind it
abbrev pub writes_on : Call
writes_on = file_call (codes "hello\n") (closed_device (codes "hello\n") 6 true Canceled 0 0) (output_of (codes "end 0 halted\n") 1) status.NotWritten how.Halted (one_row_ledger Canceled true)

-- all was printed, a write of the tail failed, and the stream is said to be halted
abbrev pub halted_by_the_tail : Call
halted_by_the_tail = file_call (codes "hello\n") (closed_device (codes "hello\n") 6 true Canceled 0 0) (output_of (codes "0 6\nhello\n\n") 1) status.NotWritten how.Halted (one_row_ledger Canceled true)

-- the line that tells of the status
abbrev pub told_of_memory : SinkTold
told_of_memory = output_of (codes "flume: out of memory\n") 0

-- everything was done and printed to the last byte, and memory is said to have been wanting
abbrev pub memory_at_the_end : Call
memory_at_the_end = record (file_call (codes "hello\n") whole_device (output_of whole_text 0) status.Memory how.Done (one_row_ledger Succeeded true)) { err_new = told_of_memory }

-- a part of the file was printed, and behind it an end and a ledger, and memory is said to have been wanting
abbrev pub halted_for_memory : Call
halted_for_memory = record (file_call (codes "hello\n") (closed_device (codes "hello\n") 6 true Canceled 0 0)
    (output_of (codes "0 2\nhe\nend 0 halted\nledger 3\n0 acquire 0 0\n0 close 0 canceled\n0 final 0 canceled ok\n") 0) status.Memory how.Halted (one_row_ledger Canceled true)) { err_new = told_of_memory }

-- a read failed behind the two bytes that were printed, and memory is said to have been wanting
abbrev pub failed_read_told_as_memory : Call
failed_read_told_as_memory = record (file_call (codes "hello\n") (closed_device (codes "hello\n") 2 false Canceled 1 0) (output_of (codes "0 2\nhe\n") 0) status.Memory how.Memory (one_row_ledger Canceled true)) { err_new = told_of_memory }

-- at most four bytes a frame are asked for, and six are printed in one
abbrev pub larger_frame : Call
larger_frame = record (file_call (codes "hello\n") whole_device (output_of whole_text 0) status.Good how.Done (one_row_ledger Succeeded true)) { words = codes "cat" ∷ codes "--chunk" ∷ codes "4" ∷ a ∷ [] }

-- the words mean nothing, there is said to have been no memory to read them, and a device was made
abbrev pub made_without_words : Call
made_without_words = record (cat_call (depot_before (codes "hello\n")) (depot_after (codes "hello\n") (idle_device_at 0 (to_read a) ∷ [])) (output_of [] 0) status.Memory how.Done []) { words = codes "dog" ∷ []; err_new = told_of_memory; ends = [] }
