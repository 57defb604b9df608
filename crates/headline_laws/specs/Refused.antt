-- Calls with one thing wrong each.
use Rattle.std.specs.Prelude.{true, false, ℕ, List, [], ◌∷◌, None, codes}
use Rattle.chunk_core.specs.declared.code.Code.TheVariants as code
use Rattle.chunk_core.specs.declared.code.Exit.TheVariants.{Succeeded, Errored, Canceled}
use Rattle.chunk_core.specs.declared.code.How.{How}
use Rattle.chunk_core.specs.declared.code.How.TheVariants as how
use Rattle.res_ledger.specs.declared.event.StreamNo.TheVariants.{Inner}
use Rattle.res_ledger.specs.declared.event.What.TheVariants.{Acquire, Lease, Cancel, Close, Final}
use Rattle.res_ledger.specs.declared.event.Event.{Event}
use Rattle.device_port.specs.Device.{DeviceTold}
use Rattle.flume_cli.specs.declared.status.Status.TheVariants as status
use Rattle.flume_cli.specs.Headline.{Call}
use Rattle.headline_laws.specs.Calls.{event, closed_device, depot_before, depot_after, output_of, one_row_ledger, cat_call, file_call}

-- a depot that tells no content, no device made, and an output said to be whole
abbrev pub invented_output : Call
invented_output = cat_call (record { files = None; made = []; retired = [] }) (record { files = None; made = []; retired = [] })
    (output_of (codes "0 6\nhello\n\nend 0 done\nledger 1\n0 close 0 succeeded\n") 0) status.Good how.Done (event 0 (Inner 0) (Close 0 Succeeded) ∷ [])

-- a file that was read whole, with this device
abbrev pub hello_call : DeviceTold → List ℕ → How → List Event → Call
hello_call device text how L = file_call (codes "hello\n") device (output_of text 0) status.Good how L

-- its device, where nothing went wrong
abbrev pub whole_device : DeviceTold
whole_device = closed_device (codes "hello\n") 6 true Succeeded 0 0

-- what is printed where nothing went wrong
abbrev pub whole_text : List ℕ
whole_text = codes "0 6\nhello\n\nend 0 done\nledger 3\n0 acquire 0 0\n0 close 0 succeeded\n0 final 0 succeeded ok\n"

-- a file of twelve bytes, of which five were printed
abbrev pub cut_output : Call
cut_output = file_call (codes "hello world\n") (closed_device (codes "hello world\n") 12 true Succeeded 0 0)
    (output_of (codes "0 5\nhello\nend 0 done\nledger 3\n0 acquire 0 0\n0 close 0 succeeded\n0 final 0 succeeded ok\n") 0) status.Good how.Done (one_row_ledger Succeeded true)

-- a row of which no device was ever made
abbrev pub row_of_no_plan : Call
row_of_no_plan = hello_call whole_device (codes "0 6\nhello\n\nend 0 done\nledger 5\n0 acquire 0 0\n0 acquire 7 0\n0 close 0 succeeded\n0 final 7 succeeded ok\n0 final 0 succeeded ok\n") how.Done
    (event 0 (Inner 0) (Acquire 0 0) ∷ event 1 (Inner 0) (Acquire 7 0) ∷ event 2 (Inner 0) (Close 0 Succeeded) ∷ event 3 (Inner 0) (Final 7 Succeeded true) ∷ event 4 (Inner 0) (Final 0 Succeeded true) ∷ [])

-- an event of a stream that cat hasn't
abbrev pub event_of_no_stream : Call
event_of_no_stream = hello_call whole_device (codes "0 6\nhello\n\nend 0 done\nledger 4\n0 acquire 0 0\n0 close 0 succeeded\n0 final 0 succeeded ok\n5 close 0 succeeded\n") how.Done
    (event 0 (Inner 0) (Acquire 0 0) ∷ event 1 (Inner 0) (Close 0 Succeeded) ∷ event 2 (Inner 0) (Final 0 Succeeded true) ∷ event 3 (Inner 5) (Close 0 Succeeded) ∷ [])

-- a lease for a stream that cat hasn't
abbrev pub lease_of_no_stream : Call
lease_of_no_stream = hello_call whole_device (codes "0 6\nhello\n\nend 0 done\nledger 5\n0 lease 3 0\n0 cancel 3 succeeded\n0 acquire 0 0\n0 close 0 succeeded\n0 final 0 succeeded ok\n") how.Done
    (event 0 (Inner 0) (Lease 3 0) ∷ event 1 (Inner 0) (Cancel 3 Succeeded) ∷ event 2 (Inner 0) (Acquire 0 0) ∷ event 3 (Inner 0) (Close 0 Succeeded) ∷ event 4 (Inner 0) (Final 0 Succeeded true) ∷ [])

-- the device never came back
abbrev pub kept_device : Call
kept_device = cat_call (depot_before (codes "hello\n")) (depot_after (codes "hello\n") []) (output_of whole_text 0) status.Good how.Done (one_row_ledger Succeeded true)

-- status 0, though a write failed
abbrev pub failure_not_told : Call
failure_not_told = file_call (codes "hello\n") whole_device (output_of whole_text 1) status.Good how.Done (one_row_ledger Succeeded true)

-- nothing failed, and the stream was halted
abbrev pub halted_without_a_cause : Call
halted_without_a_cause = hello_call (closed_device (codes "hello\n") 6 true Canceled 0 0) (codes "0 6\nhello\n\nend 0 halted\nledger 3\n0 acquire 0 0\n0 close 0 canceled\n0 final 0 canceled ok\n") how.Halted (one_row_ledger Canceled true)

-- a row that is never finalized
abbrev pub call_with_row_without_a_final : Call
call_with_row_without_a_final = hello_call whole_device (codes "0 6\nhello\n\nend 0 done\nledger 2\n0 acquire 0 0\n0 close 0 succeeded\n") how.Done
    (event 0 (Inner 0) (Acquire 0 0) ∷ event 1 (Inner 0) (Close 0 Succeeded) ∷ [])

-- a row that is finalized before its scope is closed
abbrev pub call_with_final_before_close : Call
call_with_final_before_close = hello_call whole_device (codes "0 6\nhello\n\nend 0 done\nledger 3\n0 acquire 0 0\n0 final 0 succeeded ok\n0 close 0 succeeded\n") how.Done
    (event 0 (Inner 0) (Acquire 0 0) ∷ event 1 (Inner 0) (Final 0 Succeeded true) ∷ event 2 (Inner 0) (Close 0 Succeeded) ∷ [])

-- a device that was closed twice
abbrev pub closed_twice : Call
closed_twice = hello_call (record whole_device { closes = 2 }) whole_text how.Done (one_row_ledger Succeeded true)

-- a device that is still open
abbrev pub left_open : Call
left_open = hello_call (record whole_device { is_open = true; closes = 0; exit = None }) whole_text how.Done (one_row_ledger Succeeded true)

-- a read fault that no device counted
abbrev pub fault_without_a_fault : Call
fault_without_a_fault = file_call (codes "hello\n") (closed_device (codes "hello\n") 6 true Errored 0 0)
    (output_of (codes "0 6\nhello\n\nend 0 fault read\nledger 3\n0 acquire 0 0\n0 close 0 errored\n0 final 0 errored ok\n") 0) status.Faulty (how.Fault code.Read) (one_row_ledger Errored true)

-- a read that failed, and the stream is done all the same
abbrev pub failed_read_forgotten : Call
failed_read_forgotten = hello_call (closed_device (codes "hello\n") 6 true Succeeded 1 0) whole_text how.Done (one_row_ledger Succeeded true)

-- a stream that is done, and no read met the end
abbrev pub end_never_met : Call
end_never_met = hello_call (closed_device (codes "hello\n") 6 false Succeeded 0 0) whole_text how.Done (one_row_ledger Succeeded true)

-- a failed close that the ledger calls ok
abbrev pub failed_close_not_told : Call
failed_close_not_told = hello_call (closed_device (codes "hello\n") 6 true Succeeded 0 1) whole_text how.Done (one_row_ledger Succeeded true)

-- a file that was read whole, and everyone is told that it wasn't
abbrev pub done_told_as_errored : Call
done_told_as_errored = hello_call (closed_device (codes "hello\n") 6 true Errored 0 0) (codes "0 6\nhello\n\nend 0 done\nledger 3\n0 acquire 0 0\n0 close 0 errored\n0 final 0 errored ok\n") how.Done (one_row_ledger Errored true)

-- a read that failed, and everyone is told that the file was read whole
abbrev pub fault_told_as_succeeded : Call
fault_told_as_succeeded = file_call (codes "hello\n") (closed_device (codes "hello\n") 2 false Succeeded 1 0)
    (output_of (codes "0 2\nhe\nend 0 fault read\nledger 3\n0 acquire 0 0\n0 close 0 succeeded\n0 final 0 succeeded ok\n") 0) status.Faulty (how.Fault code.Read) (one_row_ledger Succeeded true)

-- an output that failed, and everyone is told that all was printed
abbrev pub halt_told_as_succeeded : Call
halt_told_as_succeeded = file_call (codes "hello\n") whole_device (output_of [] 1) status.NotWritten how.Halted (one_row_ledger Succeeded true)

-- a Final with another exit than its Close
abbrev pub final_unlike_its_close : Call
final_unlike_its_close = hello_call (closed_device (codes "hello\n") 6 true Canceled 0 0) (codes "0 6\nhello\n\nend 0 done\nledger 3\n0 acquire 0 0\n0 close 0 succeeded\n0 final 0 canceled ok\n") how.Done
    (event 0 (Inner 0) (Acquire 0 0) ∷ event 1 (Inner 0) (Close 0 Succeeded) ∷ event 2 (Inner 0) (Final 0 Canceled true) ∷ [])

-- a device that was closed with another exit than its Final has
abbrev pub device_told_otherwise : Call
device_told_otherwise = hello_call (closed_device (codes "hello\n") 6 true Errored 0 0) whole_text how.Done (one_row_ledger Succeeded true)

-- words that mean nothing, and nobody is told
abbrev pub silent_call : Call
silent_call = record (hello_call whole_device [] how.Done []) { words = codes "dog" ∷ []; depot_new = depot_before (codes "hello\n"); out_new = output_of [] 0; status = status.BadWords; ends = [] }
