-- Runs of one file through steps.
use Rattle.std.specs.Prelude.{ℕ, Bool, true, false, List, [], ◌∷◌, ◌++◌, None, Some, codes}
use Rattle.chunk_core.specs.Elements.{Line, Row}
use Rattle.chunk_core.specs.Feed.{Given}
use Rattle.chunk_core.specs.Outcomes.{Outcomes, exit_of}
use Rattle.chunk_core.specs.Texts.{Frame}
use Rattle.chunk_core.specs.declared.code.Code.TheVariants as code
use Rattle.chunk_core.specs.declared.code.Exit.{Exit}
use Rattle.chunk_core.specs.declared.code.Exit.TheVariants.{Succeeded}
use Rattle.chunk_core.specs.declared.code.How.{How}
use Rattle.chunk_core.specs.declared.code.How.TheVariants as how
use Rattle.res_ledger.specs.declared.event.StreamNo.{StreamNo}
use Rattle.res_ledger.specs.declared.event.StreamNo.TheVariants.{Outer, Inner}
use Rattle.res_ledger.specs.declared.event.What.{What}
use Rattle.res_ledger.specs.declared.event.What.TheVariants.{Acquire, Lease, Cancel, Close, Final}
use Rattle.device_port.specs.Device.{DeviceTold, to_read}
use Rattle.pull_nodes.specs.PipeRule.{without_fault}
use Rattle.pull_nodes.specs.declared.pipe.Pipe.TheVariants as pipe
use Rattle.pull_nodes.specs.Runs.{Reads, ReadsWhole, Taken}
use Rattle.run_rules.specs.Work.{RunRecord, Work}
use Rattle.run_laws.specs.Streams.{Gathered, InFile, Leaves, ThroughPipe, file_stream, no_listing, opener, piped_work}
use Rattle.run_laws.specs.Written.{ends_of, frame, run_of, used_device}

abbrev pub path_a : List ℕ
path_a = codes "a"

-- the stream is leased for, acquires its file, and ends
abbrev pub file_events : Exit → List (StreamNo × What)
file_events exit = (Outer, Lease 0 0) ∷ (Outer, Close 0 Succeeded) ∷ (Inner 0, Acquire 0 0) ∷ (Inner 0, Close 0 exit) ∷ (Inner 0, Final 0 exit true) ∷ (Inner 0, Cancel 0 exit) ∷ []

-- the device of the file, which was read so far
abbrev pub file_device : List ℕ → ℕ → Bool → How → DeviceTold
file_device bytes at ended h = record (used_device 0 (to_read path_a) bytes (exit_of h)) { at = at; ended = ended }

-- a run of one file
abbrev pub file_run : List ℕ → ℕ → Bool → How → List Frame → RunRecord
file_run bytes at ended h frames = run_of ((path_a, bytes) ∷ []) ((path_a, bytes) ∷ []) (file_device bytes at ended h ∷ []) (ends_of how.Done (h ∷ [])) (file_events (exit_of h)) frames

-- one stream of one file, and what it may give
abbrev pub file_work : (DeviceTold → Outcomes) → (DeviceTold → Outcomes) → Work
file_work runs ideal = record { opener = Some (opener [] 4 None); streams = file_stream path_a ∷ []; runs = λ k v w. runs (w 0); ideal_runs = λ k v w. ideal (w 0); listing = no_listing; ideal_listing = no_listing }

-- a line end that two reads cut in two
abbrev pub cut_line_end : RunRecord
cut_line_end = file_run (codes "a\r\nb") 4 true how.Done (frame 0 (codes "a\n") ∷ frame 0 (codes "b\n") ∷ [])

abbrev pub cut_line_end_text : List ℕ
cut_line_end_text = codes "0 2\na\n\n0 2\nb\n\nend outer done\nend 0 done\nledger 6\nouter lease 0 0\nouter close 0 succeeded\n0 acquire 0 0\n0 close 0 succeeded\n0 final 0 succeeded ok\n0 cancel 0 succeeded\n"

abbrev pub lines_work : Work
lines_work = piped_work path_a (pipe.Lines ∷ [])

-- a character of three bytes
abbrev pub euro : List ℕ
euro = 226 ∷ 130 ∷ 172 ∷ []

abbrev pub utf8_work : Work
utf8_work = piped_work path_a (pipe.Utf8 ∷ [])

-- one that is whole, whose bytes came one by one
abbrev pub whole_character : RunRecord
whole_character = file_run euro 3 true how.Done (frame 0 euro ∷ [])

abbrev pub whole_character_text : List ℕ
whole_character_text = codes "0 3\n" ++ (euro ++ codes "\nend outer done\nend 0 done\nledger 6\nouter lease 0 0\nouter close 0 succeeded\n0 acquire 0 0\n0 close 0 succeeded\n0 final 0 succeeded ok\n0 cancel 0 succeeded\n")

-- one that the file's end cuts off
abbrev pub truncated_character : RunRecord
truncated_character = file_run (97 ∷ 226 ∷ 130 ∷ []) 3 true (how.Fault code.Truncated) (frame 0 path_a ∷ [])

abbrev pub truncated_character_text : List ℕ
truncated_character_text = codes "0 1\na\nend outer done\nend 0 fault truncated\nledger 6\nouter lease 0 0\nouter close 0 succeeded\n0 acquire 0 0\n0 close 0 errored\n0 final 0 errored ok\n0 cancel 0 errored\n"

-- a byte that no character has: no more is read
abbrev pub malformed_character : RunRecord
malformed_character = file_run (97 ∷ 255 ∷ []) 2 false (how.Fault code.Malformed) (frame 0 path_a ∷ [])

abbrev pub malformed_character_text : List ℕ
malformed_character_text = codes "0 1\na\nend outer done\nend 0 fault malformed\nledger 6\nouter lease 0 0\nouter close 0 succeeded\n0 acquire 0 0\n0 close 0 errored\n0 final 0 errored ok\n0 cancel 0 errored\n"

-- bytes that are no text, made text and then hexadecimal
abbrev pub lossy_hexadecimal : RunRecord
lossy_hexadecimal = file_run (97 ∷ 255 ∷ 226 ∷ 130 ∷ 98 ∷ []) 5 true how.Done (frame 0 (codes "61efbfbdefbfbd62\n") ∷ [])

abbrev pub lossy_hexadecimal_text : List ℕ
lossy_hexadecimal_text = codes "0 17\n61efbfbdefbfbd62\n\nend outer done\nend 0 done\nledger 6\nouter lease 0 0\nouter close 0 succeeded\n0 acquire 0 0\n0 close 0 succeeded\n0 final 0 succeeded ok\n0 cancel 0 succeeded\n"

abbrev pub lossy_hexadecimal_work : Work
lossy_hexadecimal_work = piped_work path_a (pipe.Lossy ∷ pipe.Hex ∷ [])

abbrev pub log_text : List ℕ
log_text = codes "INFO start\nERROR disk\nINFO x\nERROR net\n"

-- the errors of a log, numbered
abbrev pub filtered_log : RunRecord
filtered_log = file_run log_text 39 true how.Done (frame 0 (codes "0 ERROR disk\n1 ERROR net\n") ∷ [])

abbrev pub filtered_log_text : List ℕ
filtered_log_text = codes "0 25\n0 ERROR disk\n1 ERROR net\n\nend outer done\nend 0 done\nledger 6\nouter lease 0 0\nouter close 0 succeeded\n0 acquire 0 0\n0 close 0 succeeded\n0 final 0 succeeded ok\n0 cancel 0 succeeded\n"

abbrev pub filtered_log_work : Work
filtered_log_work = piped_work path_a (pipe.Utf8 ∷ pipe.Lines ∷ pipe.Filter (codes "ERROR") ∷ pipe.Number ∷ [])

-- a taker that has its two lines reads no further
abbrev pub taker_stops : RunRecord
taker_stops = file_run (codes "a\nb\n") 4 false how.Done (frame 0 (codes "a\nb\n") ∷ [])

abbrev pub taker_stops_text : List ℕ
taker_stops_text = codes "0 4\na\nb\n\nend outer done\nend 0 done\nledger 6\nouter lease 0 0\nouter close 0 succeeded\n0 acquire 0 0\n0 close 0 succeeded\n0 final 0 succeeded ok\n0 cancel 0 succeeded\n"

abbrev pub taker_stops_work : Work
taker_stops_work = file_work (λ d. InFile d (Taken 2 (Leaves (ThroughPipe (Leaves (Reads d)) pipe.Lines)))) (λ d. Taken 2 (ThroughPipe (ReadsWhole d) pipe.Lines))

-- a file whose records are gathered, and then this is given
abbrev pub gathered_work : Given → Work
gathered_work given = file_work (λ d. InFile d (Gathered (Leaves (Reads d)) given)) (λ d. Gathered (ReadsWhole d) given)

-- a field of a record with a line end in it
abbrev pub second_field : RunRecord
second_field = file_run (codes "\"a\nb\",c\n") 8 true how.Done (frame 0 (codes "c\n") ∷ [])

abbrev pub second_field_text : List ℕ
second_field_text = codes "0 2\nc\n\nend outer done\nend 0 done\nledger 6\nouter lease 0 0\nouter close 0 succeeded\n0 acquire 0 0\n0 close 0 succeeded\n0 final 0 succeeded ok\n0 cancel 0 succeeded\n"

abbrev pub second_field_work : Work
second_field_work = gathered_work (without_fault (Line (codes "c") ∷ []))

-- records of different lengths: those before the first other one come out
abbrev pub uneven_records : RunRecord
uneven_records = file_run (codes "a,b\nc\n") 6 true (how.Fault code.Uneven) (frame 0 (codes "a,b\n") ∷ [])

abbrev pub uneven_records_text : List ℕ
uneven_records_text = codes "0 4\na,b\n\nend outer done\nend 0 fault uneven\nledger 6\nouter lease 0 0\nouter close 0 succeeded\n0 acquire 0 0\n0 close 0 errored\n0 final 0 errored ok\n0 cancel 0 errored\n"

abbrev pub uneven_records_work : Work
uneven_records_work = gathered_work (record { list = Row (codes "a" ∷ codes "b" ∷ []) ∷ []; fault = Some code.Uneven })
