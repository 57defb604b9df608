-- Calls of gen that are written out.
use Rattle.std.specs.Prelude.{ℕ, true, List, [], ◌∷◌, codes}
use Rattle.chunk_core.specs.declared.code.Code.TheVariants as code
use Rattle.chunk_core.specs.declared.code.Exit.TheVariants.{Succeeded}
use Rattle.chunk_core.specs.declared.code.How.{How}
use Rattle.chunk_core.specs.declared.code.How.TheVariants as how
use Rattle.res_ledger.specs.declared.event.StreamNo.TheVariants.{Inner, Outer}
use Rattle.res_ledger.specs.declared.event.What.TheVariants.{Acquire, Lease, Cancel, Close, Final}
use Rattle.res_ledger.specs.declared.event.Event.{Event}
use Rattle.device_port.specs.Sink.{SinkTold}
use Rattle.device_port.specs.Device.{to_read}
use Rattle.run_rules.specs.declared.end.EndOf.{EndOf}
use Rattle.flume_cli.specs.declared.status.Status.{Status}
use Rattle.flume_cli.specs.declared.status.Status.TheVariants as status
use Rattle.flume_cli.specs.Headline.{Call}
use Rattle.headline_laws.specs.Calls.{a, depot_before, end_of_0, event, no_input, output_of}
use Rattle.headline_laws.specs.Described.{source_of}

-- gen 0 1 3
abbrev pub gen_words : List (List ℕ)
gen_words = codes "gen" ∷ codes "0" ∷ codes "1" ∷ codes "3" ∷ []

-- gen 0 1 3, beside a depot of one file: what came to stand in the output, what standard error was told, and the report
abbrev pub gen_call : SinkTold → Status → List ℕ → List EndOf → List Event → Call
gen_call out s line ends L = record {
  words = gen_words;
  source_old = no_input;
  source_new = no_input;
  depot_old = depot_before (codes "hello\n");
  depot_new = depot_before (codes "hello\n");
  out_old = output_of [] 0;
  out_new = out;
  err_old = output_of [] 0;
  err_new = output_of line 0;
  status = s;
  ends = ends;
  events = L;
}

-- there was no memory to make the case
abbrev pub case_not_made : Call
case_not_made = gen_call (output_of [] 0) status.Memory (codes "flume: out of memory\n") [] []

-- the ends of the outer stream, which is done, and of stream 0
abbrev pub ends_with : How → List EndOf
ends_with h = record { who = Outer; how = how.Done } ∷ end_of_0 h ∷ []

-- the outer stream read the table, and stream 0 its file
abbrev pub case_ledger : List Event
case_ledger =
    event 0 Outer (Acquire 0 0) ∷ event 1 Outer (Lease 0 0) ∷ event 2 Outer (Close 0 Succeeded) ∷ event 3 (Inner 0) (Acquire 1 0) ∷ event 4 (Inner 0) (Close 0 Succeeded) ∷ event 5 (Inner 0) (Final 1 Succeeded true)
    ∷ event 6 (Inner 0) (Cancel 0 Succeeded) ∷ event 7 (Inner 0) (Final 0 Succeeded true) ∷ []

-- its summary
abbrev pub case_summary : List ℕ
case_summary = codes "gen 0 1 3\nframes 1\nbytes 18\ndigits 56\nacquire 2\nlease 1\ncancel 1\nclose 2\nfinal 2\n"

-- all went well, and this was printed
abbrev pub summed : List ℕ → Call
summed text = gen_call (output_of text 0) status.Good [] (ends_with how.Done) case_ledger

-- With one thing wrong.

-- the summary of the case of another seed
abbrev pub summary_of_another_seed : Call
summary_of_another_seed = summed (codes "gen 1 1 3\nframes 1\nbytes 18\ndigits 56\nacquire 2\nlease 1\ncancel 1\nclose 2\nfinal 2\n")

-- no summary
abbrev pub nothing_summed : Call
nothing_summed = summed []

-- a device of the depot was made
abbrev pub case_of_the_depot : Call
case_of_the_depot = record (summed case_summary) { depot_new = record (depot_before (codes "hello\n")) { made = to_read a ∷ [] } }

-- the source was read
abbrev pub case_of_the_source : Call
case_of_the_source = record (summed case_summary) { source_old = source_of (codes "1") 0; source_new = source_of [] 0 }

-- a stream failed, over files of which none fails
abbrev pub failed_case : Call
failed_case = gen_call (output_of [] 0) status.Faulty [] (ends_with (how.Fault code.Read)) case_ledger

-- a stream was halted, and the case is summed up
abbrev pub halted_case : Call
halted_case = gen_call (output_of case_summary 0) status.Good [] (ends_with how.Halted) case_ledger

-- the summary is printed, and memory is said to have been wanting
abbrev pub summary_without_memory : Call
summary_without_memory = gen_call (output_of case_summary 0) status.Memory (codes "flume: out of memory\n") (ends_with how.Done) case_ledger
