-- Calls of run that are written out.
use Rattle.std.specs.Prelude.{ℕ, false, List, [], ◌∷◌, drop, Some, None, codes}
use Rattle.chunk_core.specs.declared.code.Exit.TheVariants.{Succeeded}
use Rattle.chunk_core.specs.declared.code.How.TheVariants as how
use Rattle.res_ledger.specs.declared.event.StreamNo.TheVariants.{Outer}
use Rattle.res_ledger.specs.declared.event.What.TheVariants.{Close}
use Rattle.res_ledger.specs.declared.event.Event.{Event}
use Rattle.device_port.specs.Source.{SourceTold}
use Rattle.device_port.specs.Device.{to_read}
use Rattle.pipeline_desc.specs.declared.refusal.Refusal.{Refusal}
use Rattle.pipeline_desc.specs.declared.refusal.RefusalKind.TheVariants as refusal
use Rattle.run_rules.specs.declared.end.EndOf.{EndOf}
use Rattle.flume_cli.specs.declared.status.Status.{Status}
use Rattle.flume_cli.specs.declared.status.Status.TheVariants as status
use Rattle.flume_cli.specs.Headline.{Call}
use Rattle.headline_laws.specs.Calls.{a, event, depot_before, no_input, output_of}
use Rattle.headline_laws.specs.Worked.{whole_file}

-- a source that has these bytes and hasn't told its end, of whose reads so many failed
abbrev pub source_of : List ℕ → ℕ → SourceTold
source_of bytes faults = record { left = Some bytes; ended = false; faults = faults }

-- run, over one file, where nothing was done: the source had these bytes and came to this, and standard error was told so
abbrev pub idle_run : List ℕ → SourceTold → Status → List ℕ → Call
idle_run bytes after s line = record {
  words = codes "run" ∷ [];
  source_old = source_of bytes 0;
  source_new = after;
  depot_old = depot_before (codes "hello\n");
  depot_new = depot_before (codes "hello\n");
  out_old = output_of [] 0;
  out_new = output_of [] 0;
  err_old = output_of [] 0;
  err_new = output_of line 0;
  status = s;
  ends = [];
  events = [];
}

-- a description whose second step doesn't take what the first gives
abbrev pub clash : List ℕ
clash = codes "[[stream]]\npath = 'a'\nsteps = ['lines', 'utf8']\n"

-- why it is refused, where the streams are numbered from k on
abbrev pub clash_refusal : ℕ → Refusal
clash_refusal k = record { kind = refusal.KindClash; stream = Some k; step = Some 1 }

-- a description that is refused
abbrev pub refused_description : Call
refused_description = idle_run clash no_input (status.Refused (clash_refusal 0)) (codes "flume: description refused 6 stream 0 step 1\n")

-- a source of which a read failed behind ten bytes
abbrev pub unread_source : Call
unread_source = idle_run clash (source_of (drop 10 clash) 1) status.Unread (codes "flume: cannot read the description\n")

-- no memory for the plan
abbrev pub no_memory : Call
no_memory = idle_run clash no_input status.Memory (codes "flume: out of memory\n")

-- the outer stream closed its root
abbrev pub outer_ledger : List Event
outer_ledger = event 0 Outer (Close 0 Succeeded) ∷ []

abbrev pub outer_done : List EndOf
outer_done = record { who = Outer; how = how.Done } ∷ []

-- a description of no stream
abbrev pub empty_description : Call
empty_description = record (idle_run [] no_input status.Good []) { out_new = output_of (codes "end outer done\nledger 1\nouter close 0 succeeded\n") 0; ends = outer_done; events = outer_ledger }

-- With one thing wrong.

-- the line and the status tell of the next stream
abbrev pub next_stream_refused : Call
next_stream_refused = idle_run clash no_input (status.Refused (clash_refusal 1)) (codes "flume: description refused 6 stream 1 step 1\n")

-- the line leaves the stream out
abbrev pub stream_left_out : Call
stream_left_out = record refused_description { err_new = output_of (codes "flume: description refused 6 step 1\n") 0 }

-- the description can't be read, though no read failed
abbrev pub unread_without_a_fault : Call
unread_without_a_fault = idle_run clash no_input status.Unread (codes "flume: cannot read the description\n")

-- the source was read on behind a failure
abbrev pub read_on : Call
read_on = record unread_source { source_new = source_of [] 2 }

-- a read failed, and what was read before is refused
abbrev pub unread_but_refused : Call
unread_but_refused = record refused_description { source_new = source_of (drop 10 clash) 1 }

-- a good description is refused
abbrev pub refused_though_good : Call
refused_though_good = idle_run [] no_input (status.Refused (clash_refusal 0)) (codes "flume: description refused 6 stream 0 step 1\n")

-- a description that nobody read is said to have no stream
abbrev pub never_read : Call
never_read = record empty_description { source_old = source_of clash 0; source_new = source_of clash 0 }

-- all of a source was read that had these bytes
abbrev pub drained : List ℕ → Call
drained bytes = record unread_source { source_old = source_of bytes 0; source_new = source_of [] 1 }

-- a device was made and kept, though the description is refused
abbrev pub made_though_refused : Call
made_though_refused = record refused_description { depot_new = record (depot_before (codes "hello\n")) { made = to_read a ∷ [] } }

-- the refusal was printed to the output too
abbrev pub refusal_printed : Call
refusal_printed = record refused_description { out_new = output_of (codes "flume: description refused 6 stream 0 step 1\n") 0 }

-- a file is printed, and the source was read all the same
abbrev pub read_by_cat : Call
read_by_cat = record whole_file { source_old = source_of clash 0 }

-- a source that doesn't tell what it has, and never told its end
abbrev pub silent_source : SourceTold
silent_source = record { left = None; ended = false; faults = 0 }

-- the source of a description of no stream wasn't read to its end
abbrev pub end_not_read : Call
end_not_read = record empty_description { source_old = silent_source; source_new = silent_source }
