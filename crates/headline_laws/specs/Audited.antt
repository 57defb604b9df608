-- Calls of audit that are written out.
use Rattle.std.specs.Prelude.{ℕ, List, [], ◌∷◌, drop, codes}
use Rattle.res_ledger.specs.declared.event.Event.{Event}
use Rattle.device_port.specs.Device.{to_read}
use Rattle.device_port.specs.Sink.{SinkTold}
use Rattle.device_port.specs.Source.{SourceTold}
use Rattle.audit_run.specs.declared.reading.LedgerRefusal.TheVariants.{Line}
use Rattle.ledger_verdict.specs.Worked.{one_row, unended}
use Rattle.flume_cli.specs.declared.status.Status.{Status}
use Rattle.flume_cli.specs.declared.status.Status.TheVariants as status
use Rattle.flume_cli.specs.Headline.{Call}
use Rattle.headline_laws.specs.Calls.{depot_before, no_input, output_of}
use Rattle.headline_laws.specs.Described.{source_of}

-- audit, beside a depot of one file: the source had these bytes and came to this; what was printed, and what standard error was told; and the report
abbrev pub audit_call : List ℕ → SourceTold → SinkTold → Status → List ℕ → List Event → Call
audit_call bytes after out s line L = record {
  words = codes "audit" ∷ [];
  source_old = source_of bytes 0;
  source_new = after;
  depot_old = depot_before (codes "hello\n");
  depot_new = depot_before (codes "hello\n");
  out_old = output_of [] 0;
  out_new = out;
  err_old = output_of [] 0;
  err_new = output_of line 0;
  status = s;
  ends = [];
  events = L;
}

-- one file was read and closed
abbrev pub one_row_text : List ℕ
one_row_text = codes "ledger 3\n0 acquire 0 0\n0 close 0 succeeded\n0 final 0 succeeded ok\n"

-- its row has no Final
abbrev pub unended_text : List ℕ
unended_text = codes "ledger 2\n0 acquire 0 0\n0 close 0 succeeded\n"

-- such a ledger is judged
abbrev pub clean_ledger : Call
clean_ledger = audit_call one_row_text no_input (output_of (codes "audit ok\n") 0) status.Good [] one_row

abbrev pub unended_ledger : Call
unended_ledger = audit_call unended_text no_input (output_of (codes "audit end complete\n") 0) status.Broken [] unended

-- a write failed behind three bytes of the verdict
abbrev pub unwritten_verdict : Call
unwritten_verdict = audit_call one_row_text no_input (output_of (codes "aud") 1) status.NotWritten [] one_row

-- a source of which a read failed behind ten bytes
abbrev pub unread_ledger : Call
unread_ledger = audit_call one_row_text (source_of (drop 10 one_row_text) 1) (output_of [] 0) status.LedgerUnread (codes "flume: cannot read the ledger\n") []

-- With one thing wrong.

-- a ledger that isn't complete is called clean
abbrev pub unended_called_clean : Call
unended_called_clean = record unended_ledger { out_new = output_of (codes "audit ok\n") 0; status = status.Good }

-- a clean one is said to break a rule
abbrev pub clean_called_unended : Call
clean_called_unended = record clean_ledger { out_new = output_of (codes "audit end complete\n") 0; status = status.Broken }

-- the status tells otherwise than the line
abbrev pub unended_with_status_0 : Call
unended_with_status_0 = record unended_ledger { status = status.Good }

-- another rule is named
abbrev pub other_rule_named : Call
other_rule_named = record unended_ledger { out_new = output_of (codes "audit line 1 ordered\n") 0 }

-- the report has no ledger
abbrev pub ledger_not_reported : Call
ledger_not_reported = record clean_ledger { events = [] }

-- a text that is well spelled is refused
abbrev pub refused_though_spelled : Call
refused_though_spelled = audit_call one_row_text no_input (output_of [] 0) (status.LedgerRefused (Line 1)) (codes "flume: ledger refused line 1\n") []

-- a device was made
abbrev pub audit_of_the_depot : Call
audit_of_the_depot = record clean_ledger { depot_new = record (depot_before (codes "hello\n")) { made = to_read (codes "hello") ∷ [] } }

-- the source was never read
abbrev pub audit_of_nothing : Call
audit_of_nothing = record clean_ledger { source_new = source_of one_row_text 0 }

-- the ledger can't be read, though no read failed
abbrev pub unread_though_read : Call
unread_though_read = record unread_ledger { source_new = no_input }
