-- A call, from what its contract names.
use Rattle.std.specs.Prelude.{ℕ, List}
use Rattle.device_port.specs.Source.{SourceTold}
use Rattle.device_port.specs.Sink.{SinkTold}
use Rattle.device_port.specs.Depot.{DepotTold}
use Rattle.flume_cli.specs.declared.report.Report.{Report}
use Rattle.flume_cli.specs.Headline.{Call}

abbrev pub call_of : List (List ℕ) → SourceTold → SourceTold → DepotTold → DepotTold → SinkTold → SinkTold → SinkTold → SinkTold → Report → Call
call_of words s t d e o p a b r = record {
  words = words;
  source_old = s;
  source_new = t;
  depot_old = d;
  depot_new = e;
  out_old = o;
  out_new = p;
  err_old = a;
  err_new = b;
  status = r.status;
  ends = r.ends;
  events = r.ledger;
}
