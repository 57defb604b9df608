-- What a source and a sink in memory tell.
use Rattle.std.specs.Prelude.{Some, drop}
use Rattle.device_port.specs.Source.{SourceTold}
use Rattle.device_port.specs.Sink.{SinkTold}
use Rattle.device_port.specs.declared.mem.MemSource.{MemSource}
use Rattle.device_port.specs.declared.mem.MemSink.{MemSink}

-- the bytes behind its place, and whether it ended
abbrev pub source_told : MemSource → SourceTold
source_told s = record { left = Some (drop s.at s.bytes.items); ended = s.ended; faults = s.faults }

-- the bytes that it holds
abbrev pub sink_told : MemSink → SinkTold
sink_told s = record { written = Some s.bytes.items; faults = s.faults }
