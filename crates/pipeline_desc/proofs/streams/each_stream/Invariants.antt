use Rattle.std.proofs.Common.{◌≡◌, drop, length}
use Rattle.pipeline_desc.specs.Groups.{members_of}
use Rattle.pipeline_desc.specs.Meant.{setting_at}
use Rattle.pipeline_desc.specs.Reading.{each_from}
use Rattle.pipeline_desc.specs.Sound.{AreSoundStreams}
use Rattle.pipeline_desc.specs.Streams.{stream_meant}
use Rattle.pipeline_desc.proofs.Each.{after}
use Rattle.pipeline_desc.proofs.streams.each_stream.Given as goal

abbrev pub invariant-loop-i : goal.invariant-loop-i
invariant-loop-i l = record {
  read : each_from (λ k. stream_meant (setting_at l.tables l.groups l.count k) k) 0 (members_of l.described)
      ≡ after l.streams (each_from (λ k. stream_meant (setting_at l.tables l.groups l.count k) k) l.i (drop l.i (members_of l.described)));
  sound : AreSoundStreams (setting_at l.tables l.groups l.count) l.streams;
  count : length l.streams ≡ l.i;
}
