use Rattle.std.proofs.Common.{length, subst}
use Rattle.pipeline_desc.specs.Groups.{members_of}
use Rattle.pipeline_desc.specs.Reading.{ReadsAs}
use Rattle.pipeline_desc.proofs.Groups.{members_count}
use Rattle.pipeline_desc.proofs.Settings.{setting_is, sound_counted}
use Rattle.pipeline_desc.proofs.streams.streams.Goals as goal

pub returns-clause-meant : goal.returns-clause-meant
returns-clause-meant c =
    subst (λ r. ReadsAs (λ s. s) c.each_stream.result r)
    (setting_is c.args.tables.now c.args.groups.now (members_of c.args.described.now) (length c.args.described.now) (members_count c.args.described.now)) c.each_stream.ensures.meant

pub returns-clause-sound : goal.returns-clause-sound
returns-clause-sound c = sound_counted c.args.tables.now c.args.groups.now (length c.args.described.now) c.each_stream.result c.each_stream.ensures.sound c.each_stream.ensures.count
