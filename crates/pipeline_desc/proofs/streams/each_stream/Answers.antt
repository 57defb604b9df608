use Rattle.std.proofs.Common.{◌≡◌, ℕ, Ok, arith, length-append, subst}
use Rattle.toml.specs.Data.{Members}
use Rattle.toml.specs.View.{table_view}
use Rattle.pipeline_desc.specs.Groups.{members_of}
use Rattle.pipeline_desc.specs.Meant.{SettingMeant, setting_at}
use Rattle.pipeline_desc.specs.Reading.{Reading, RefusesAs}
use Rattle.pipeline_desc.specs.Sound.{IsSoundStream}
use Rattle.pipeline_desc.specs.Streams.{stream_meant}
use Rattle.pipeline_desc.specs.declared.stream.StreamSpec.{StreamSpec}
use Rattle.pipeline_desc.proofs.Each.{each_ends, each_fails, each_next, handed_on}
use Rattle.pipeline_desc.proofs.Groups.{members_at, members_count}
use Rattle.pipeline_desc.proofs.Settings.{sound_more}
use Rattle.pipeline_desc.proofs.streams.each_stream.Goals as goal

pub returns-in_err-stream-clause-meant : goal.returns-in_err-stream-clause-meant
returns-in_err-stream-clause-meant c =
    let entry = c.index-described-i.result in
    let i = c.loop-i.i in
    let meant : ℕ → Members → Reading StreamSpec = λ k. stream_meant (setting_at c.args.tables.now c.args.groups.now c.args.count k) k in
    handed_on (λ s. s) c.from_residual.result _ _ c.from_residual.ensures.1
    (each_fails meant (members_of c.args.described.now) _ c.loop-i.streams i i c.loop-i.invariant.read (table_view entry.now) c.in_err-stream.field-0.0
    (members_at c.args.described.now i entry (omega arith) c.index-described-i.is)
    (subst (λ (s : SettingMeant). RefusesAs c.in_err-stream.field-0.0 (stream_meant s i (table_view entry.now))) c.at-setting.ensures c.in_err-stream.ensures.meant))

pub loop-i-preserved : goal.loop-i-preserved
loop-i-preserved c =
    let entry = c.index-described-i.result in
    let i = c.loop-i.i in
    let stream = c.in_ok-stream.stream in
    let meant : ℕ → Members → Reading StreamSpec = λ k. stream_meant (setting_at c.args.tables.now c.args.groups.now c.args.count k) k in
    record {
      read = rw c.in_ok-push.ensures.ok
          (each_next meant (members_of c.args.described.now) _ c.loop-i.streams i i c.loop-i.invariant.read (table_view entry.now) stream
          (members_at c.args.described.now i entry (omega arith) c.index-described-i.is)
          (subst (λ (s : SettingMeant). stream_meant s i (table_view entry.now) ≡ Ok stream) c.at-setting.ensures c.in_ok-stream.ensures.meant));
      sound = rw c.in_ok-push.ensures.ok
          (sound_more (setting_at c.args.tables.now c.args.groups.now c.args.count) c.loop-i.streams i stream c.loop-i.invariant.count c.loop-i.invariant.sound
          (subst (λ (s : SettingMeant). IsSoundStream s i stream) c.at-setting.ensures c.in_ok-stream.ensures.sound));
      count = rw (c.in_ok-push.ensures.ok, length-append) (omega (arith, c.loop-i.invariant.count));
    }

pub returns-clause-meant : goal.returns-clause-meant
returns-clause-meant c =
    each_ends (λ k. stream_meant (setting_at c.args.tables.now c.args.groups.now c.args.count k) k) (members_of c.args.described.now) _ c.loop-i.streams c.loop-i.i c.loop-i.i c.loop-i.invariant.read
    (let count = members_count c.args.described.now in omega (arith, count))
