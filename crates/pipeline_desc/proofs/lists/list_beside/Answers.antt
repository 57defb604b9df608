use Rattle.std.proofs.Common.{subst}
use Rattle.std.specs.Prelude.{IfOk}
use Rattle.toml.specs.View.{table_view}
use Rattle.pipeline_desc.specs.Meant.{SettingMeant}
use Rattle.pipeline_desc.specs.Reading.{ReadsAs}
use Rattle.pipeline_desc.specs.Sound.{IsSoundList}
use Rattle.pipeline_desc.specs.Streams.{list_meant}
use Rattle.pipeline_desc.proofs.lists.list_beside.Goals as goal

pub returns-clause-meant : goal.returns-clause-meant
returns-clause-meant c = subst (λ (s : SettingMeant). ReadsAs (λ l. l) c.list.result (list_meant s c.args.k (table_view c.args.table.now))) c.at-setting.ensures c.list.ensures.meant

pub returns-clause-sound : goal.returns-clause-sound
returns-clause-sound c = subst (λ (s : SettingMeant). IfOk c.list.result (IsSoundList s c.args.k)) c.at-setting.ensures c.list.ensures.sound
