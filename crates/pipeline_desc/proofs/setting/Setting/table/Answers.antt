use Rattle.std.proofs.Common.{◌∙◌, ap, sym}
use Rattle.std.specs.Option.{option_or}
use Rattle.pipeline_desc.specs.Meant.{SettingMeant, named_from}
use Rattle.pipeline_desc.specs.Steps.{table_named}
use Rattle.pipeline_desc.proofs.TableNames.{known_if, named_both}
use Rattle.pipeline_desc.proofs.setting.Setting.table.Goals as goal

pub returns-clause-table : goal.returns-clause-table
returns-clause-table c =
    let name = c.args.name.now in
    let top = named_from 0 c.self.inside.top.now in
    let own = named_from c.self.inside.first_own c.self.inside.own.now in
    c.or.ensures
    ∙ (ap (λ o. option_or o c.number_in-in_group.result) c.number_in-at_top.ensures
    ∙ (ap (λ o. option_or (table_named name top) o) c.number_in-in_group.ensures ∙ (sym (named_both name top own) ∙ ap (λ (s : SettingMeant). table_named name s.tables) c.self.view_is)))

pub returns-clause-known : goal.returns-clause-known
returns-clause-known c =
    let name = c.args.name.now in
    let top = named_from 0 c.self.inside.top.now in
    let own = named_from c.self.inside.first_own c.self.inside.own.now in
    known_if name c.args.self.now.tables c.or.result
    (c.or.ensures
    ∙ (ap (λ o. option_or o c.number_in-in_group.result) c.number_in-at_top.ensures
    ∙ (ap (λ o. option_or (table_named name top) o) c.number_in-in_group.ensures ∙ (sym (named_both name top own) ∙ ap (λ (s : SettingMeant). table_named name s.tables) c.self.view_is))))
