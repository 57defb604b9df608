use Rattle.std.proofs.Common.{◌≡◌, ◌∷◌, [], ◌++◌, ◌∙◌, Ok, ap, refl, rules, subst, sym, true}
use Rattle.std.specs.Prelude.{option_map}
use Rattle.std.specs.List.{list_all}
use Rattle.pipeline_desc.specs.Meant.{SettingMeant}
use Rattle.pipeline_desc.specs.Reading.{RefusesAs}
use Rattle.pipeline_desc.specs.Sound.{is_sound_step}
use Rattle.pipeline_desc.specs.Steps.{step_meant}
use Rattle.pipeline_desc.proofs.Each.{all_and, handed_on}
use Rattle.step_words.specs.Words.{each_meant, needs_no_table, no_setting, parts_between, parts_left}
use Rattle.step_words.proofs.Parts.{looks_nothing_up, part_fails, part_read, parts_end}
use Rattle.step_words.proofs.word.each_step.Goals as goal

pub returns-in_err-step-clause-meant : goal.returns-in_err-step-clause-meant
returns-in_err-step-clause-meant c =
    let alone : c.of-setting.result ≡ no_setting = c.of-setting.ensures in
    let fails = subst (λ s. RefusesAs c.in_err-step.field-0.0 (step_meant s 0 0 c.cut.result.0.now)) alone c.in_err-step.ensures.meant in
    handed_on (λ s. s) c.from_residual.result _ _ c.from_residual.ensures.1
    (part_fails _ c.parts.steps _ c.parts.invariant.read c.cut.result.0.now _ (ap (λ o. parts_left (option_map (λ t. t.now) o)) c.in-Some.is ∙ c.cut.ensures) _ fails)

pub parts-preserved : goal.parts-preserved
parts-preserved c =
    let pushed : c.push.new.self ≡ c.parts.steps ++ c.in_ok-step.step ∷ [] = search rules in
    let alone : c.of-setting.result ≡ no_setting = c.of-setting.ensures in
    let meant = ap (λ s. step_meant s 0 0 c.cut.result.0.now) (sym alone) ∙ c.in_ok-step.ensures.meant in
    let sound : is_sound_step c.of-setting.result.tables c.in_ok-step.step ≡ true = c.in_ok-step.ensures.sound in
    let none : is_sound_step [] c.in_ok-step.step ≡ true = subst (λ (s : SettingMeant). is_sound_step s.tables c.in_ok-step.step ≡ true) alone sound in
    record {
      read = rw pushed (part_read _ c.parts.steps _ c.parts.invariant.read c.cut.result.0.now _ (ap (λ o. parts_left (option_map (λ t. t.now) o)) c.in-Some.is ∙ c.cut.ensures) c.in_ok-step.step meant);
      tables = rw pushed (all_and needs_no_table c.parts.steps c.in_ok-step.step c.parts.invariant.tables (looks_nothing_up c.in_ok-step.step none));
    }
