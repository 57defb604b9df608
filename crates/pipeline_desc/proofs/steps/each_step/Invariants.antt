use Rattle.std.proofs.Common.{◌≡◌, ◌+◌, drop, length, true}
use Rattle.std.specs.List.{list_all}
use Rattle.toml.specs.Data.{as_str}
use Rattle.pipeline_desc.specs.Sound.{is_sound_step}
use Rattle.pipeline_desc.specs.Reading.{each_from}
use Rattle.pipeline_desc.specs.Steps.{step_meant}
use Rattle.pipeline_desc.specs.Values.{seen_as}
use Rattle.pipeline_desc.proofs.Each.{after}
use Rattle.pipeline_desc.proofs.steps.each_step.Given as goal

abbrev pub invariant-loop-i : goal.invariant-loop-i
invariant-loop-i l = record {
  read : each_from (step_meant l.setting l.k) l.first (seen_as as_str l.words) ≡ after l.steps (each_from (step_meant l.setting l.k) (l.first + l.i) (drop l.i (seen_as as_str l.words)));
  sound : list_all (is_sound_step l.setting.tables) l.steps ≡ true;
  count : length l.steps ≡ l.i;
}
