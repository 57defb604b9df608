use Rattle.std.proofs.Common.{◌≡◌, true, length}
use Rattle.std.specs.Prelude.{option_map}
use Rattle.std.specs.List.{list_all}
use Rattle.pipeline_desc.proofs.Each.{after}
use Rattle.step_words.specs.Words.{each_meant, needs_no_table, no_setting, parts_between, parts_left}
use Rattle.step_words.proofs.word.each_step.Given as goal

abbrev pub invariant-parts : goal.invariant-parts
invariant-parts l = record {
  read : each_meant (parts_between l.fn.word) ≡ after l.steps (each_meant (parts_left (option_map (λ t. t.now) l.rest)));
  tables : list_all needs_no_table l.steps ≡ true;
}

abbrev pub decreases-parts : goal.decreases-parts
decreases-parts l = length (parts_left (option_map (λ t. t.now) l.rest))
