use Rattle.std.proofs.Common.{◌≡◌, [], refl}
use Rattle.std.specs.Prelude.{codes}
use Rattle.tee_rules.specs.Worked.{silenced, swapped}
use Rattle.tee_rules.proofs.Refused.{ends_all, exit_tells, for_nothing, is_shut, not_done, of_no_branch, refused, shows_fault, too_early}
use Rattle.tee_rules.proofs.laws.refused_tees.Goals as goal

pub returns : goal.returns
returns c = record {
  swapped = λ t. refused swapped.frames (codes "2\n") refl (λ e. let no : codes "2\n" ≡ codes "cd\n" = e in cc) t;
  silenced = λ t. refused silenced.frames [] refl (λ e. let no : [] ≡ codes "cd\n" = e in cc) t;
  unknown_branch = of_no_branch;
  halted_for_nothing = for_nothing;
  done_too_early = too_early;
  hidden_fault = shows_fault;
  left_open = is_shut;
  wrong_exit = exit_tells;
  end_missing = ends_all;
  cut_and_done = not_done;
}
