use Rattle.std.proofs.Common.{refl, Some}
use Rattle.command_words.specs.declared.asked.Asked.TheVariants.{Run}
use Rattle.headline_laws.specs.Unruly.{emptied_unopened, opened_though_missing, opened_twice, out_of_turn, read_beyond_the_end}
use Rattle.headline_laws.proofs.Asked.{refuses, refuses_cat, refuses_run}
use Rattle.headline_laws.proofs.Unruly.{turn_asks, emptied_unopened_refused, opened_though_missing_refused, opened_twice_refused, out_of_turn_refused, read_beyond_the_end_refused}
use Rattle.headline_laws.proofs.refused.unruly.Goals as goal

pub returns : goal.returns
returns c = record {
  is_opened_twice = refuses_cat opened_twice refl opened_twice_refused;
  is_opened_though_missing = refuses_cat opened_though_missing refl opened_though_missing_refused;
  is_read_beyond_the_end = refuses_cat read_beyond_the_end refl read_beyond_the_end_refused;
  is_emptied_unopened = refuses_run emptied_unopened refl emptied_unopened_refused;
  is_out_of_turn = refuses out_of_turn (Some (Run (Some 1))) turn_asks refl out_of_turn_refused;
}
