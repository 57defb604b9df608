use Rattle.std.proofs.Common.{refl, Some}
use Rattle.command_words.specs.declared.asked.Asked.TheVariants.{Gen}
use Rattle.headline_laws.specs.Cases.{case_of_the_depot, case_of_the_source, failed_case, halted_case, nothing_summed, summary_of_another_seed, summary_without_memory}
use Rattle.headline_laws.proofs.Asked.{refuses}
use Rattle.headline_laws.proofs.Cases.{gen_asks, case_of_the_depot_refused, case_of_the_source_refused, failed_case_refused, halted_case_refused, nothing_summed_refused, summary_of_another_seed_refused, summary_without_memory_refused}
use Rattle.headline_laws.proofs.refused.wrong_cases.Goals as goal

pub returns : goal.returns
returns c = record {
  is_case_of_the_depot = refuses case_of_the_depot (Some (Gen 0 1 3)) gen_asks refl case_of_the_depot_refused;
  is_case_of_the_source = refuses case_of_the_source (Some (Gen 0 1 3)) gen_asks refl case_of_the_source_refused;
  is_failed_case = refuses failed_case (Some (Gen 0 1 3)) gen_asks refl failed_case_refused;
  is_halted_case = refuses halted_case (Some (Gen 0 1 3)) gen_asks refl halted_case_refused;
  is_nothing_summed = refuses nothing_summed (Some (Gen 0 1 3)) gen_asks refl nothing_summed_refused;
  is_summary_of_another_seed = refuses summary_of_another_seed (Some (Gen 0 1 3)) gen_asks refl summary_of_another_seed_refused;
  is_summary_without_memory = refuses summary_without_memory (Some (Gen 0 1 3)) gen_asks refl summary_without_memory_refused;
}
