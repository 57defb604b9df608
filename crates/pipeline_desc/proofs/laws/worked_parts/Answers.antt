use Rattle.std.proofs.Common.{refl}
use Rattle.std.specs.Str.{is_utf8, chars}
use Rattle.toml.proofs.OnLiterals.{toml_on_literals}
use Rattle.pipeline_desc.specs.WorkedParts.{GroupsMean, ListsMean, MostPartsMean, OneGroupMeans, PartsFollow, PartsMean, VersionsMean}
use Rattle.pipeline_desc.proofs.laws.worked_parts.Goals as goal

versions_mean : VersionsMean
unfolding toml_on_literals is_utf8 chars
versions_mean = (refl, refl, refl, refl, refl, refl, refl, refl, refl, refl)

parts_mean : PartsMean
unfolding toml_on_literals is_utf8 chars
parts_mean = (refl, refl, refl, refl, refl, refl, refl, refl, refl, refl, refl, refl, refl, refl)

groups_mean : GroupsMean
unfolding toml_on_literals is_utf8 chars
groups_mean = (refl, refl, refl, refl, refl, refl, refl, refl, refl, refl, refl)

lists_mean : ListsMean
unfolding toml_on_literals is_utf8 chars
lists_mean = (refl, refl, refl, refl, refl, refl, refl, refl, refl, refl, refl, refl, refl, refl, refl, refl, refl, refl, refl)

most_mean : MostPartsMean
unfolding toml_on_literals is_utf8 chars
most_mean = (refl, refl)

group_means : OneGroupMeans
unfolding toml_on_literals is_utf8 chars
group_means = refl

parts_follow : PartsFollow
parts_follow = (refl, refl, refl, refl, refl, refl, refl, refl, refl)

pub returns-clause-versions : goal.returns-clause-versions
returns-clause-versions c = versions_mean

pub returns-clause-parts : goal.returns-clause-parts
returns-clause-parts c = parts_mean

pub returns-clause-group : goal.returns-clause-group
returns-clause-group c = group_means

pub returns-clause-groups : goal.returns-clause-groups
returns-clause-groups c = groups_mean

pub returns-clause-lists : goal.returns-clause-lists
returns-clause-lists c = lists_mean

pub returns-clause-most : goal.returns-clause-most
returns-clause-most c = most_mean

pub returns-clause-rows : goal.returns-clause-rows
returns-clause-rows c = parts_follow
