use Rattle.std.proofs.Common.{refl}
use Rattle.std.specs.Str.{is_utf8, chars}
use Rattle.toml.proofs.OnLiterals.{toml_on_literals}
use Rattle.pipeline_desc.specs.Worked.{DocumentsMean, KindsMean, LogMeans, LookupsMean, MostStreamsMean, OutputsMean, RowsFollow, SeveralStreamsMean, SidesMean, StepsMean, StreamsMean, TablesMean, TopsMean, TwoMean, UntilMeans}
use Rattle.pipeline_desc.proofs.laws.worked.Goals as goal

documents_mean : DocumentsMean
unfolding toml_on_literals is_utf8 chars
documents_mean = (refl, refl, refl, refl)

tops_mean : TopsMean
unfolding toml_on_literals is_utf8 chars
tops_mean = (refl, refl, refl, refl, refl, refl, refl, refl, refl)

tables_mean : TablesMean
unfolding toml_on_literals is_utf8 chars
tables_mean = (refl, refl, refl, refl, refl, refl, refl, refl, refl, refl)

streams_mean : StreamsMean
unfolding toml_on_literals is_utf8 chars
streams_mean = (refl, refl, refl, refl, refl, refl, refl)

steps_mean : StepsMean
unfolding toml_on_literals is_utf8 chars
steps_mean = (refl, refl, refl, refl, refl, refl, refl)

lookups_mean : LookupsMean
unfolding toml_on_literals is_utf8 chars
lookups_mean = (refl, refl, refl, refl, refl, refl, refl, refl)

sides_mean : SidesMean
unfolding toml_on_literals is_utf8 chars
sides_mean = (refl, refl, refl, refl, refl, refl, refl, refl, refl, refl, refl, refl)

outputs_mean : OutputsMean
unfolding toml_on_literals is_utf8 chars
outputs_mean = (refl, refl, refl, refl, refl, refl, refl)

kinds_mean : KindsMean
unfolding toml_on_literals is_utf8 chars
kinds_mean = (refl, refl, refl, refl, refl)

log_mean : LogMeans
unfolding toml_on_literals is_utf8 chars
log_mean = refl

several_mean : SeveralStreamsMean
unfolding toml_on_literals is_utf8 chars
several_mean = (refl, refl, refl, refl, refl, refl, refl, refl, refl)

until_means : UntilMeans
unfolding toml_on_literals is_utf8 chars
until_means = (refl, refl, refl, refl, refl, refl, refl, refl, refl, refl)

most_mean : MostStreamsMean
unfolding toml_on_literals is_utf8 chars
most_mean = (refl, refl)

two_mean : TwoMean
unfolding toml_on_literals is_utf8 chars
two_mean = refl

rows_mean : RowsFollow
rows_mean = (refl, refl, refl, refl, refl, refl, refl, refl)

pub returns-clause-documents : goal.returns-clause-documents
returns-clause-documents c = documents_mean

pub returns-clause-tops : goal.returns-clause-tops
returns-clause-tops c = tops_mean

pub returns-clause-tables : goal.returns-clause-tables
returns-clause-tables c = tables_mean

pub returns-clause-streams : goal.returns-clause-streams
returns-clause-streams c = streams_mean

pub returns-clause-steps : goal.returns-clause-steps
returns-clause-steps c = steps_mean

pub returns-clause-lookups : goal.returns-clause-lookups
returns-clause-lookups c = lookups_mean

pub returns-clause-sides : goal.returns-clause-sides
returns-clause-sides c = sides_mean

pub returns-clause-outputs : goal.returns-clause-outputs
returns-clause-outputs c = outputs_mean

pub returns-clause-kinds : goal.returns-clause-kinds
returns-clause-kinds c = kinds_mean

pub returns-clause-log : goal.returns-clause-log
returns-clause-log c = log_mean

pub returns-clause-several : goal.returns-clause-several
returns-clause-several c = several_mean

pub returns-clause-until : goal.returns-clause-until
returns-clause-until c = until_means

pub returns-clause-most : goal.returns-clause-most
returns-clause-most c = most_mean

pub returns-clause-two : goal.returns-clause-two
returns-clause-two c = two_mean

pub returns-clause-rows : goal.returns-clause-rows
returns-clause-rows c = rows_mean
