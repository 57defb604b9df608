use Rattle.std.proofs.Common.{◌∙◌, Some, map, ap}
use Rattle.clap.specs.Words.{app_of, found_of, rows_of}
use Rattle.command_words.specs.Words.{run_app}
use Rattle.command_words.proofs.Rows.{rows_at, run_read}
use Rattle.command_words.proofs.run.asked_of_run.Goals as goal

pub returns-clause-asked : goal.returns-clause-asked
returns-clause-asked c =
    let rows = rows_at (app_of c.in_ok-run_command.field-0) run_app (map (λ text. text.now) c.as_slice.result.now) c.args.words.now (Some (rows_of (found_of c.in-Some.matches))) c.in_ok-run_command.ensures
    (ap (λ xs. map (λ text. text.now) xs) c.as_slice.ensures.value ∙ c.in_ok-texts.ensures) (rw c.in-Some.is at c.in_ok-matches.ensures) in
    c.run_told.ensures.asked ∙ run_read c.args.words.now (found_of c.in-Some.matches) _ rows c.get_str.ensures
