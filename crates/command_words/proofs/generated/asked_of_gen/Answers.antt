use Rattle.std.proofs.Common.{◌∙◌, Some, map, ap}
use Rattle.clap.specs.Words.{app_of, found_of, rows_of}
use Rattle.command_words.specs.Words.{gen_app}
use Rattle.command_words.proofs.Rows.{rows_at, gen_read}
use Rattle.command_words.proofs.generated.asked_of_gen.Goals as goal

pub returns-clause-asked : goal.returns-clause-asked
returns-clause-asked c =
    let rows = rows_at (app_of c.in_ok-gen_command.field-0) gen_app (map (λ text. text.now) c.as_slice.result.now) c.args.words.now (Some (rows_of (found_of c.in-Some.matches))) c.in_ok-gen_command.ensures
    (ap (λ xs. map (λ text. text.now) xs) c.as_slice.ensures.value ∙ c.in_ok-texts.ensures) (rw c.in-Some.is at c.in_ok-matches.ensures) in
    c.gen_told.ensures.asked ∙ gen_read c.args.words.now (found_of c.in-Some.matches) _ _ _ rows c.get_str.ensures c.get_str-2.ensures c.get_str-3.ensures
