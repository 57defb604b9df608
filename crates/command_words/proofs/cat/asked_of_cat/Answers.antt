use Rattle.std.proofs.Common.{◌≡◌, ◌∙◌, IfOk, Some, map, ap, subst}
use Rattle.clap.specs.Words.{app_of, found_of, rows_of}
use Rattle.command_words.specs.Words.{cat_app}
use Rattle.command_words.proofs.Rows.{cat_read, rows_at}
use Rattle.command_words.proofs.cat.asked_of_cat.Goals as goal

pub returns-clause-asked : goal.returns-clause-asked
returns-clause-asked c =
    let rows = rows_at (app_of c.in_ok-cat_command.field-0) cat_app (map (λ text. text.now) c.as_slice.result.now) c.args.words.now (Some (rows_of (found_of c.in-Some.matches))) c.in_ok-cat_command.ensures
    (ap (λ xs. map (λ text. text.now) xs) c.as_slice.ensures.value ∙ c.in_ok-texts.ensures) (rw c.in-Some.is at c.in_ok-matches.ensures) in
    subst (λ x. IfOk c.cat_told.result (λ asked. asked ≡ x)) (cat_read c.args.words.now (found_of c.in-Some.matches) _ _ rows c.get_str.ensures c.get_str-2.ensures) c.cat_told.ensures.asked
