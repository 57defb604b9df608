use Rattle.std.proofs.Common.{◌∷◌, ◌++◌, sym, ap, ◌∙◌}
use Rattle.command_words.proofs.Files.{by_no_dot, by_shown}
use Rattle.command_words.proofs.names.is_file_of.Goals as goal

pub returns-in_default-strip_prefix : goal.returns-in_default-strip_prefix
returns-in_default-strip_prefix c =
    let p = c.in-Some.ensures.cases in
    by_no_dot c.args.prefix.now c.args.path.now c.in-Some.behind.now (p.1.1 ∙ ap (λ t. c.args.prefix.now ++ t) (sym p.2)) c.in_default-strip_prefix.ensures.cases

pub returns-then-i-lt-MOST_FILES : goal.returns-then-i-lt-MOST_FILES
returns-then-i-lt-MOST_FILES c =
    let p = c.in-Some.ensures.cases in
    let q = c.in-Some-strip_prefix.ensures.cases in
    by_shown c.args.prefix.now c.args.path.now c.in-Some.behind.now c.in-Some-strip_prefix.text.now c.format.result.now c.in-Some-number.i c.eq.result (p.1.1 ∙ ap (λ t. c.args.prefix.now ++ t) (sym p.2))
    (q.1.1 ∙ ap (λ t. 46 ∷ t) (sym q.2)) (sym c.number.ensures ∙ c.in-Some-number.is) c.if-i-lt-MOST_FILES.true c.format.ensures.text c.eq.ensures
