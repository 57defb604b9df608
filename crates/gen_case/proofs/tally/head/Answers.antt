use Rattle.std.proofs.Common.{arith}
use Rattle.gen_case.proofs.Frames.{behind_shorter, no_end, no_space, none_is_some, number_cut, number_uncut, some_is}
use Rattle.gen_case.proofs.tally.head.Goals as goal

pub returns-in_err-sized-clause-parts : goal.returns-in_err-sized-clause-parts
returns-in_err-sized-clause-parts c = λ k n back hk hn e. absurd (number_uncut 32 c.args.text.now k _ hk e c.in_err-sized.ensures)

pub returns-in_err-digits-clause-parts : goal.returns-in_err-digits-clause-parts
returns-in_err-digits-clause-parts c = λ k n back hk hn e.
    let first = c.in_ok-sized.ensures in
    let sized = (number_cut 32 c.args.text.now k _ hk e (no_space k hk) _ _ first.0 first.1).1 in
    absurd (number_uncut 10 c.in_ok-sized.sized.now n back hn sized c.in_err-digits.ensures)

pub returns-in_err-number-clause-parts : goal.returns-in_err-number-clause-parts
returns-in_err-number-clause-parts c = λ k n back hk hn e.
    let first = c.in_ok-sized.ensures in
    let second = c.in_ok-digits.ensures in
    let sized = (number_cut 32 c.args.text.now k _ hk e (no_space k hk) _ _ first.0 first.1).1 in
    let cut = number_cut 10 c.in_ok-sized.sized.now n back hn sized (no_end n hn) _ _ second.0 second.1 in
    absurd (none_is_some n (c.in_err-number.ensures n hn cut.0))

pub returns-clause-parts : goal.returns-clause-parts
returns-clause-parts c = λ k n back hk hn e.
    let first = c.in_ok-sized.ensures in
    let second = c.in_ok-digits.ensures in
    let sized = (number_cut 32 c.args.text.now k _ hk e (no_space k hk) _ _ first.0 first.1).1 in
    let cut = number_cut 10 c.in_ok-sized.sized.now n back hn sized (no_end n hn) _ _ second.0 second.1 in
    (some_is _ _ (c.in_ok-number.ensures n hn cut.0), cut.1)

pub returns-clause-shorter : goal.returns-clause-shorter
returns-clause-shorter c = omega (arith, behind_shorter 32 _ _ _ c.in_ok-sized.ensures.1, behind_shorter 10 _ _ _ c.in_ok-digits.ensures.1)
