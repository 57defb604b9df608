-- The ends are listed as far as the loop has come.
use Rattle.std.proofs.Common.{◌≡◌, List, [], ◌∷◌, ◌++◌, length, replicate, sym, ap, ◌∙◌, subst, arith}
use Rattle.std.proofs.lemmas.Grind.{common_steps}
use Rattle.chunk_core.specs.declared.code.How.TheVariants as how
use Rattle.run_rules.specs.declared.end.EndOf.{EndOf}
use Rattle.join_report.specs.Accounts.{IsListed, hows_behind}
use Rattle.join_report.proofs.Listing.{ends_listed, ends_more, halted_end, hows_below}
use Rattle.join_report.proofs.accounts.Accounts.new.Goals as goal

pub invariant_of-result : goal.invariant_of-result
invariant_of-result c =
    let all : length c.in_ok-unwritten.unwritten.items ≡ c.loop-k.k = first_of (omega arith, grind (arith, common_steps)) in
    subst (λ (es : List EndOf). IsListed es c.in_ok-unwritten.unwritten.items) (sym c.loop-k.invariant) (ends_listed c.loop-k.k c.in_ok-unwritten.unwritten.items all)

pub loop-k-preserved : goal.loop-k-preserved
loop-k-preserved c =
    c.in_ok-push-2.ensures.items
    ∙ ap (λ (e : EndOf). c.loop-k.ends.items ++ e ∷ []) c.halted-in-loop-k.ensures
    ∙ ap (λ (l : List EndOf). l ++ halted_end c.loop-k.k ∷ []) c.loop-k.invariant
    ∙ ends_more c.loop-k.k

pub returns-clause-hows : goal.returns-clause-hows
returns-clause-hows c =
    let all : c.loop-k.k ≡ c.args.streams = omega arith in
    ap hows_behind c.loop-k.invariant ∙ hows_below c.loop-k.k ∙ ap (λ n. replicate n how.Halted) all
