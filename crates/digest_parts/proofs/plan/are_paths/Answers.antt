use Rattle.std.proofs.Common.{◌≡◌, true, ◌∙◌, sym, subst}
use Rattle.std.specs.List.{AllByRecursion}
use Rattle.std.proofs.lemmas.List.{take_all}
use Rattle.chunk_core.proofs.Each.{each_more}
use Rattle.pipeline_desc.specs.Limits.{is_path}
use Rattle.digest_parts.proofs.plan.are_paths.Goals as goal

pub loop-path-preserved : goal.loop-path-preserved
loop-path-preserved c =
    each_more (λ p. is_path p ≡ true) c.args.paths.now c.loop-path.path-index c.path-item.result c.loop-path-test.true c.loop-path.invariant
    (subst (λ p. is_path p ≡ true) c.path-item.is (sym c.is_fit.ensures ∙ c.if-not-is_fit.false))

pub returns : goal.returns
returns c = λ e. subst (AllByRecursion (λ p. is_path p ≡ true)) (take_all c.loop-path.path-index c.args.paths.now c.loop-path-test.false) c.loop-path.invariant
