use Rattle.std.proofs.Common.{◌≡◌, ◌++◌, List, [], ◌∷◌, Result, Ok, Err, refl, sym, ap, ◌∙◌, subst}
use Rattle.std.specs.Prelude.{IfOk}
use Rattle.std.specs.declared.alloc.AllocError.{AllocError}
use Rattle.chunk_core.specs.Feed.{Meaning}
use Rattle.chain_pipes.specs.Chains.{StandsFor}
use Rattle.chain_pipes.specs.Over.{IsChainMeaning}
use Rattle.chain_pipes.specs.declared.chain.Chain.{Chain}
use Rattle.pipeline_desc.specs.declared.step.Step.{Step}
use Rattle.pipeline_desc.specs.declared.step.Step.TheVariants as step
use Rattle.pull_nodes.specs.declared.pipe.Pipe.TheVariants as pipe
use Rattle.list_runs.specs.Meant.{list_meaning, list_steps}
use Rattle.list_runs.proofs.pipe.list_pipe.Goals as goal

stands_so : (steps : List Step) (r : Result Chain AllocError) → steps ≡ list_steps → IfOk r (λ chain. (m : Meaning) → IsChainMeaning steps m → StandsFor chain m []) → IfOk r (λ chain. StandsFor chain list_meaning [])
stands_so steps (Ok chain) e h = h list_meaning (subst (λ s. IsChainMeaning s list_meaning) (sym e) (refl, refl))
stands_so steps (Err x) e h = tt

pub returns : goal.returns
returns c = stands_so _ c.new.result (c.in_ok-push-2.ensures.ok ∙ ap (λ l. l ++ step.Pipe pipe.Lines ∷ []) (c.in_ok-push.ensures.ok ∙ ap (λ l. l ++ step.Pipe pipe.Utf8 ∷ []) c.new-steps.ensures)) c.new.ensures
