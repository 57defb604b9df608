-- Both print the answer to the content.
use Rattle.std.proofs.Common.{◌≡◌, ℕ, List, Some, refl, sym, ◌∙◌, ⊎_elim}
use Rattle.std.proofs.lemmas.Bool.{both_ways}
use Rattle.device_port.specs.Depot.{content_at}
use Rattle.pipeline_desc.specs.declared.step.Step.{Step}
use Rattle.run_rules.specs.Work.{RunRecord}
use Rattle.eval_rules.specs.Evaluation.{Evaluates, IsUnfailed, PrintsAnswer}
use Rattle.eval_rules.proofs.laws.prints_the_same.Goals as goal

prints : (path : List ℕ) (steps : List Step) (n : ℕ) (bytes : List ℕ) (c : RunRecord) → Evaluates path steps n c → content_at c.depot_old.files path ≡ Some bytes → IsUnfailed c → PrintsAnswer steps n bytes c
prints path steps n bytes c v holds calm = ⊎_elim (λ u. absurd (both_ways c.memory calm.memory u.memory)) (λ r. r.completeness bytes holds calm) v.ran

pub returns : goal.returns
returns a path steps n bytes c d v w hc hd calm_c calm_d =
    let p = prints path steps n bytes c v hc calm_c in
    let q = prints path steps n bytes d w hd calm_d in (p.frames ∙ sym q.frames, p.ends ∙ sym q.ends)
