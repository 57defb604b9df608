-- What is asked for was done and told.
use Rattle.std.proofs.Common.{Some, inl, inr, ap, ◌∙◌}
use Rattle.flume_cli.proofs.Calling.{audit_told, cat_told, rotation_told}
use Rattle.flume_cli.proofs.Generating.{case_told}
use Rattle.flume_cli.proofs.top.perform.Goals as goal

pub returns-in-Cat : goal.returns-in-Cat
returns-in-Cat g c words asked =
    let w = c.in-Cat in
    inl (cat_told words w.chunk w.path _ _ _ _ _ _ _ _ _ c.tell.result (asked ∙ ap (λ x. Some x) w.is) c.run_cat-outcome.ensures c.tell.ensures)

pub returns-in-Run : goal.returns-in-Run
returns-in-Run g c words asked = inl (c.perform_run.ensures words (asked ∙ ap (λ x. Some x) c.in-Run.is))

pub returns-in-Gen : goal.returns-in-Gen
returns-in-Gen g c words asked =
    let w = c.in-Gen in
    inl (case_told words w.seed w.streams w.lines _ _ _ _ _ _ c.generate-generated.result.outcome (asked ∙ ap (λ x. Some x) w.is) c.generate-generated.result.text c.tell_summary.result c.generate-generated.ensures c.tell_summary.ensures)

pub returns-in-Audit : goal.returns-in-Audit
returns-in-Audit g c words asked = inr (audit_told words _ _ _ _ _ _ _ _ c.run_audit-audited.result.end c.tell_audit.result (asked ∙ ap (λ x. Some x) c.in-Audit.is) c.run_audit-audited.ensures c.tell_audit.ensures)

pub returns-in-Rotate : goal.returns-in-Rotate
returns-in-Rotate g c words asked =
    let w = c.in-Rotate in
    inl (rotation_told words w.bytes w.path w.prefix _ _ _ _ _ _ _ c.run_rotate-outcome.result c.tell-in-Rotate.result (asked ∙ ap (λ x. Some x) w.is) c.run_rotate-outcome.ensures.rotates c.run_rotate-outcome.ensures.unwritten c.tell-in-Rotate.ensures)

pub returns-in-Tee : goal.returns-in-Tee
returns-in-Tee g c words asked = inl (c.perform_tee.ensures words _ (asked ∙ ap (λ x. Some x) c.in-Tee.is))

pub returns-in-Eval : goal.returns-in-Eval
returns-in-Eval g c words asked = inl (c.perform_eval.ensures words _ (asked ∙ ap (λ x. Some x) c.in-Eval.is))
