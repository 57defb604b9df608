use Rattle.std.proofs.Common.{◌∙◌, sym}
use Rattle.toml.specs.Data.{as_str}
use Rattle.pipeline_desc.proofs.Seen.{all_seen, list_found, list_refused}
use Rattle.pipeline_desc.proofs.values.texts.Goals as goal

pub returns-then-not-are_texts-clause-meant : goal.returns-then-not-are_texts-clause-meant
returns-then-not-are_texts-clause-meant c =
    rw c.refuse.ensures (list_refused as_str c.args.position _ c.in_ok-values.values.now c.in_ok-values.ensures (sym c.are_texts.ensures ∙ c.if-not-are_texts.true))

pub returns-clause-meant : goal.returns-clause-meant
returns-clause-meant c = list_found as_str c.args.position _ c.in_ok-values.values.now c.in_ok-values.ensures (sym c.are_texts.ensures ∙ c.if-not-are_texts.false)

pub returns-clause-seen : goal.returns-clause-seen
returns-clause-seen c = sym (all_seen as_str c.in_ok-values.values.now) ∙ (sym c.are_texts.ensures ∙ c.if-not-are_texts.false)
