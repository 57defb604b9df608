use Rattle.std.proofs.Common.{◌∙◌, sym, arith}
use Rattle.pipeline_desc.proofs.TableNames.{named_at, not_named, place_within}
use Rattle.pipeline_desc.proofs.setting.number_in.Goals as goal

pub overflow_cast-result : goal.overflow_cast-result
overflow_cast-result c =
    let within = place_within c.args.name.now c.args.tables.now c.in_ok-at.at (sym c.place_of.ensures ∙ c.in_ok-at.was) in omega (arith, within)

pub overflow_add-result : goal.overflow_add-result
overflow_add-result c =
    let within = place_within c.args.name.now c.args.tables.now c.in_ok-at.at (sym c.place_of.ensures ∙ c.in_ok-at.was) in omega (arith, within)

pub returns : goal.returns
returns c = sym (named_at c.args.name.now c.args.first c.args.tables.now c.in_ok-at.at (sym c.place_of.ensures ∙ c.in_ok-at.was))

pub returns-in_err-at : goal.returns-in_err-at
returns-in_err-at c = c.from_residual.ensures ∙ sym (not_named c.args.name.now c.args.first c.args.tables.now (sym c.place_of.ensures ∙ c.in_err-at.was))
