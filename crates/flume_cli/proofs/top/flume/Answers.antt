-- What the words ask for was done and told, or they ask for nothing.
use Rattle.std.proofs.Common.{inl, sym, ◌∙◌}
use Rattle.flume_cli.proofs.Calling.{early_told, nothing_told}
use Rattle.flume_cli.proofs.top.flume.Goals as goal

pub returns-in-Ok-Some : goal.returns-in-Ok-Some
returns-in-Ok-Some g c = let w = c.in-Ok-Some in c.perform.ensures c.args.words.now (sym w.ensures.asked ∙ w.field-0-is)

pub returns-in-Ok-None : goal.returns-in-Ok-None
returns-in-Ok-None g c = inl (nothing_told _ _ _ _ _ _ c.refuse.result (sym c.in-Ok-None.ensures.asked ∙ c.in-Ok-None.field-0-is) c.refuse.ensures)

pub returns-in-Err : goal.returns-in-Err
returns-in-Err g c = inl (early_told _ _ _ _ _ _ c.refuse-in-Err.result c.refuse-in-Err.ensures)
