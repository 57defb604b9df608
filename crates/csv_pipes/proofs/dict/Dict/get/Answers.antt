use Rattle.std.proofs.Common.{◌∙◌, ap, sym}
use Rattle.std.specs.FinMap.{get}
use Rattle.csv_pipes.proofs.Dictionaries.{get-entry}
use Rattle.csv_pipes.proofs.dict.Dict.get.Goals as goal

pub returns : goal.returns
returns c = c.get.ensures.value ∙ (sym (get-entry c.self.inside.values.entries c.args.key.now) ∙ ap (λ d. get d c.args.key.now) c.self.view_is)
