use Rattle.std.proofs.Common.{◌∙◌, ap, map, sym, take}
use Rattle.std.proofs.lemmas.List.{take-map}
use Rattle.std.specs.Arc.{arc_value}
use Rattle.csv_pipes.proofs.dicts.Dicts.first.Goals as goal

pub returns-then-count-all : goal.returns-then-count-all
returns-then-count-all c =
    ap (λ l. map arc_value (take c.args.count l)) c.as_slice-all.ensures.value ∙ (sym (take-map arc_value c.args.count c.self.inside.tables.items) ∙ ap (λ l. take c.args.count l) c.self.view_is)
