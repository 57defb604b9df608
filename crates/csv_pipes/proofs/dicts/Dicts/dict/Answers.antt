use Rattle.std.proofs.Common.{◌≡◌, ◌∙◌, ap, sym, None}
use Rattle.std.specs.Arc.{arc_value}
use Rattle.std.specs.FinMap.{get, get-empty}
use Rattle.std.specs.Ordering.{nat_cmp}
use Rattle.std.specs.Cmp.Lexicographic.{slice_cmp}
use Rattle.std.specs.Prelude.{option_map, slice_get}
use Rattle.std.proofs.lemmas.Option.{slice_get-map, slice_get_past}
use Rattle.csv_pipes.specs.Dictionaries.{value_in}
use Rattle.csv_pipes.proofs.dicts.Dicts.dict.Goals as goal

pub returns-in_ok-new-in-None : goal.returns-in_ok-new-in-None
returns-in_ok-new-in-None c = λ key.
    let none : slice_get c.args.self.now c.args.table ≡ None =
    ap (λ l. slice_get l c.args.table) (sym c.self.view_is)
    ∙ (slice_get-map arc_value c.self.inside.tables.items c.args.table
    ∙ ap (option_map arc_value) (ap (λ l. slice_get l c.args.table) (sym c.deref.ensures.value) ∙ slice_get_past c.deref.result.now c.args.table c.in-None.ensures.lookup.3)) in
    ap (λ d. get d key) (c.in_ok-new-in-None.ensures.ok ∙ c.new.ensures) ∙ (get-empty (slice_cmp nat_cmp) key ∙ ap (λ o. value_in o key) (sym none))
