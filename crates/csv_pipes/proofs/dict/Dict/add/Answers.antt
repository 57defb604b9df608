use Rattle.std.proofs.Common.{◌≡◌, ◌∙◌, ap, sym, true}
use Rattle.std.specs.FinMap.{get}
use Rattle.std.specs.Prelude.{is_some}
use Rattle.csv_pipes.specs.Dictionaries.{value_or}
use Rattle.csv_pipes.proofs.Dictionaries.{copied, get-entry, none_copied, value_added, value_stands}
use Rattle.csv_pipes.proofs.dict.Dict.add.Goals as goal

pub returns-then-is_some : goal.returns-then-is_some
returns-then-is_some c = λ other.
    let has : is_some (get c.args.self.now c.args.key.now) ≡ true = ap is_some (sym c.get.ensures) ∙ (copied c.get.result ∙ (sym c.is_some.ensures ∙ c.if-is_some.true)) in
    value_stands c.args.self.now c.args.key.now c.args.value.now has other

pub returns : goal.returns
returns c = λ other.
    let entries = c.self.inside.values.entries in
    let key = c.in_ok-key.key in
    let none = sym (get-entry entries key.items) ∙ (ap (λ d. get d key.items) c.self.view_is
    ∙ (ap (get c.args.self.now) c.in_ok-key.ensures.items ∙ (sym c.get.ensures ∙ none_copied c.get.result (sym c.is_some.ensures ∙ c.if-is_some.false)))) in
    let updates = c.in-Ok.ensures.updates in
    value_added key c.in_ok-value.value entries c.insert.new.self.entries none updates.1 updates.3 other
    ∙ (λ i. value_or (get (c.self.view_is i) other) (c.in_ok-key.ensures.items i) (c.in_ok-value.ensures i) other)
