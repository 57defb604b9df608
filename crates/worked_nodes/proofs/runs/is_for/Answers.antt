use Rattle.std.proofs.Common.{◌≡◌, ◌∙◌, Some, ap, arith, rules, sym}
use Rattle.std.specs.List.{slice_get}
use denote.Enum.Bare.{same_true}
use Rattle.device_port.specs.contracts.device.Mode.{the_type}
use Rattle.device_port.specs.declared.record.Record.{Record}
use Rattle.worked_nodes.specs.declared.narrow.Narrow.{Narrow}
use Rattle.worked_nodes.proofs.Modes.{slot_get}
use Rattle.worked_nodes.proofs.runs.is_for.Goals as goal

pub returns-in-Some : goal.returns-in-Some
returns-in-Some c e d s =
    let at : slice_get c.args.devices.now c.args.place ≡ Some d = slot_get c.args.place 0 c.args.place d c.args.devices.now (omega arith) s in
    let found : Some c.in-Some.device.now ≡ Some d = c.in-Some.ensures ∙ at in
    let same : c.in-Some.device.now ≡ d = cc in
    sym (ap (λ (x : Narrow). x.device.facts.mode) same) ∙ (sym (ap (λ (r : Record). r.mode) c.facts.ensures) ∙ same_true the_type (search rules) _ _ (sym c.eq.ensures ∙ e))
