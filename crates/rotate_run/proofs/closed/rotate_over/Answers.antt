-- The file that is read was opened, or not.
use Rattle.std.proofs.Common.{◌+◌, ◌∙◌, ap, inl, inr, true}
use Rattle.device_port.specs.Device.{DeviceTold}
use Rattle.scope_tree.specs.Trees.{seen}
use Rattle.rotate_files.proofs.Nexts.{when_err, when_ok}
use Rattle.rotate_run.proofs.closed.rotate_over.Goals as goal

pub returns-then-is_err-clause-closes : goal.returns-then-is_err-clause-closes
returns-then-is_err-clause-closes g c = λ old path device now.
    let e = when_err c.open.result c.if-is_err.ensures.value c.open.ensures.failed in
    inl (seen g.S.RowSeat.view c.args.tree, c.open.new.self, c.requires.unused, e ∙ ap (λ (d : DeviceTold). let x : DeviceTold = record d { open_faults = d.open_faults + 1 } in x) device, now, c.close_unopened.ensures.closes)

pub copy_all-requires-clause-device : goal.copy_all-requires-clause-device
copy_all-requires-clause-device g c =
    let t = c.requires.device in
    let e = when_ok c.open.result c.if-is_err.ensures.value c.open.ensures.ok in
    (t.0, t.1, e ∙ ap (λ (d : DeviceTold). let x : DeviceTold = record d { is_open = true; opens = 1 } in x) t.2, t.3)

pub returns-clause-closes : goal.returns-clause-closes
returns-clause-closes g c = λ old path device now.
    let e = when_ok c.open.result c.if-is_err.ensures.value c.open.ensures.ok in
    inr (c.copy_all.ensures.closes old path (e ∙ ap (λ (d : DeviceTold). let x : DeviceTold = record d { is_open = true; opens = 1 } in x) device) now)
