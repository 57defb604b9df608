use Rattle.std.proofs.Common.{refl, add-one, arith}
use Rattle.hot_swap.specs.Swaps.{held, seen_tree}
use Rattle.rotate_files.proofs.Nexts.{few_files, next_memory, next_ok, next_unopened, when_err, when_ok}
use Rattle.rotate_files.proofs.rotation.next_file.Goals as goal

pub returns-in_err-path-clause-next : goal.returns-in_err-path-clause-next
returns-in_err-path-clause-next g c = λ old path given src q.
    next_memory g.D.Dev.Device.told old c.args.prefix.now c.args.bytes path _ _ (g.D.Depot.told c.args.depot.now) c.args.rotation.now.count given src q c.from_residual.result _ refl c.from_residual.ensures.1

pub returns-in_err-device-clause-next : goal.returns-in_err-device-clause-next
returns-in_err-device-clause-next g c = λ old path given src q.
    next_memory g.D.Dev.Device.told old c.args.prefix.now c.args.bytes path _ _ (g.D.Depot.told c.args.depot.now) c.args.rotation.now.count given src q c.from_residual-in_err-device.result _ c.in_err-device.ensures.unmade c.from_residual-in_err-device.ensures.1

pub returns-then-is_err-clause-next : goal.returns-then-is_err-clause-next
returns-then-is_err-clause-next g c = λ old path given src q.
    next_unopened g.D.Dev.Device.told old c.args.prefix.now c.args.bytes path (seen_tree g.S.RowSeat.view c.args.rotation.now.files) (held c.args.rotation.now.files) (g.D.Depot.told c.args.depot.now) c.args.rotation.now.count given src q (Unit {0}) (g.D.Depot.told c.make.new.self) c.in_ok-device.device c.open.new.self
    (few_files g.D.Dev.Device.told old c.args.prefix.now c.args.bytes path (seen_tree g.S.RowSeat.view c.args.rotation.now.files) (held c.args.rotation.now.files) (g.D.Depot.told c.args.depot.now) c.args.rotation.now.count given src q c.if-rotation-eq-MOST_FILES.false)
    (rw (← c.in_ok-path.ensures) c.in_ok-device.ensures.made) (when_err c.open.result c.if-is_err.ensures.value c.open.ensures.failed)

pub returns-clause-next : goal.returns-clause-next
returns-clause-next g c = λ old path given src q.
    let e = c.swap.ensures in
    next_ok g.D.Dev.Device.told old c.args.prefix.now c.args.bytes path (seen_tree g.S.RowSeat.view c.args.rotation.now.files) (held c.args.rotation.now.files) (g.D.Depot.told c.args.depot.now) c.args.rotation.now.count given src q (g.D.Depot.told c.make.new.self) (seen_tree g.S.RowSeat.view c.swap.new.self) (held c.swap.new.self) _ c.in_ok-device.device c.open.new.self c.new.result
    (few_files g.D.Dev.Device.told old c.args.prefix.now c.args.bytes path (seen_tree g.S.RowSeat.view c.args.rotation.now.files) (held c.args.rotation.now.files) (g.D.Depot.told c.args.depot.now) c.args.rotation.now.count given src q c.if-rotation-eq-MOST_FILES.false)
    (add-one c.args.rotation.now.count) (rw (← c.in_ok-path.ensures) c.in_ok-device.ensures.made) (when_ok c.open.result c.if-is_err.ensures.value c.open.ensures.ok) c.new.ensures e.current e.swaps e.holding e.empty e.alone e.free e.calls e.room
