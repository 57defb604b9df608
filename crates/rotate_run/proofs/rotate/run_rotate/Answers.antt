-- Whatever became of the devices, the work of a rotation was done.
use Rattle.std.proofs.Common.{refl}
use Rattle.rotate_run.proofs.Running.{first_made, may_retire, rotates_ran}
use Rattle.rotate_run.proofs.Unmade.{rotates_nothing}
use Rattle.rotate_run.proofs.rotate.run_rotate.Goals as goal

pub returns-in_default-clause-rotates : goal.returns-in_default-clause-rotates
returns-in_default-clause-rotates g c =
    let u = c.unmade.ensures in
    rotates_nothing c.args.path.now c.args.prefix.now c.args.bytes (g.D.Depot.told c.args.depot.now) (g.D.Depot.told c.args.depot.now) c.unmade.result u.ends u.ledger u.sink u.memory refl

pub run_rotation-ran-requires-clause-device : goal.run_rotation-ran-requires-clause-device
run_rotation-ran-requires-clause-device g c =
    let m = first_made (g.D.Depot.told c.args.depot.now) (g.D.Depot.told c.make.new.self) c.args.path.now c.args.prefix.now (g.D.Dev.Device.told c.in-Ok-make.device) c.in-Ok-make.ensures.made in
    (g.D.Depot.told c.args.depot.now, c.args.path.now, m.1, m.0)

pub retire-requires : goal.retire-requires
retire-requires g c =
    let m = first_made (g.D.Depot.told c.args.depot.now) (g.D.Depot.told c.make.new.self) c.args.path.now c.args.prefix.now (g.D.Dev.Device.told c.in-Ok-make.device) c.in-Ok-make.ensures.made in
    may_retire g.D.Dev.Device.told (g.D.Depot.told c.args.depot.now) (g.D.Depot.told c.run_rotation-ran.new.depot) c.args.path.now c.args.prefix.now c.args.bytes c.requires.apart c.requires.some c.run_rotation-ran.result (c.run_rotation-ran.ensures (g.D.Depot.told c.args.depot.now) c.args.path.now m.1 m.0)

pub returns-in-Ok-make-clause-rotates : goal.returns-in-Ok-make-clause-rotates
returns-in-Ok-make-clause-rotates g c =
    let m = first_made (g.D.Depot.told c.args.depot.now) (g.D.Depot.told c.make.new.self) c.args.path.now c.args.prefix.now (g.D.Dev.Device.told c.in-Ok-make.device) c.in-Ok-make.ensures.made in
    rw c.retire.ensures.outcome
    (rotates_ran g.D.Dev.Device.told (g.D.Depot.told c.args.depot.now) (g.D.Depot.told c.run_rotation-ran.new.depot) c.args.path.now c.args.prefix.now c.args.bytes c.requires.apart c.requires.some c.run_rotation-ran.result
    (c.run_rotation-ran.ensures (g.D.Depot.told c.args.depot.now) c.args.path.now m.1 m.0) (λ d. (g.met.D.Dev.Device.no_open d, g.met.D.Dev.Device.within d)) _ c.retire.ensures.returns)

pub returns-in-Err-clause-rotates : goal.returns-in-Err-clause-rotates
returns-in-Err-clause-rotates g c =
    let u = c.unmade-in-Err.ensures in
    rotates_nothing c.args.path.now c.args.prefix.now c.args.bytes (g.D.Depot.told c.args.depot.now) (g.D.Depot.told c.make.new.self) c.unmade-in-Err.result u.ends u.ledger u.sink u.memory c.in-Err.ensures.unmade
