-- What is left of the last stream of the list goes back.
use Rattle.std.proofs.Common.{arith, subst}
use Rattle.stream_parts.specs.Retire.{MayReturnAll}
use Rattle.stream_parts.proofs.Exchanged.{none_left}
use Rattle.par_join.specs.Left.{left_devices}
use Rattle.par_join.proofs.GoingBack.{GoesBack, goes_last, goes_on, goes_start, gone_back}
use Rattle.par_join.proofs.left.retire_left.Goals as goal

pub loop-one-init : goal.loop-one-init
loop-one-init g c = goes_start g.D.Dev.Device.told (g.D.Depot.told c.args.depot.now) c.args.left.items c.requires

pub retire_one-requires : goal.retire_one-requires
retire_one-requires g c =
    goes_last g.D.Dev.Device.told (g.D.Depot.told c.loop-one.depot) c.pop.new.self.items c.in-Some.one
    (subst (λ xs. MayReturnAll (g.D.Depot.told c.loop-one.depot) (left_devices g.D.Dev.Device.told xs)) c.in-Some.ensures.items c.loop-one.invariant.may)

pub loop-one-preserved : goal.loop-one-preserved
loop-one-preserved g c =
    goes_on g.D.Dev.Device.told (g.D.Depot.told c.args.depot.now) (g.D.Depot.told c.loop-one.depot) (g.D.Depot.told c.retire_one.new.depot) c.args.left.items c.pop.new.self.items c.in-Some.one
    (subst (λ xs. GoesBack g.D.Dev.Device.told (g.D.Depot.told c.args.depot.now) (g.D.Depot.told c.loop-one.depot) c.args.left.items xs) c.in-Some.ensures.items c.loop-one.invariant) c.retire_one.ensures

pub returns : goal.returns
returns g c =
    let e = none_left c.loop-one.left.items (omega (arith, c.in_default.ensures.cases.0, c.loop-one.left.ok)) in
    gone_back g.D.Dev.Device.told (g.D.Depot.told c.args.depot.now) (g.D.Depot.told c.loop-one.depot) c.args.left.items
    (subst (λ xs. GoesBack g.D.Dev.Device.told (g.D.Depot.told c.args.depot.now) (g.D.Depot.told c.loop-one.depot) c.args.left.items xs) e c.loop-one.invariant)
