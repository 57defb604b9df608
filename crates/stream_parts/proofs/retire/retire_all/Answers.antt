-- The last device of the list goes back.
use Rattle.std.proofs.Common.{arith, map, subst, sym}
use Rattle.stream_parts.specs.Retire.{MayReturnAll}
use Rattle.stream_parts.proofs.Exchanged.{Returning, exchange_back, last_told, may_last, none_left, returned, returning_more, returning_start}
use Rattle.stream_parts.proofs.retire.retire_all.Goals as goal

pub loop-device-init : goal.loop-device-init
loop-device-init g c =
    subst (λ xs. Returning (g.D.Depot.told c.args.depot.now) (g.D.Depot.told c.args.depot.now) (map (λ d. g.D.Dev.Device.told d) c.args.devices) (map (λ d. g.D.Dev.Device.told d) xs)) (sym c.into_vec-left.ensures)
    (returning_start (g.D.Depot.told c.args.depot.now) _ c.requires)

pub retire-requires : goal.retire-requires
retire-requires g c =
    let e = last_told (λ d. g.D.Dev.Device.told d) c.loop-device.left.items c.pop.new.self.items c.in-Some.device c.in-Some.ensures.items in
    may_last _ (map (λ d. g.D.Dev.Device.told d) c.pop.new.self.items) _ (subst (λ xs. MayReturnAll (g.D.Depot.told c.loop-device.depot) xs) e c.loop-device.invariant.may)

pub loop-device-preserved : goal.loop-device-preserved
loop-device-preserved g c =
    let now = g.D.Depot.told c.loop-device.depot in
    let new = g.D.Depot.told c.retire.new.self in
    let e = last_told (λ d. g.D.Dev.Device.told d) c.loop-device.left.items c.pop.new.self.items c.in-Some.device c.in-Some.ensures.items in
    returning_more (g.D.Depot.told c.args.depot.now) now new (map (λ d. g.D.Dev.Device.told d) c.args.devices) (map (λ d. g.D.Dev.Device.told d) c.pop.new.self.items) (g.D.Dev.Device.told c.in-Some.device)
    (subst (λ xs. Returning (g.D.Depot.told c.args.depot.now) now (map (λ d. g.D.Dev.Device.told d) c.args.devices) xs) e c.loop-device.invariant)
    (exchange_back now new (g.D.Dev.Device.told c.in-Some.device) c.retire.ensures.retired c.retire.ensures.made c.retire.ensures.files c.retire.ensures.written)

pub returns : goal.returns
returns g c =
    let e = none_left c.loop-device.left.items (omega (arith, c.in_default.ensures.cases.0, c.loop-device.left.ok)) in
    returned _ _ _ (subst (λ xs. Returning (g.D.Depot.told c.args.depot.now) (g.D.Depot.told c.loop-device.depot) (map (λ d. g.D.Dev.Device.told d) c.args.devices) (map (λ d. g.D.Dev.Device.told d) xs)) e c.loop-device.invariant)
