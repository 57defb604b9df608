-- The last device of the shelf goes back.
use Rattle.std.proofs.Common.{arith, map, subst, sym}
use Rattle.stream_parts.specs.Retire.{MayReturnAll}
use Rattle.stream_parts.proofs.Exchanged.{Returning, exchange_back, last_told, may_last, none_left, returned, returning_more, returning_start}
use Rattle.stream_parts.proofs.retire.retire_shelf.Goals as goal

pub loop-spent-init : goal.loop-spent-init
loop-spent-init g c =
    subst (λ xs. Returning (g.D.Depot.told c.args.depot.now) (g.D.Depot.told c.args.depot.now) (map (λ x. g.D.Dev.Device.told x.pay) c.args.shelf) (map (λ x. g.D.Dev.Device.told x.pay) xs)) (sym c.into_vec-left.ensures)
    (returning_start (g.D.Depot.told c.args.depot.now) _ c.requires)

pub retire-requires : goal.retire-requires
retire-requires g c =
    let e = last_told (λ x. g.D.Dev.Device.told x.pay) c.loop-spent.left.items c.pop.new.self.items c.in-Some.spent c.in-Some.ensures.items in
    rw c.into_device.ensures (may_last _ (map (λ x. g.D.Dev.Device.told x.pay) c.pop.new.self.items) _ (subst (λ xs. MayReturnAll (g.D.Depot.told c.loop-spent.depot) xs) e c.loop-spent.invariant.may))

pub loop-spent-preserved : goal.loop-spent-preserved
loop-spent-preserved g c =
    let now = g.D.Depot.told c.loop-spent.depot in
    let new = g.D.Depot.told c.retire.new.self in
    let e = last_told (λ x. g.D.Dev.Device.told x.pay) c.loop-spent.left.items c.pop.new.self.items c.in-Some.spent c.in-Some.ensures.items in
    returning_more (g.D.Depot.told c.args.depot.now) now new (map (λ x. g.D.Dev.Device.told x.pay) c.args.shelf) (map (λ x. g.D.Dev.Device.told x.pay) c.pop.new.self.items) (g.D.Dev.Device.told c.in-Some.spent.pay)
    (subst (λ xs. Returning (g.D.Depot.told c.args.depot.now) now (map (λ x. g.D.Dev.Device.told x.pay) c.args.shelf) xs) e c.loop-spent.invariant)
    (exchange_back now new (g.D.Dev.Device.told c.in-Some.spent.pay) (rw c.into_device.ensures at c.retire.ensures.retired) c.retire.ensures.made (rw c.into_device.ensures at c.retire.ensures.files) (rw c.into_device.ensures at c.retire.ensures.written))

pub returns : goal.returns
returns g c =
    let e = none_left c.loop-spent.left.items (omega (arith, c.in_default.ensures.cases.0, c.loop-spent.left.ok)) in
    returned _ _ _ (subst (λ xs. Returning (g.D.Depot.told c.args.depot.now) (g.D.Depot.told c.loop-spent.depot) (map (λ x. g.D.Dev.Device.told x.pay) c.args.shelf) (map (λ x. g.D.Dev.Device.told x.pay) xs)) e c.loop-spent.invariant)
