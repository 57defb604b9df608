-- The shelf goes back, and then what was never opened.
use Rattle.std.proofs.Common.{map}
use Rattle.stream_parts.proofs.Exchanged.{may_parts, may_second, returns_both}
use Rattle.par_join.proofs.left.retire_one.Goals as goal

pub retire_shelf-requires : goal.retire_shelf-requires
retire_shelf-requires g c =
    let told = g.D.Dev.Device.told in
    (may_parts (g.D.Depot.told c.args.depot.now) (map (λ x. told x.pay) c.args.left.shelf) (map told c.args.left.unopened) c.requires).0

pub retire_all-requires : goal.retire_all-requires
retire_all-requires g c =
    let told = g.D.Dev.Device.told in
    may_second (g.D.Depot.told c.args.depot.now) (g.D.Depot.told c.retire_shelf.new.depot) (map (λ x. told x.pay) c.args.left.shelf) (map told c.args.left.unopened) c.retire_shelf.ensures c.requires

pub returns : goal.returns
returns g c =
    let told = g.D.Dev.Device.told in
    returns_both (g.D.Depot.told c.args.depot.now) (g.D.Depot.told c.retire_shelf.new.depot) (g.D.Depot.told c.retire_all.new.depot) (map (λ x. told x.pay) c.args.left.shelf) (map told c.args.left.unopened) c.retire_shelf.ensures c.retire_all.ensures
