-- Those on the shelf go back, and then the others.
use Rattle.std.proofs.Common.{map}
use Rattle.stream_parts.proofs.Exchanged.{may_parts, may_second, returns_both}
use Rattle.lone_stream.proofs.back.retire.Goals as goal

pub retire_shelf-requires : goal.retire_shelf-requires
retire_shelf-requires g c = (may_parts _ (map (λ x. g.D.Dev.Device.told x.pay) c.args.shelf) (map (λ d. g.D.Dev.Device.told d) c.args.unopened) c.requires).0

pub retire_all-requires : goal.retire_all-requires
retire_all-requires g c = may_second _ _ (map (λ x. g.D.Dev.Device.told x.pay) c.args.shelf) (map (λ d. g.D.Dev.Device.told d) c.args.unopened) c.retire_shelf.ensures c.requires

pub returns : goal.returns
returns g c = returns_both _ _ _ (map (λ x. g.D.Dev.Device.told x.pay) c.args.shelf) (map (λ d. g.D.Dev.Device.told d) c.args.unopened) c.retire_shelf.ensures c.retire_all.ensures
