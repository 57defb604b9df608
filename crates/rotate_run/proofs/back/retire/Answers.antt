-- Those on the shelf go back, and then the one that couldn't be opened.
use Rattle.std.proofs.Common.{map}
use Rattle.stream_parts.proofs.Exchanged.{may_parts, may_second, returns_both}
use Rattle.rotate_run.specs.Rans.{waiting_of}
use Rattle.rotate_run.proofs.back.retire.Goals as goal

pub retire_shelf-requires : goal.retire_shelf-requires
retire_shelf-requires g c = (may_parts _ (map (λ x. g.D.Dev.Device.told x.pay) c.args.ran.shelf) (map (λ d. g.D.Dev.Device.told d) (waiting_of c.args.ran.unopened)) c.requires).0

pub retire_one-requires : goal.retire_one-requires
retire_one-requires g c = may_second _ _ (map (λ x. g.D.Dev.Device.told x.pay) c.args.ran.shelf) (map (λ d. g.D.Dev.Device.told d) (waiting_of c.args.ran.unopened)) c.retire_shelf.ensures c.requires

pub returns-clause-returns : goal.returns-clause-returns
returns-clause-returns g c = returns_both _ _ _ (map (λ x. g.D.Dev.Device.told x.pay) c.args.ran.shelf) (map (λ d. g.D.Dev.Device.told d) (waiting_of c.args.ran.unopened)) c.retire_shelf.ensures c.retire_one.ensures
