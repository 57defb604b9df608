-- Those that were made go back where there is no memory for another.
use Rattle.std.proofs.Common.{◌∙◌, map, subst, sym}
use Rattle.pipeline_desc.specs.Places.{stream_places}
use Rattle.pull_stepper.proofs.Opening.{on_err}
use Rattle.stream_parts.specs.Made.{MakesEach}
use Rattle.stream_parts.specs.Named.{path_of}
use Rattle.stream_parts.proofs.Making.{made_may_return, none_in_vain}
use Rattle.stream_parts.proofs.Naming.{stream_there}
use Rattle.stream_parts.proofs.make.make_devices.Goals as goal

pub returns-in_err-devices-clause-unmade : goal.returns-in_err-devices-clause-unmade
returns-in_err-devices-clause-unmade g c s is = on_err c.from_residual.result (none_in_vain (g.D.Depot.told c.args.depot.now) _)

pub retire_all-requires : goal.retire_all-requires
retire_all-requires g c =
    let s = stream_there c.args.plan.now (path_of c.args.path.now) c.args.k c.requires.within in
    let f = c.in-Err.ensures.first s.0 s.1 in
    made_may_return (g.D.Depot.told c.args.depot.now) (g.D.Depot.told c.make_each.new.depot) f.first _ (rw c.of_vec-in-Err.ensures f.makes)

pub returns-in-Ok-clause-made : goal.returns-in-Ok-clause-made
returns-in-Ok-clause-made g c s is =
    let m = c.in-Ok.ensures.made s is in
    subst (λ ds. MakesEach (g.D.Depot.told c.args.depot.now) (g.D.Depot.told c.make_each.new.depot) (stream_places s) (map g.D.Dev.Device.told ds)) (sym (c.of_vec.ensures ∙ m.after_is)) m.makes
