-- The node's rows have the devices that were made for them.
use Rattle.std.proofs.Common.{arith}
use Rattle.pull_stepper.proofs.Opening.{on_err}
use Rattle.stream_parts.specs.Named.{path_of}
use Rattle.stream_parts.proofs.Making.{none_in_vain}
use Rattle.stream_parts.proofs.Naming.{stream_there}
use Rattle.stream_parts.proofs.PartsMade.{few_rows, supplied_so}
use Rattle.stream_parts.proofs.parts.make_parts.Goals as goal

pub overflow_add-rows : goal.overflow_add-rows
overflow_add-rows g c =
    let p = c.args.plan.now in
    let line = path_of c.args.path.now in
    let s = stream_there p line c.args.k c.requires.within in
    let rows = few_rows p line c.args.k s.0 s.1 c.in_ok-node.node c.in_ok-node.ensures.places in
    omega (arith, rows, c.places.ensures, c.outer_rows.ensures.few)

pub returns-in_err-node-clause-unmade : goal.returns-in_err-node-clause-unmade
returns-in_err-node-clause-unmade g c = let s = stream_there c.args.plan.now (path_of c.args.path.now) c.args.k c.requires.within in on_err c.from_residual.result (s.0, s.1, none_in_vain _ _)

pub returns-in_err-room-clause-unmade : goal.returns-in_err-room-clause-unmade
returns-in_err-room-clause-unmade g c = let s = stream_there c.args.plan.now (path_of c.args.path.now) c.args.k c.requires.within in on_err c.from_residual-in_err-room.result (s.0, s.1, none_in_vain _ _)

pub returns-in_err-devices-clause-unmade : goal.returns-in_err-devices-clause-unmade
returns-in_err-devices-clause-unmade g c = let s = stream_there c.args.plan.now (path_of c.args.path.now) c.args.k c.requires.within in on_err c.from_residual-in_err-devices.result (s.0, s.1, c.in_err-devices.ensures.unmade s.0 s.1)

pub returns-clause-made : goal.returns-clause-made
returns-clause-made g c =
    let n = c.in_ok-node.ensures in
    let p = c.args.plan.now in
    let line = path_of c.args.path.now in
    let s = stream_there p line c.args.k c.requires.within in
    let old = g.D.Depot.told c.args.depot.now in
    let new = g.D.Depot.told c.make_devices.new.depot in
    let makes = c.in_ok-devices.ensures.made s.0 s.1 in
    record {
      node = n.node;
      places = n.places;
      scopes = n.scopes;
      events = n.events;
      most_scopes = omega (arith, c.in_ok-room.ensures.scopes, c.scopes.ensures);
      most_rows = omega (arith, c.outer_rows.ensures.value, c.in_ok-room.ensures.rows, c.places.ensures);
      supplied = supplied_so p line c.args.k s.0 s.1 c.in_ok-node.node n.places g.D.Dev.Device.told old new c.in_ok-devices.devices makes n.kind n.few n.placed n.reads n.writes;
      stream = s.0;
      stream_is = s.1;
      makes = makes;
    }
