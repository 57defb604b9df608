use Rattle.std.proofs.Common.{◌≡◌, ◌≤◌, vec_len, vec_capacity, length, Some, rules, sym, ap, subst, arith}
use Rattle.std.proofs.lemmas.List.{length-map}
use Rattle.pull_turns.specs.Around.{OpenAreHeld}
use Rattle.pull_turns.specs.Piping.{standing}
use Rattle.scope_tree.specs.Trees.{Fits, seen}
use Rattle.pull_stepper.specs.Resources.{site}
use Rattle.pull_stepper.specs.Sites.{InOrder, around}
use Rattle.pull_stepper.specs.Steppers.{stepping}
use Rattle.pull_stepper.specs.Stepping.{CanGo, begun, site_of}
use Rattle.pull_stepper.proofs.Beginning.{begun_can, begun_held, begun_in_order}
use Rattle.pull_stepper.proofs.stepper.Stepper.new.Goals as goal

pub returns-clause-can : goal.returns-clause-can
returns-clause-can g c =
    let P = standing g.F.Feed.stands g.F.Feed.comes in let values = g.F.PipeState.values in
    let tree = seen g.S.RowSeat.view c.args.tree in
    let e : stepping g.S.RowSeat.view values (record { runner = c.over.result; room = c.to_slots.new.devices; tables = c.args.tables }) ≡ begun c.args.node tree c.args.devices (values c.args.tables) c.args.chunk = search rules in
    subst (λ s. CanGo P g.V.Device.told s) (sym e) (begun_can g.V.Device.told c.args.node tree c.args.devices c.requires.supplied c.requires.room P (values c.args.tables) c.args.chunk c.requires.chunk)

pub returns-clause-fits : goal.returns-clause-fits
returns-clause-fits g c =
    let told = g.V.Device.told in
    let tree = seen g.S.RowSeat.view c.args.tree in
    let e : site g.S.RowSeat.view c.over.result.outside ≡ site_of c.args.node tree c.args.devices = search rules in
    let devices = c.into_vec-room.result in
    let len : vec_len c.over.result.outside.slots ≡ vec_len c.to_slots.new.slots = ap (λ o. vec_len o.slots) c.over.ensures.outside in
    let room : vec_len c.over.result.outside.slots ≤ vec_capacity c.to_slots.new.devices =
    omega (arith, len, c.to_slots.new.slots.ok.0, ap length c.to_slots.ensures.slots, length-map devices.items Some, devices.ok.0, devices.ok.1, c.to_slots.ensures.room) in
    λ d f. record {
      stands = record {
        tree = subst (λ o. Fits g.S.RowSeat.view g.S.RowSeat.fits o.tree d) (sym c.over.ensures.outside) f;
        order = subst (λ s. InOrder told s) (sym e) (begun_in_order told c.args.node tree c.args.devices c.requires.supplied c.requires.room);
        held = subst (λ s. OpenAreHeld (around told s)) (sym e) (begun_held told c.args.node tree c.args.devices c.requires.supplied c.requires.room);
      };
      empty = c.to_slots.ensures.devices;
      enough = room;
    }
