-- Where there is no memory for a device, those before it were made.
use Rattle.std.proofs.Common.{◌∷◌, ◌++◌, [], append_assoc, sym}
use Rattle.std.specs.Prelude.{option_map, option_to_list}
use Rattle.device_port.specs.Device.{to_read, to_write}
use Rattle.pipeline_desc.specs.Places.{second_path}
use Rattle.stream_parts.proofs.Making.{first_made, more_then}
use Rattle.stream_parts.proofs.make.make_described.Goals as goal

pub returns-clause-first : goal.returns-clause-first
returns-clause-first g c =
    let told = g.D.Dev.Device.told in
    let s = c.args.stream.now in
    let old = g.D.Depot.told c.args.depot.now in
    let to = option_to_list (option_map to_write s.to) in
    let path = to_read s.path ∷ [] in
    let made = more_then told old (g.D.Depot.told c.make_to.new.depot) (g.D.Depot.told c.make_next.new.depot) to path c.args.devices.now.items c.make_to.new.devices.items c.make_next.new.devices.items c.in_ok-make_to.ensures.made c.in_ok-make_next.ensures.made in
    first_made told c.make_second.result old (g.D.Depot.told c.make_next.new.depot) (g.D.Depot.told c.make_second.new.depot) _ (to ++ path) (option_to_list (option_map to_read (second_path s.second))) c.make_next.new.devices.items c.make_second.new.devices.items (sym (append_assoc to path _)) (rw c.requires.none at made) c.make_second.ensures.depot c.make_second.ensures.devices
