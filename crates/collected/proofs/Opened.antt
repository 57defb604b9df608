-- No device that is left was opened to be read that isn't there.
use Rattle.std.proofs.Common.{List, [], ◌∷◌, map, flat_map}
use Rattle.std.specs.List.{AllByRecursion}
use Rattle.chunk_core.proofs.Each.{each_append}
use Rattle.device_port.specs.Device.{DeviceTold}
use Rattle.run_rules.specs.Devices.{KeepsToWhatIsThere}
use Rattle.scope_tree.specs.declared.branch.Spent.{Spent}
use Rattle.stream_parts.specs.Retire.{devices_of}
use Rattle.dealt_streams.specs.declared.leftover.Leftover.{Leftover}
use Rattle.collected.specs.Collected.{all_left}

module _ {V : Type 0} (told : V → DeviceTold) (lawful : (d : V) → KeepsToWhatIsThere (told d)) where
  each_shelved : (xs : List (Spent V)) → AllByRecursion KeepsToWhatIsThere (map (λ x. told x.pay) xs)
  each_shelved [] = tt
  each_shelved (x ∷ xs) = (lawful x.pay, each_shelved xs)

  each_told : (ds : List V) → AllByRecursion KeepsToWhatIsThere (map told ds)
  each_told [] = tt
  each_told (d ∷ ds) = (lawful d, each_told ds)

  each_left : (xs : List (Leftover V)) → AllByRecursion KeepsToWhatIsThere (flat_map (λ x. devices_of told x.shelf x.unopened) xs)
  each_left [] = tt
  each_left (x ∷ xs) =
      each_append KeepsToWhatIsThere (devices_of told x.shelf x.unopened) (flat_map (λ x. devices_of told x.shelf x.unopened) xs)
      (each_append KeepsToWhatIsThere (map (λ x. told x.pay) x.shelf) (map told x.unopened) (each_shelved x.shelf) (each_told x.unopened))
      (each_left xs)

  -- all that is left
  pub all_lawful : (shelf : List (Spent V)) (left : List (Leftover V)) → AllByRecursion KeepsToWhatIsThere (all_left told shelf left)
  all_lawful shelf left = each_append KeepsToWhatIsThere (map (λ x. told x.pay) shelf) (flat_map (λ x. devices_of told x.shelf x.unopened) left) (each_shelved shelf) (each_left left)
