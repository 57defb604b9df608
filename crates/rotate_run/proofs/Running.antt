-- A rotation from its first device to the last that went back.
use Rattle.std.proofs.Common.{◌≡◌, ℕ, suc, ◌+◌, ◌≤◌, List, [], ◌∷◌, length, map, Option, None, refl, sym, ap, ◌∙◌, subst, arith}
use Rattle.device_port.specs.declared.device.Mode.TheVariants as mode
use Rattle.device_port.specs.Device.{DeviceTold, Place, to_read}
use Rattle.device_port.specs.Depot.{DepotTold, IsUnknown, Makes, fresh}
use Rattle.run_rules.specs.Devices.{KeepsToWhatIsThere}
use Rattle.stream_parts.specs.Retire.{MayReturnAll, Returns, devices_of}
use Rattle.cat_run.specs.Cat.{run_record_of}
use Rattle.rotate_rules.specs.Pieces.{IsApart, rotate_places}
use Rattle.rotate_rules.specs.Rotation.{RotatesFiles}
use Rattle.rotate_files.specs.Told.{HasMade, made_device}
use Rattle.rotate_run.specs.declared.ran.Ran.{Ran}
use Rattle.rotate_run.specs.Homes.{devices_by_row, home_of}
use Rattle.rotate_run.specs.Rans.{RanRotation, waiting_of}
use Rattle.rotate_run.proofs.Over.{Leaves, is_over, leaves, may_go_back}
use Rattle.rotate_run.proofs.Performing.{IsOver, performs, rotates}
use Rattle.rotate_run.proofs.Places.{rotation_places}

-- the device of the file that is read was made
pub first_made : (old new : DepotTold) (path prefix : List ℕ) (d : DeviceTold) → Makes old new path mode.Read d → HasMade old path prefix 0 new × (d ≡ made_device old 0 (to_read path))
first_made old new path prefix d m =
    let z : length old.made ≡ length old.made + 0 = omega arith in
    let known : IsUnknown (length old.made) old.retired = subst (λ (x : DeviceTold). IsUnknown x.number old.retired) m.device m.unknown in (
      record {
        is = m.made;
        unknown = λ r l. let e : length old.made ≡ length old.made + r = omega (arith, l) in subst (λ k. IsUnknown k old.retired) e known;
      },
      m.device ∙ ap (λ k. let x : DeviceTold = record (fresh old (to_read path)) { number = k } in x) z,
    )

module _ {V : Type 0} (told : V → DeviceTold) (old now : DepotTold) (path prefix : List ℕ) (n : ℕ) (apart : IsApart path prefix) (one : 1 ≤ n) (r : Ran V) (q : RanRotation told old prefix n path now r) where
  left_so : Leaves told old path prefix n (rotate_places path prefix) (rotation_places path prefix apart) now q.how r.shelf (waiting_of r.unopened) r.outcome.ledger
  left_so = leaves told old path prefix n (rotate_places path prefix) (rotation_places path prefix apart) now q.how q.seat r.shelf r.outcome.ledger q.ledger r.unopened one q.closes

  -- its devices may go back
  pub may_retire : MayReturnAll now (devices_of told r.shelf (waiting_of r.unopened))
  may_retire = may_go_back told old path prefix n (rotate_places path prefix) (rotation_places path prefix apart) now q.how r.shelf (waiting_of r.unopened) r.outcome left_so

  -- and then its work is done
  pub rotates_ran : ((d : V) → KeepsToWhatIsThere (told d)) → (new : DepotTold) → Returns now new (devices_of told r.shelf (waiting_of r.unopened)) → RotatesFiles path prefix n (run_record_of old new [] None [] r.outcome)
  rotates_ran there new back =
      let w : ℕ → DeviceTold = home_of (rotate_places path prefix) old (devices_by_row told left_so.spents (waiting_of r.unopened)) in
      let over : IsOver (rotate_places path prefix) n old new w q.how r.outcome =
      is_over told old path prefix n (rotate_places path prefix) (rotation_places path prefix apart) now q.how r.shelf (waiting_of r.unopened) r.outcome left_so there new back q.ends q.memory in
      record {
        performs = performs (rotate_places path prefix) n old new w q.how r.outcome over;
        rotation = rotates (rotate_places path prefix) n old new w q.how r.outcome over;
      }
