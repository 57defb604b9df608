-- All devices of a run were made and came back.
use Rattle.std.proofs.Common.{◌≡◌, ℕ, ◌+◌, List, map, length, Some, sym, ◌∙◌, ap, subst, arith}
use Rattle.std.specs.List.{AllByRecursion}
use Rattle.std.specs.List.Sorted.{IsPermutation}
use Rattle.chunk_core.specs.Lists.{IsAmong}
use Rattle.chunk_core.proofs.Each.{each_among, each_append, each_permuted}
use Rattle.device_port.specs.Device.{Place, DeviceTold}
use Rattle.device_port.specs.Depot.{DepotTold}
use Rattle.run_rules.specs.Devices.{KeepsToWhatIsThere}
use Rattle.run_rules.specs.Facts.{at, first_numbers}
use Rattle.scope_tree.specs.declared.branch.Spent.{Spent}
use Rattle.stream_parts.specs.Retire.{AreWrittenAlone, Exchanges, devices_of}
use Rattle.res_ledger.proofs.Mapped.{among_map}
use Rattle.res_ledger.proofs.Permuted.{range_distinct}
use Rattle.joined_runs.specs.Devices.{AreReturned}
use Rattle.job_runs.proofs.DevicesBack.{made_place, stored_so}
use Rattle.job_runs.proofs.Returned.{are_made}
use Rattle.lone_stream.specs.Account.{ComesBack}

module _ {V : Type 0} (told : V → DeviceTold) (each_there : (d : V) → KeepsToWhatIsThere (told d)) where
  told_there : {A : Type 0} (f : A → V) (xs : List A) → AllByRecursion KeepsToWhatIsThere (map (λ x. told (f x)) xs)
  told_there f xs = each_among KeepsToWhatIsThere (map (λ x. told (f x)) xs) (λ y m. let x = among_map (λ z. told (f z)) y xs m in subst KeepsToWhatIsThere x.2 (each_there (f x.0)))

  -- of devices that keep to what is there, those that came back did
  pub back_there : (shelf : List (Spent V)) (unopened : List V) (back : List DeviceTold) → IsPermutation (devices_of told shelf unopened) back → AllByRecursion KeepsToWhatIsThere back
  back_there shelf unopened back each =
      each_permuted KeepsToWhatIsThere (devices_of told shelf unopened) back each
      (each_append KeepsToWhatIsThere (map (λ x. told x.pay) shelf) (map told unopened) (told_there (λ x. x.pay) shelf) (told_there (λ d. d) unopened))

module _ (places : List Place) (w : ℕ → DeviceTold) (alone : AreWrittenAlone places) where
  -- a device was made for each row, and they came back, in any order, and each kept to what is there
  pub all_come_back : (old new : DepotTold) (back : List DeviceTold) → Exchanges old new places back → IsPermutation (map w (first_numbers (length places))) back → AreReturned old.files (length old.made) w 0 places → AllByRecursion KeepsToWhatIsThere back → ComesBack old new places w
  all_come_back old new back e each devices found =
      let rows : List ℕ = first_numbers (length places) in
      let made = are_made old.files w places (length old.made) 0 places devices (λ i p h. let same : 0 + i ≡ i = omega arith in ap (λ k. at places k) same ∙ h) in
      let placed : (r : ℕ) → IsAmong r rows → at places r ≡ Some (w r).place = λ r m. let p = made_place places w old.files r (length old.made) rows made m in p.1 ∙ ap Some (sym p.2) in
      record {
        made = e.made;
        back = back;
        retired = e.retired;
        each = each;
        devices = devices;
        files = e.files;
        stored = stored_so places w alone old new places rows back e each placed (range_distinct 0 (length places));
        there = found;
      }
