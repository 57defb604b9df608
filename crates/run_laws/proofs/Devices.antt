-- The devices of a run that is written out, by tests that are computed.
use Rattle.std.proofs.Common.{◌≡◌, ◌≤◌, ℕ, Bool, true, false, nat_eq, nat_le, nat_lt, List, [], ◌∷◌, ◌++◌, map, length, filter, count_by, flat_map, Option, Some, None, refl, sym, subst, arith}
use Rattle.std.proofs.lemmas.Bool.{leb-true, ltb-true}
use Rattle.std.proofs.lemmas.List.Sorted.{IsPermutation-refl}
use Rattle.std.specs.List.{list_all as all, AllByRecursion}
use Rattle.std.specs.List.Sorted.{IsPermutation}
use Rattle.chunk_core.specs.declared.code.Exit.{Exit}
use Rattle.chunk_core.specs.declared.code.Exit.TheVariants.{Succeeded, Errored, Canceled}
use Rattle.chunk_core.proofs.Bools.{both, number}
use Rattle.res_ledger.specs.declared.event.Event.{Event}
use Rattle.res_ledger.specs.declared.event.What.{What}
use Rattle.device_port.specs.Depot.{KeepsFilesBut, KeepsWritten}
use Rattle.device_port.specs.Device.{Place, DeviceTold}
use Rattle.run_rules.specs.Devices.{AreAsMany, DevicesAccounted, IsRowBelow, IsShut, IsWrittenBy, StandAsOften, is_closed_with, named, numbered, place_of_row}
use Rattle.run_rules.specs.Facts.{acquired_row, ended_row, failed_row, is_place}
use Rattle.run_laws.specs.LedgerTests.{is_shut}
use Rattle.run_laws.specs.Written.{Listing, files_of, read_device}
use Rattle.run_laws.proofs.Deciding.{each_so}
use Rattle.run_laws.proofs.Performing.{by_exit}
use Rattle.run_laws.proofs.RowsTested.{shut_so}

-- what each element is that passes
each_by : {A : Type 0} (P : A → Type 0) (test : A → Bool) → ((x : A) → test x ≡ true → P x) → (xs : List A) → all test xs ≡ true → AllByRecursion P xs
each_by P test h [] e = tt
each_by P test h (x ∷ xs) e = let b = both (test x) (all test xs) e in (h x b.0, each_by P test h xs b.1)

-- a device that was read to the end of its content is shut
pub read_shut : (n : ℕ) (path bytes : List ℕ) (x : Exit) (ended : Bool) → IsShut (record (read_device n path bytes x) { ended = ended })
read_shut n path bytes x ended = record { shut = refl; closes = refl; once = omega arith; there = λ m missing. absurd (let no : Some true ≡ Some false = missing in cc); within = omega arith }

-- devices that are shut pass the test
pub shut_passes : (ds : List DeviceTold) → AllByRecursion IsShut ds → all is_shut ds ≡ true
shut_passes ds each = (each_so is_shut IsShut shut_so ds).1 each

abbrev stand_as_often : List Place → List Place → Bool
stand_as_often xs ys = all (λ p. nat_eq (count_by (is_place p) xs) (count_by (is_place p) ys)) (xs ++ ys)

as_often : (xs ys : List Place) → stand_as_often xs ys ≡ true → StandAsOften xs ys
as_often xs ys e = each_by (λ (p : Place). count_by (is_place p) xs ≡ count_by (is_place p) ys) (λ p. nat_eq (count_by (is_place p) xs) (count_by (is_place p) ys)) (λ p t. number (count_by (is_place p) xs) (count_by (is_place p) ys) t) (xs ++ ys) e

abbrev are_as_many : (DeviceTold → Bool) → (What → Option ℕ) → List DeviceTold → List Place → List Event → Bool
are_as_many passes row ds places L = stand_as_often (map (λ d. d.place) (filter passes ds)) (flat_map (λ e. place_of_row places (row e.what)) L)

as_many : (passes : DeviceTold → Bool) (row : What → Option ℕ) (ds : List DeviceTold) (places : List Place) (L : List Event) → are_as_many passes row ds places L ≡ true → AreAsMany passes row ds places L
as_many passes row ds places L e = as_often (map (λ (d : DeviceTold). d.place) (filter passes ds)) (flat_map (λ (x : Event). place_of_row places (row x.what)) L) e

abbrev is_below : ℕ → Option ℕ → Bool
is_below n None = true
is_below n (Some r) = nat_lt r n

row_below : (n : ℕ) (o : Option ℕ) → is_below n o ≡ true → IsRowBelow n o
row_below n None e = tt
row_below n (Some r) e = ltb-true r n e

module _ (ds : List DeviceTold) (places : List Place) (L : List Event) where
  abbrev made : List Place
  made = map (λ (d : DeviceTold). d.place) ds

  abbrev are_few : Bool
  are_few = all (λ p. nat_le (count_by (is_place p) made) (count_by (is_place p) places)) made

  abbrev are_shut : Bool
  are_shut = all is_shut ds

  abbrev are_rows : Bool
  are_rows = all (λ (e : Event). is_below (length places) (acquired_row e.what)) L

  abbrev ended_with : Exit → Bool
  ended_with x = are_as_many (is_closed_with x) (ended_row x) ds places L

  module _ (before after : Listing) where
    pub accounted : are_few ≡ true → are_shut ≡ true → are_rows ≡ true → are_as_many (λ d. nat_eq d.opens 1) acquired_row ds places L ≡ true → are_as_many (λ d. nat_lt 0 d.close_faults) failed_row ds places L ≡ true
        → ended_with Succeeded ≡ true → ended_with Errored ≡ true → ended_with Canceled ≡ true → numbered 0 made ≡ map named ds
        → KeepsFilesBut (IsWrittenBy ds) (Some (files_of before)) (Some (files_of after)) → AllByRecursion (KeepsWritten (Some (files_of after))) ds
        → DevicesAccounted (record { files = Some (files_of before); made = []; retired = [] }) (record { files = Some (files_of after); made = made; retired = ds }) places L
    accounted few shut rows acquired failed succeeded errored canceled once files stored = record {
      made = refl;
      few = each_by (λ (p : Place). count_by (is_place p) made ≤ count_by (is_place p) places) (λ p. nat_le (count_by (is_place p) made) (count_by (is_place p) places)) (λ p t. leb-true (count_by (is_place p) made) (count_by (is_place p) places) t) made few;
      retired = refl;
      once = subst (λ (xs : List (ℕ × Place)). IsPermutation xs (map named ds)) (sym once) (IsPermutation-refl (map named ds));
      shut = each_by IsShut is_shut (λ d t. (shut_so d).0 t) ds shut;
      rows = each_by (λ (x : Event). IsRowBelow (length places) (acquired_row x.what)) (λ x. is_below (length places) (acquired_row x.what)) (λ x t. row_below (length places) (acquired_row x.what) t) L rows;
      acquired = as_many (λ d. nat_eq d.opens 1) acquired_row ds places L acquired;
      failed = as_many (λ d. nat_lt 0 d.close_faults) failed_row ds places L failed;
      exits = by_exit (λ x. AreAsMany (is_closed_with x) (ended_row x) ds places L) (as_many (is_closed_with Succeeded) (ended_row Succeeded) ds places L succeeded) (as_many (is_closed_with Errored) (ended_row Errored) ds places L errored)
          (as_many (is_closed_with Canceled) (ended_row Canceled) ds places L canceled);
      files = files;
      stored = stored;
    }
