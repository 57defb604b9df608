-- The device and the ledger of the runs that are written out.
use Rattle.std.proofs.Common.{◌≡◌, ℕ, List, [], ◌∷◌, true, false, inr, refl, Option, Some, ⊎_elim, arith}
use Rattle.std.proofs.lemmas.List.Sorted.{IsPermutation-refl}
use Rattle.chunk_core.specs.Lists.{IsAmong}
use Rattle.chunk_core.proofs.Members.{among_cons, among_nil}
use Rattle.device_port.specs.Device.{DeviceTold}
use Rattle.chunk_core.specs.declared.code.Exit.{Exit}
use Rattle.chunk_core.specs.declared.code.Exit.TheVariants.{Succeeded, Errored, Canceled}
use Rattle.device_port.specs.declared.device.Mode.TheVariants as mode
use Rattle.res_ledger.proofs.Stamps.{stamped_sound}
use Rattle.res_ledger.proofs.Ordering.{ordered_sound}
use Rattle.res_ledger.proofs.Judged.{legal_sound, complete_sound}
use Rattle.run_rules.specs.Devices.{AreAsMany, DevicesAccounted, is_closed_with}
use Rattle.run_rules.specs.declared.end.EndOf.{EndOf}
use Rattle.run_rules.specs.Facts.{ended_row}
use Rattle.run_rules.specs.Work.{RunRecord}
use Rattle.chunk_core.specs.Texts.{Frame}
use Rattle.tee_rules.specs.Reader.{KeepsReaderRules, tee_places}
use Rattle.tee_rules.specs.Worked.{depot_after, depot_before, device_a, events_with, not_opened, path_a, run_of}

-- a run over the file, which left this
abbrev pub run_left : List EndOf → List Frame → Option Frame → List ℕ → RunRecord
run_left ends frames cut rest = record (run_of device_a (events_with Succeeded) ends frames) { cut = cut; rest = rest }

exits : (x : Exit) → AreAsMany (is_closed_with x) (ended_row x) (device_a ∷ []) (tee_places path_a) (events_with Succeeded)
exits Succeeded = (refl, (refl, tt))
exits Errored = tt
exits Canceled = tt

-- its one device is accounted for
pub accounted : DevicesAccounted depot_before (depot_after device_a) (tee_places path_a) (events_with Succeeded)
accounted = record {
  made = refl;
  few = (omega arith, tt);
  retired = refl;
  once = IsPermutation-refl ((0, device_a.place) ∷ []);
  shut = (record { shut = refl; closes = refl; once = omega arith; there = λ m a. absurd (let no : Some true ≡ Some false = a in cc); within = omega arith }, tt);
  rows = (omega arith, (tt, (tt, tt)));
  acquired = (refl, (refl, tt));
  failed = tt;
  exits = exits;
  files = λ path. inr refl;
  stored = (λ m o. absurd (let no : mode.Read ≡ mode.Write = m in cc), tt);
}

-- its ledger keeps the rules
pub ruled : KeepsReaderRules (events_with Succeeded)
ruled = record {
  stamped = stamped_sound (events_with Succeeded) (events_with Succeeded) refl refl;
  legal = legal_sound (events_with Succeeded) refl;
  complete = complete_sound (events_with Succeeded) (legal_sound (events_with Succeeded) refl) refl;
  ordered = ordered_sound (events_with Succeeded) refl;
  own = ((refl, refl), ((refl, refl), ((refl, refl), tt)));
  scopes = refl;
}

-- so are they where it can't be opened
unopened : (x : Exit) → AreAsMany (is_closed_with x) (ended_row x) not_opened.depot_new.retired (tee_places path_a) not_opened.events
unopened Succeeded = tt
unopened Errored = tt
unopened Canceled = tt

pub accounted_unopened : DevicesAccounted not_opened.depot_old not_opened.depot_new (tee_places path_a) not_opened.events
accounted_unopened = record {
  made = refl;
  few = (omega arith, tt);
  retired = refl;
  once = IsPermutation-refl ((0, device_a.place) ∷ []);
  shut = (record { shut = refl; closes = refl; once = omega arith; there = λ m a. refl; within = omega arith }, tt);
  rows = (tt, tt);
  acquired = tt;
  failed = tt;
  exits = unopened;
  files = λ path. inr refl;
  stored = (λ m o. absurd (let no : mode.Read ≡ mode.Write = m in cc), tt);
}

pub ruled_unopened : KeepsReaderRules not_opened.events
ruled_unopened = record {
  stamped = stamped_sound not_opened.events not_opened.events refl refl;
  legal = legal_sound not_opened.events refl;
  complete = complete_sound not_opened.events (legal_sound not_opened.events refl) refl;
  ordered = ordered_sound not_opened.events refl;
  own = ((refl, refl), tt);
  scopes = refl;
}

-- only one device came back
pub only_one : (d x : DeviceTold) → IsAmong x (d ∷ []) → x ≡ d
only_one d x m = ⊎_elim (λ e. e) (λ n. absurd (among_nil n)) (among_cons m)
