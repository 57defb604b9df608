-- A run of one file did its work.
use Rattle.std.proofs.Common.{◌≡◌, ◌≢◌, ◌<◌, ◌≤◌, ℕ, zero, suc, Bool, true, false, ◌&&◌, ◌||◌, not, length, map, List, [], ◌∷◌, Some, None, Option, IfSome, inl, inr, refl, sym, ap, ◌∙◌, subst, arith}
use Rattle.std.proofs.lemmas.Bool.{false≢true}
use Rattle.std.proofs.lemmas.List.Sorted.{IsPermutation-refl}
use Rattle.std.specs.List.{AllByRecursion}
use Rattle.chunk_core.specs.Elements.{Element, rendering_of}
use Rattle.chunk_core.specs.Outcomes.{Done, End, Fault, Outcomes, exit_of}
use Rattle.chunk_core.specs.Tables.{no_values}
use Rattle.chunk_core.specs.Texts.{Frame, payloads_of}
use Rattle.chunk_core.specs.declared.code.Code.{Code}
use Rattle.chunk_core.specs.declared.code.Exit.{Exit}
use Rattle.chunk_core.specs.declared.code.Exit.TheVariants.{Succeeded, Errored, Canceled}
use Rattle.chunk_core.specs.declared.code.How.{How}
use Rattle.chunk_core.specs.declared.code.How.TheVariants as how
use Rattle.chunk_core.specs.Lists.{IsAmong}
use Rattle.chunk_core.specs.Lists.IsAmong.{here}
use Rattle.chunk_core.proofs.Distinct.{distinct_one}
use Rattle.res_ledger.specs.Ledger.{stamped}
use Rattle.res_ledger.specs.declared.event.StreamNo.TheVariants.{Inner, Outer}
use Rattle.device_port.specs.Device.{DeviceTold, faults_of, to_read}
use Rattle.run_rules.specs.Devices.{AreAsMany, DevicesAccounted, is_closed_with}
use Rattle.run_rules.specs.Ends.{IsShown, act_count}
use Rattle.run_rules.specs.Facts.{ended_row, is_halted, is_memory}
use Rattle.run_rules.specs.Outputs.{IsOutput, IsReported, elements_in_pieces, payloads_by}
use Rattle.run_rules.specs.Rules.{KeepsRules}
use Rattle.run_rules.specs.Run.{Performs}
use Rattle.run_rules.specs.Wholeness.{IsWholeRun, NothingFailed}
use Rattle.run_rules.specs.Work.{RunRecord, Work}
use Rattle.run_laws.specs.Files.{file_device, file_events, file_run, file_work, path_a}
use Rattle.run_laws.specs.Written.{homes_of}
use Rattle.run_laws.proofs.Performing.{read_only}
use Rattle.run_laws.proofs.Deciding.{root_so}
use Rattle.run_laws.proofs.EndsTested.{caused_so, memory_known_so, stopped_so, unbounded}
use Rattle.run_laws.proofs.RoomTested.{begin_in_room_so}
use Rattle.run_laws.proofs.ExitsTested.{outer_ends, told_as_reported}
use Rattle.run_laws.proofs.RowsTested.{housed_by, left_alone_so}
use Rattle.run_laws.proofs.GivingTested.{outer_by, rules_by}

not_halted : (h : How) → h ≡ how.Halted → is_halted h ≡ false → ⊥
not_halted h e f = false≢true (sym f ∙ ap is_halted e)

not_done : (f : Code) → Fault f ≢ Done
not_done f e = cc

-- a fault of no act needs no device that shows it
no_act : (f : Code) → act_count f ≡ None → (ds : List DeviceTold) → IsShown ds (to_read path_a ∷ []) (how.Fault f)
no_act f e ds = subst (λ (o : Option (DeviceTold → ℕ)). IfSome o (λ n. (d : DeviceTold) × IsAmong d ds × IsAmong d.place (to_read path_a ∷ []) × (0 < n d))) (sym e) tt

module _ (runs ideal : DeviceTold → Outcomes) where
  abbrev work : Work
  work = file_work runs ideal

  file_rules : (x : Exit) → KeepsRules work (stamped 0 (file_events x))
  file_rules Succeeded = rules_by work (stamped 0 (file_events Succeeded)) refl refl refl refl refl (omega arith, (omega arith, tt)) refl refl
  file_rules Errored = rules_by work (stamped 0 (file_events Errored)) refl refl refl refl refl (omega arith, (omega arith, tt)) refl refl
  file_rules Canceled = rules_by work (stamped 0 (file_events Canceled)) refl refl refl refl refl (omega arith, (omega arith, tt)) refl refl

  module _ (bytes : List ℕ) (at : ℕ) (ended : Bool) (h : How) (frames : List Frame) (within : at ≤ length bytes) where
    abbrev c : RunRecord
    c = file_run bytes at ended h frames

    abbrev home : ℕ → DeviceTold
    home = homes_of (file_device bytes at ended h ∷ [])

    -- the only device has the exit of its row
    exits_by : (x y : Exit) → AreAsMany (is_closed_with y) (ended_row y) (record (file_device bytes at ended h) { exit = Some x } ∷ []) (to_read path_a ∷ []) (stamped 0 (file_events x))
    exits_by Succeeded Succeeded = (refl, (refl, tt))
    exits_by Errored Errored = (refl, (refl, tt))
    exits_by Canceled Canceled = (refl, (refl, tt))
    exits_by x y = tt

    file_devices : DevicesAccounted c.depot_old c.depot_new (to_read path_a ∷ []) c.events
    file_devices = record {
      made = refl;
      few = (omega arith, tt);
      retired = refl;
      once = IsPermutation-refl _;
      shut = (record { shut = refl; closes = refl; once = omega arith; there = λ m a. let x : ⊥ = cc in absurd x; within = within }, tt);
      rows = (tt, (tt, (omega arith, (tt, (tt, (tt, tt))))));
      acquired = (refl, (refl, tt));
      failed = tt;
      exits = exits_by (exit_of h);
      files = λ path. inr refl;
      stored = (read_only c.depot_new.files (file_device bytes at ended h) refl, tt);
    }

    module _ (pieces : List (List Element)) (numbers : AllByRecursion (λ (f : Frame). (f.stream < 1) × (0 < length f.payload)) frames) (printed : payloads_by 0 frames ≡ map rendering_of pieces) (text : payloads_of 0 frames ≡ rendering_of (elements_in_pieces pieces)) where
      performs_by : IsOutput work no_values home frames 0 h → ((ys : List Element) × (end : End) × work.runs 0 no_values home ys end × IsReported end h) → is_halted h ≡ false → is_memory h ≡ false → IsShown (file_device bytes at ended h ∷ []) (to_read path_a ∷ []) h → (NothingFailed work c no_values home → IsWholeRun work c no_values home) → Performs work c
      performs_by output ran going known shown whole = record {
        devices = file_devices;
        ledger = file_rules (exit_of h);
        ran = inr (record {
          values = no_values;
          home = home;
          rows = record { at_home = (refl, refl, inl (here []), tt); apart = distinct_one 0; tied = (tt, (tt, (refl, (tt, ((refl, refl), (tt, tt)))))); values = λ t key l. absurd (omega (arith, l)); alone = (left_alone_so work c home).0 refl; housed = housed_by work c home ((0, omega arith, refl), tt) };
          outputs = record { numbers = numbers; few = tt; in_turn = λ e. absurd (false≢true e); outputs = (output, refl); rest = refl };
          ends = record {
            named = refl;
            caused = ((caused_so work c (record { who = Outer; how = how.Done })).0 refl, (record { halted = λ e. absurd (not_halted h e going); fault = shown; root = λ b. (root_so c.events (Inner 0)).0 refl }, tt));
            outer = outer_by (tt, refl, tt) (tt, tt) refl tt tt unbounded;
            stopped = (stopped_so work c).0 (ap (λ b. ((not b || true) && true) && true) going);
            begins = (begin_in_room_so work.opener work c).0 refl;
            memory = (memory_known_so c).0 (ap (λ b. not (b || false) || false) known);
          };
          exits = (told_as_reported work c no_values home (record { who = Outer; how = how.Done }) (outer_ends work no_values home how.Done) refl, (record { how = h; same = inl refl; told = (tt, (refl, (tt, (refl, tt)))); ran = λ k q. ran }, tt));
          wanting = λ m. absurd (false≢true m);
          completeness = λ m n. whole n;
        });
      }

      -- the stream is done
      pub file_done : h ≡ how.Done → runs (file_device bytes at ended h) (elements_in_pieces pieces) Done → ideal (file_device bytes at ended h) (elements_in_pieces pieces) Done → Performs work c
      file_done e run whole = performs_by
          (record { pieces = pieces; end = Done; run = inl run; printed = printed; reported = e })
          (elements_in_pieces pieces, Done, run, e)
          (ap is_halted e) (ap is_memory e)
          (subst (λ (g : How). IsShown (file_device bytes at ended h ∷ []) (to_read path_a ∷ []) g) (sym e) tt)
          (λ n. record { done = (refl, (e, tt)); clean = refl; listed = tt; output = ((elements_in_pieces pieces, whole, text), tt) })

      faultless : (r : ℕ) → faults_of (home r) ≡ 0
      faultless zero = refl
      faultless (suc r) = refl

      -- the stream found a fault in what it was given
      pub file_fault : (f : Code) → h ≡ how.Fault f → act_count f ≡ None → runs (file_device bytes at ended h) (elements_in_pieces pieces) (Fault f) → ideal (file_device bytes at ended h) (elements_in_pieces pieces) (Fault f) → Performs work c
      file_fault f e plain run whole = performs_by
          (record { pieces = pieces; end = Fault f; run = inl run; printed = printed; reported = e })
          (elements_in_pieces pieces, Fault f, run, e)
          (ap is_halted e) (ap is_memory e)
          (subst (λ (g : How). IsShown (file_device bytes at ended h ∷ []) (to_read path_a ∷ []) g) (sym e) (no_act f plain (file_device bytes at ended h ∷ [])))
          (λ n. absurd (not_done f (n.ideal.0 home (elements_in_pieces pieces) (Fault f) (λ r. (faultless r, refl)) whole)))
