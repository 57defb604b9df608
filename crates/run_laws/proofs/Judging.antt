-- A run is refused where a test fails.
use Rattle.std.proofs.Common.{◌≡◌, ◌≢◌, ℕ, Bool, true, false, List, [], ◌∷◌, length, sym, ◌∙◌, ⊎_elim}
use Rattle.std.specs.Bool.{Decides}
use Rattle.std.specs.List.{list_all as all}
use Rattle.std.proofs.lemmas.Bool.{false≢true}
use Rattle.res_ledger.specs.declared.event.Event.{Event}
use Rattle.device_port.specs.Device.{DeviceTold}
use Rattle.run_rules.specs.Devices.{IsShut, came_back}
use Rattle.run_rules.specs.Ends.{EndIsCaused}
use Rattle.run_rules.specs.Pace.{IsPaced}
use Rattle.run_rules.specs.Rules.{IsOurs}
use Rattle.run_rules.specs.Run.{IsUnmade, Performs, Ran}
use Rattle.run_rules.specs.Work.{RunRecord, Work, begun_frames, runs_in_turn}
use Rattle.run_laws.specs.EndTests.{begin_in_room, has_one_exit, is_caused, is_memory_told, is_stopped}
use Rattle.run_laws.specs.GivingTests.{is_given_by}
use Rattle.run_laws.specs.LedgerTests.{are_left_alone, is_leaving_closed, is_ours, is_paced, is_shut, never_fall}
use Rattle.run_laws.proofs.Deciding.{each_so}
use Rattle.run_laws.proofs.EndsTested.{caused_so, stopped_so}
use Rattle.run_laws.proofs.ExitsTested.{exits_pass}
use Rattle.run_laws.proofs.RoomTested.{begin_in_room_so, memory_passes}
use Rattle.run_laws.proofs.RowsTested.{left_alone_so, never_fall_so, shut_so}
use Rattle.run_laws.proofs.GivingTested.{given_by_so}
use Rattle.run_laws.proofs.Tested.{leaving_so, ours_so, paced_so}

pub no_nil : {A : Type 0} (x : A) (xs : List A) → (x ∷ xs) ≢ []
no_nil x xs e = cc

-- what a test decides isn't so where it fails
pub failing : {P : Type 0} {b : Bool} → Decides b P → b ≡ false → P → ⊥
failing d f p = false≢true (sym f ∙ d.1 p)

pub by_pace : {width n : ℕ} (L : List Event) → is_paced width n L ≡ false → IsPaced width n L → ⊥
by_pace {width = width} {n = n} L f p = failing (paced_so width n L) f p

module _ (work : Work) (c : RunRecord) where
  -- a run with ends was begun
  pub ran : (c.ends ≡ [] → ⊥) → Performs work c → Ran work c
  ran some h = ⊎_elim (λ (u : IsUnmade c). absurd (some u.ends)) (λ r. r) h.ran

  pub by_ours : all (is_ours work) c.events ≡ false → ¬ (Performs work c)
  by_ours f h = failing (each_so (is_ours work) (IsOurs work) (ours_so work) c.events) f h.ledger.ours

  pub by_leaving : is_leaving_closed c.events ≡ false → ¬ (Performs work c)
  by_leaving f h = failing (leaving_so c.events) f h.ledger.leaving

  pub by_giving : is_given_by work.opener (length work.streams) c.events ≡ false → ¬ (Performs work c)
  by_giving f h = failing (given_by_so work.opener (length work.streams) c.events h.ledger.legal) f h.ledger.given

  pub by_shut : all is_shut (came_back c.depot_old c.depot_new) ≡ false → ¬ (Performs work c)
  by_shut f h = failing (each_so is_shut IsShut shut_so (came_back c.depot_old c.depot_new)) f h.devices.shut

  module _ (some : c.ends ≡ [] → ⊥) where
    pub by_causes : all (is_caused work c) c.ends ≡ false → ¬ (Performs work c)
    by_causes f h = failing (each_so (is_caused work c) (EndIsCaused work c) (caused_so work c) c.ends) f (ran some h).ends.caused

    pub by_stops : is_stopped work c ≡ false → ¬ (Performs work c)
    by_stops f h = failing (stopped_so work c) f (ran some h).ends.stopped

    pub by_memory : is_memory_told work c ≡ false → ¬ (Performs work c)
    by_memory f h = let r = ran some h in false≢true (sym f ∙ memory_passes work c r.values r.home r.wanting)

    pub by_room : begin_in_room work.opener work c ≡ false → ¬ (Performs work c)
    by_room f h = failing (begin_in_room_so work.opener work c) f (ran some h).ends.begins

    pub by_exits : all (has_one_exit work c) c.ends ≡ false → ¬ (Performs work c)
    by_exits f h = let r = ran some h in false≢true (sym f ∙ exits_pass work c r.values r.home r.exits)

    pub by_turn : runs_in_turn work ≡ true → never_fall (begun_frames c) ≡ false → ¬ (Performs work c)
    by_turn t f h = failing (never_fall_so (begun_frames c)) f ((ran some h).outputs.in_turn t)

    -- nothing was done on the devices of a stream that noted nothing
    pub by_rows : ((home : ℕ → DeviceTold) → Ran work c → are_left_alone work c home ≡ false) → ¬ (Performs work c)
    by_rows f h = let r = ran some h in failing (left_alone_so work c r.home) (f r.home r) r.rows.alone
