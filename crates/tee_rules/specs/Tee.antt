-- What the run of a tee shows.
use Rattle.std.specs.Prelude.{◌≡◌, ◌≢◌, ◌⊎◌, ℕ, ◌<◌, ◌^◌, true, false, List, ◌∷◌, map, length, Option, Some, None, IfSome}
use Rattle.std.specs.List.{AllByRecursion}
use Rattle.chunk_core.specs.Lists.{IsAmong}
use Rattle.chunk_core.specs.Elements.{Byte, Element}
use Rattle.chunk_core.specs.Outcomes.{End}
use Rattle.chunk_core.specs.Texts.{IsRestOf}
use Rattle.chunk_core.specs.declared.code.How.{How}
use Rattle.chunk_core.specs.declared.code.How.TheVariants as how
use Rattle.device_port.specs.Device.{DeviceTold, faults_of}
use Rattle.pipeline_desc.specs.declared.step.Step.{Step}
use Rattle.chain_pipes.specs.Over.{chain_all}
use Rattle.res_ledger.specs.declared.event.StreamNo.TheVariants.{Inner, Outer}
use Rattle.run_rules.specs.declared.end.EndOf.{EndOf}
use Rattle.run_rules.specs.Devices.{DevicesAccounted, came_back}
use Rattle.run_rules.specs.Facts.{IsFailure, IsOver, has_event, is_failed}
use Rattle.run_rules.specs.Run.{IsUnmade}
use Rattle.run_rules.specs.Work.{RunRecord, begun_frames}
use Rattle.tee_rules.specs.Branches.{AreBranches}
use Rattle.tee_rules.specs.Reader.{IsReader, IsReaderHome, KeepsReaderRules, tee_places}

-- why something may be halted: a write failed, memory was wanting, or an end is a fault
abbrev pub HasCauseToHalt : RunRecord → Type 0
HasCauseToHalt c = (c.cut ≢ None) ⊎ (c.memory ≡ true) ⊎ ((e : EndOf) × IsAmong e c.ends × IsFailure e.how)

-- the end comes by its cause
pub record EndIsCaused (c : RunRecord) (e : EndOf) : Type 0 where
  pub halted : e.how ≡ how.Halted → HasCauseToHalt c
  pub memory : e.how ≡ how.Memory → c.memory ≡ true

-- the content is told, is below the limit, and each branch gives of all of it no fault
abbrev pub IsGoodContent : List (List Step) → Option (List ℕ) → Type 0
IsGoodContent branches None = ⊥
IsGoodContent branches (Some bytes) = (length bytes < 2 ^ 40) × AllByRecursion (λ steps. (chain_all steps (map Byte bytes)).fault ≡ None) branches

-- no write and no device failed, and the content is good
pub record NothingFailed (branches : List (List Step)) (c : RunRecord) (d : DeviceTold) : Type 0 where
  pub written : c.cut ≡ None
  pub devices : AllByRecursion (λ x. faults_of x ≡ 0) (came_back c.depot_old c.depot_new)
  pub content : IsGoodContent branches d.content

-- the outer stream and each branch is done, and no finalizer failed
pub record IsWholeTee (c : RunRecord) : Type 0 where
  pub done : AllByRecursion (λ e. e.how ≡ how.Done) c.ends
  pub clean : has_event is_failed c.events ≡ false

-- The file was read once, by the outer stream, and each branch printed what its steps give of it, as far as both went. What was begun of a frame whose write
-- failed counts as printed, and its branch didn't end by itself.
pub record Teed (path : List ℕ) (branches : List (List Step)) (c : RunRecord) : Type 0 where
  pub home : DeviceTold
  pub row : IsReaderHome path c home
  pub ending : How
  pub inner : List EndOf
  pub ends : c.ends ≡ record { who = Outer; how = ending } ∷ inner
  pub given : List Element
  pub end : End
  pub reader : IsReader path c home given end ending
  pub each : AreBranches given end (begun_frames c) 0 branches inner
  pub numbers : AllByRecursion (λ f. (f.stream < length branches) × (0 < length f.payload)) (begun_frames c)
  pub rest : IsRestOf c.cut c.rest
  pub unfinished : IfSome c.cut (λ f. AllByRecursion (λ e. e.who ≡ Inner f.stream → ¬ (IsOver e.how)) inner)
  pub caused : AllByRecursion (EndIsCaused c) c.ends
  pub wanting : c.memory ≡ true → (e : EndOf) × IsAmong e c.ends × (e.how ≡ how.Memory)
  pub completeness : c.memory ≡ false → NothingFailed branches c home → IsWholeTee c

-- The work of a tee was done: its device is accounted for, its ledger keeps the rules, and it ran, where room could be made.
pub record TeesFile (path : List ℕ) (branches : List (List Step)) (c : RunRecord) : Type 0 where
  pub devices : DevicesAccounted c.depot_old c.depot_new (tee_places path) c.events
  pub ledger : KeepsReaderRules c.events
  pub ran : IsUnmade c ⊎ Teed path branches c
