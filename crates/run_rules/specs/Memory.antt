-- Why memory is said to have been wanting.
use Rattle.std.specs.Prelude.{◌≡◌, ◌⊎◌, ℕ, ◌<◌, List, [], ◌∷◌, ◌++◌, map, length}
use Rattle.chunk_core.specs.Elements.{Element, rendering_of}
use Rattle.chunk_core.specs.Lists.{IsAmong}
use Rattle.chunk_core.specs.declared.code.How.TheVariants as how
use Rattle.device_port.specs.Device.{DeviceTold}
use Rattle.res_ledger.specs.declared.event.StreamNo.TheVariants.{Inner}
use Rattle.run_rules.specs.declared.end.EndOf.{EndOf}
use Rattle.run_rules.specs.Ends.{IsSilenced}
use Rattle.run_rules.specs.Outputs.{StartsRunOf, elements_in_pieces, payloads_by}
use Rattle.run_rules.specs.Work.{Work, Values, RunRecord}

-- a piece of a stream that was halted was lost, though frames could be printed: a run of it goes on with a payload behind those of its frames
pub record LostPiece (work : Work) (c : RunRecord) (v : Values) (w : ℕ → DeviceTold) (e : EndOf) : Type 0 where
  pub halted : e.how ≡ how.Halted
  pub printing : ¬ (IsSilenced work c)
  pub stream : ℕ
  pub who : e.who ≡ Inner stream
  pub payload : List ℕ
  pub some : 0 < length payload
  pub pieces : List (List Element)
  pub run : StartsRunOf (work.runs stream v w) (elements_in_pieces pieces)
  pub goes_on : payloads_by stream c.frames ++ payload ∷ [] ≡ map rendering_of pieces

-- memory was wanting for a stream that ended so, or for a piece that was lost
abbrev pub IsWanting : Work → RunRecord → Values → (ℕ → DeviceTold) → Type 0
IsWanting work c v w = (e : EndOf) × IsAmong e c.ends × ((e.how ≡ how.Memory) ⊎ LostPiece work c v w e)
