-- What a step of a branch comes to.
use Rattle.std.specs.Prelude.{◌≡◌, ◌⊎◌, ℕ, List, Option, None}
use Rattle.chunk_core.specs.Elements.{Bytes, Element, LoadKind}
use Rattle.chunk_core.specs.Feed.{Meaning, MayFeed, MayFinish}
use Rattle.chunk_core.specs.declared.code.Code.{Code}
use Rattle.chunk_core.specs.declared.code.How.{How}
use Rattle.chunk_core.specs.declared.code.How.TheVariants as how
use Rattle.tee_branches.specs.declared.news.Moved.{Moved}
use Rattle.tee_branches.specs.declared.stage.Stage.{Stage}
use Rattle.tee_branches.specs.declared.stage.Stage.TheVariants as stage
use Rattle.tee_branches.specs.Messages.{IsNews}

module _ {F : Type 0} where
  -- the stage, with what is said of these elements; or memory was wanting
  abbrev pub IsMoved : ℕ → List Element → Stage F → Moved F → Type 0
  IsMoved k ys s m = ((m.stage ≡ s) × IsNews k ys m.message) ⊎ ((m.stage ≡ stage.Ending how.Memory) × (m.message ≡ None))

  module _ (StandsFor : F → Meaning → List Element → Type 0) (Comes : F → LoadKind → List Element → Option Code → Type 0) where
    -- the branch isn't over, and its pipe may go on
    abbrev pub CanStep : Stage F → Type 0
    CanStep (stage.Feeding pipe) = MayFeed (StandsFor pipe) Bytes
    CanStep (stage.Finishing pipe) = MayFinish (StandsFor pipe) (Comes pipe)
    CanStep (stage.Ending h) = Unit {0}
    CanStep (stage.Over h) = ⊥

  -- how far it is behind an end of its topic: behind a whole one its pipe is to be told, behind any other it is halted
  abbrev pub stage_behind : F → How → Stage F
  stage_behind pipe how.Done = stage.Finishing pipe
  stage_behind pipe (how.Fault c) = stage.Ending how.Halted
  stage_behind pipe how.Halted = stage.Ending how.Halted
  stage_behind pipe how.Memory = stage.Ending how.Halted
