-- Where a branch is that was given to a worker.
use Rattle.std.specs.Prelude.{◌≡◌, List, Option}
use Rattle.chunk_core.specs.Elements.{Element, LoadKind}
use Rattle.chunk_core.specs.Feed.{Meaning}
use Rattle.chunk_core.specs.declared.code.Code.{Code}
use Rattle.tee_branches.specs.declared.branch.Branch.{Branch}
use Rattle.tee_workers.specs.Returns.{ComesBack}
use Rattle.tee_workers.specs.declared.hired.Hired.{Hired}
use Rattle.tee_workers.specs.declared.hired.Hired.TheVariants as at

module _ {F : Type 0} (StandsFor : F → Meaning → List Element → Type 0) (Comes : F → LoadKind → List Element → Option Code → Type 0) where
  -- the branch that began so is here, however far it is, or on a thread, which promised to give it back
  abbrev pub IsHired : Branch F → Hired F → Type 0
  IsHired first (at.Here b) = ComesBack StandsFor Comes first b
  IsHired first (at.Away h) = h.promise.0.value ≡ first
