-- The branches of a tee, each here or with a worker.
use Rattle.std.specs.Prelude.{◌≡◌, ℕ, List, length, Option}
use Rattle.chunk_core.specs.Elements.{Element, LoadKind}
use Rattle.chunk_core.specs.Feed.{Meaning}
use Rattle.chunk_core.specs.Totals.{IsAt}
use Rattle.chunk_core.specs.declared.code.Code.{Code}
use Rattle.channel_bounded.specs.Ends.{HubSeen}
use Rattle.interrupt_ctx.specs.Ends.{BoardSeen}
use Rattle.tee_branches.specs.declared.branch.Branch.{Branch}
use Rattle.tee_branches.specs.Branches.{IsAt as IsBranchAt, IsBranchOf}
use Rattle.tee_workers.specs.Hiring.{IsHired}
use Rattle.tee_workers.specs.declared.hired.Hired.{Hired}

-- what the branches share: the queues of the topic, the channel's queue, and the board
pub record SharedSeen : Type 0 where
  pub topic : List HubSeen
  pub hub : HubSeen
  pub board : BoardSeen

module _ {F : Type 0} (StandsFor : F → Meaning → List Element → Type 0) (Comes : F → LoadKind → List Element → Option Code → Type 0) (s : SharedSeen) where
  -- branch i, whose pipe has this meaning, at the queues and the board
  pub record IsBranch (i : ℕ) (m : Meaning) (b : Branch F) : Type 0 where
    pub number : b.number ≡ i
    pub branch : IsBranchOf StandsFor Comes m b
    pub at : IsBranchAt b s.topic s.hub s.board

  -- one branch for each meaning
  pub record AreBranches (ms : List Meaning) (bs : List (Branch F)) : Type 0 where
    pub count : length bs ≡ length ms
    pub each : (i : ℕ) (m : Meaning) (b : Branch F) → IsAt ms i m → IsAt bs i b → IsBranch i m b

  -- the branch that began so is here or with a worker
  abbrev pub IsHiredAs : ℕ → Meaning → Hired F → Type 0
  IsHiredAs i m h = (first : Branch F) × IsBranch i m first × IsHired StandsFor Comes first h

  -- these are the first branches
  abbrev pub AreHiredFirst : List Meaning → List (Hired F) → Type 0
  AreHiredFirst ms hs = (i : ℕ) (m : Meaning) (h : Hired F) → IsAt ms i m → IsAt hs i h → IsHiredAs i m h

  -- all of them, one for each meaning
  pub record AreHired (ms : List Meaning) (hs : List (Hired F)) : Type 0 where
    pub count : length hs ≡ length ms
    pub each : AreHiredFirst ms hs
