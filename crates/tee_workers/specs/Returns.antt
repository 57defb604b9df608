-- What a worker asks of a branch, and what is known of it when it comes back.
use Rattle.std.specs.Prelude.{List, Option}
use Rattle.chunk_core.specs.Elements.{Element, LoadKind}
use Rattle.chunk_core.specs.Feed.{Meaning}
use Rattle.chunk_core.specs.declared.code.Code.{Code}
use Rattle.channel_bounded.specs.Ends.{HubSeen}
use Rattle.channel_bounded.specs.declared.message.Msg.{Msg}
use Rattle.interrupt_ctx.specs.Ends.{BoardSeen}
use Rattle.tee_branches.specs.declared.branch.Branch.{Branch}
use Rattle.tee_branches.specs.Branches.{IsAt, IsBranchOf, IsSameBranch, MayReceiveAll, MaySendAll}

module _ {F : Type 0} (StandsFor : F → Meaning → List Element → Type 0) (Comes : F → LoadKind → List Element → Option Code → Type 0) where
  -- b is the branch of each meaning that a is of, at the same queue, hub and board
  pub record ComesBack (a b : Branch F) : Type 0 where
    pub branch : (m : Meaning) → IsBranchOf StandsFor Comes m a → IsBranchOf StandsFor Comes m b
    pub same : IsSameBranch a b

  -- a is the branch of some meaning, and it is at its queue, hub and board, where it may receive and send all that it will
  pub record IsReady (may_get may_send : List Msg → List Msg → Type 0) (a : Branch F) (topic : List HubSeen) (hub : HubSeen) (board : BoardSeen) : Type 0 where
    pub branch : (m : Meaning) × IsBranchOf StandsFor Comes m a
    pub at : IsAt a topic hub board
    pub may_receive : MayReceiveAll may_get a.source
    pub may_send_all : MaySendAll may_send hub.capacity a.number
