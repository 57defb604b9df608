-- What callers see of a branch.
use Rattle.std.specs.Prelude.{◌≡◌, ◌<◌, ℕ, false, List, [], ◌∷◌, ◌++◌, Option, None, IfSome}
use Rattle.channel_bounded.specs.Ends.{HubSeen, ReceiverSees, MayReceive}
use Rattle.channel_bounded.specs.Queue.{KeptBySend}
use Rattle.channel_bounded.specs.declared.message.Body.{Body}
use Rattle.channel_bounded.specs.declared.message.Body.TheVariants as body
use Rattle.channel_bounded.specs.declared.message.Msg.{Msg}
use Rattle.chunk_core.specs.Elements.{Bytes, Element, LoadKind, kind_of}
use Rattle.chunk_core.specs.Feed.{Meaning}
use Rattle.chunk_core.specs.declared.code.Code.{Code}
use Rattle.chunk_core.specs.declared.code.How.{How}
use Rattle.interrupt_ctx.specs.Ends.{BoardSeen}
use Rattle.topic_hub.specs.Subscribers.{IsAtQueue, SubscriberSeen, receiver_of, received}
use Rattle.tee_branches.specs.declared.branch.Branch.{Branch}
use Rattle.tee_branches.specs.declared.branch.BranchEnd.{BranchEnd}
use Rattle.tee_branches.specs.declared.stage.Stage.TheVariants as stage
use Rattle.tee_texts.specs.Texts.{IsTextOf, end_message}
use Rattle.tee_branches.specs.Messages.{held}
use Rattle.tee_branches.specs.Stands.{HasEnded, Stands}

module _ {F : Type 0} where
  -- all that it said: what was sent, and what waits
  abbrev pub said : Branch F → List Msg
  said b = b.sender.sent ++ held b.waiting

  -- its end was said, and nothing waits
  pub record IsOver (b : Branch F) : Type 0 where
    pub how : How
    pub ended : b.stage ≡ stage.Over how
    pub sent : b.waiting ≡ None

  -- it is at its queue of the topic, at the hub and at the board
  pub record IsAt (b : Branch F) (topic : List HubSeen) (hub : HubSeen) (board : BoardSeen) : Type 0 where
    pub queue : IsAtQueue topic b.source
    pub hub_is : b.sender.hub ≡ hub.id
    pub board_is : b.board.board ≡ board.id
    pub context : 0 < board.contexts

  -- it stays the branch of its number, at the same queue, hub and board
  pub record IsSameBranch (a b : Branch F) : Type 0 where
    pub number : b.number ≡ a.number
    pub source : b.source.number ≡ a.source.number
    pub queue : b.source.queue ≡ a.source.queue
    pub stream : b.sender.stream ≡ a.sender.stream
    pub hub : b.sender.hub ≡ a.sender.hub
    pub board : b.board.board ≡ a.board.board

  -- It is the branch of a pipe of this meaning: what it said is what that gives of what it received, as far as it is; and it has set nothing at its board.
  pub record IsBranchOf (StandsFor : F → Meaning → List Element → Type 0) (Comes : F → LoadKind → List Element → Option Code → Type 0) (m : Meaning) (b : Branch F) : Type 0 where
    pub number : b.source.number ≡ b.number
    pub sender : b.sender.stream ≡ b.number
    pub waits : IfSome b.waiting (IsTextOf b.number)
    pub stands : Stands StandsFor Comes b.number m b.board.view b.stage (received b.source) (said b)
    pub none_set : b.board.view.set ≡ []
    pub not_first : b.board.view.first ≡ false

-- a load is one of bytes
abbrev pub IsOfBytes : Body → Type 0
IsOfBytes (body.Load l) = kind_of l ≡ Bytes
IsOfBytes (body.End h) = Unit {0}

-- the subscriber, whatever it got so far
abbrev pub with_all : SubscriberSeen → List Msg → SubscriberSeen
with_all s got = record s { got = got }

-- whatever it got so far, its next message keeps the caller's fact, by which it is an end or has a load of bytes
pub record MayReceiveAll (may : List Msg → List Msg → Type 0) (s : SubscriberSeen) : Type 0 where
  pub keeps : (got : List Msg) → MayReceive may (receiver_of (with_all s got))
  pub bytes : (got : List Msg) (m : Msg) (rest : List Msg) → ReceiverSees may (receiver_of (with_all s got)) (m ∷ rest) → IsOfBytes m.body

-- each message of the branch, an end or a text, keeps the caller's fact
abbrev pub MaySendAll : (List Msg → List Msg → Type 0) → ℕ → ℕ → Type 0
MaySendAll may capacity k = (sent : List Msg) (m : Msg) → IsTextOf k m → KeptBySend may capacity k sent m

-- What is left of a branch that is over: it said what its pipe gives of what it received, and then its end, and all of it was sent.
pub record EndsBranch (m : Meaning) (e : BranchEnd) : Type 0 where
  pub stream : e.sender.stream ≡ e.source.number
  pub said : List Msg
  pub sent : e.sender.sent ≡ said ++ end_message e.source.number e.how ∷ []
  pub ended : HasEnded e.source.number m e.board.view (received e.source) said e.how
  pub none_set : e.board.view.set ≡ []
  pub not_first : e.board.view.first ≡ false
