-- What a turn of a branch does.
use Rattle.std.specs.Prelude.{◌≡◌, ◌⊎◌, ℕ, List, [], ◌∷◌, ◌++◌, Option, Some, None, IsSome}
use Rattle.std.specs.Option.{option_or}
use Rattle.chunk_core.specs.declared.code.How.TheVariants as how
use Rattle.channel_bounded.specs.Ends.{ReceiverSees}
use Rattle.channel_bounded.specs.declared.message.Body.{Body}
use Rattle.channel_bounded.specs.declared.message.Msg.{Msg}
use Rattle.interrupt_ctx.specs.Views.{after_look}
use Rattle.interrupt_ctx.specs.declared.why.Stop.{Stop}
use Rattle.interrupt_ctx.specs.Ends.{SeatSeen}
use Rattle.topic_hub.specs.Places.{FoundFull}
use Rattle.topic_hub.specs.Subscribers.{SubscriberSeen, receiver_of, with_got}
use Rattle.tee_texts.specs.Texts.{end_message}
use Rattle.tee_branches.specs.declared.branch.Branch.{Branch}
use Rattle.tee_branches.specs.declared.stage.Stage.TheVariants as stage
use Rattle.tee_branches.specs.declared.turn.BranchTurn.{BranchTurn}
use Rattle.tee_branches.specs.declared.turn.BranchTurn.TheVariants as turn
use Rattle.tee_branches.specs.Branches.{IsOver, said}

-- the seat looked at context 0 once, and this is what it found
abbrev pub LooksOnce : SeatSeen → SeatSeen → Type 0
LooksOnce old new = new ≡ record old { view = after_look old.view 0 new.view.last.own new.view.last.root }

-- at most one message was received
abbrev pub ReceivesOne : SubscriberSeen → SubscriberSeen → Type 0
ReceivesOne a b = (b ≡ a) ⊎ ((body : Body) × (b ≡ with_got a body))

module _ {F : Type 0} where
  -- a message waited: nothing was looked at or received, and nothing else was said
  pub record OnlySends (a b : Branch F) : Type 0 where
    pub source : b.source ≡ a.source
    pub board : b.board ≡ a.board
    pub says : said b ≡ said a

  -- where the run is interrupted nothing is received, and the end is said, as halted
  pub record IsHalted (a b : Branch F) : Type 0 where
    pub source : b.source ≡ a.source
    pub says : said b ≡ said a ++ end_message a.number how.Halted ∷ []
    pub ended : b.stage ≡ stage.Over how.Halted

  -- by what the look found
  abbrev pub Obeys : Option Stop → Branch F → Branch F → Type 0
  Obeys (Some stop) a b = IsHalted a b
  Obeys None a b = ReceivesOne a.source b.source

  -- nothing waited: the branch looked once, and went on by what it found
  pub record GoesOn (a b : Branch F) : Type 0 where
    pub looks : LooksOnce a.board b.board
    pub obeys : Obeys (option_or b.board.view.last.own b.board.view.last.root) a b

  -- nothing came: its queue of the topic was empty at one moment of the call
  pub record IsIdle (may : List Msg → List Msg → Type 0) (a b : Branch F) : Type 0 where
    pub source : b.source ≡ a.source
    pub says : said b ≡ said a
    pub waits : b.waiting ≡ None
    pub empty : ReceiverSees may (receiver_of a.source) []

  -- a message waits: the queue was full at one moment of the call
  pub record IsBlocked (may : List Msg → List Msg → Type 0) (capacity : ℕ) (a b : Branch F) : Type 0 where
    pub waits : IsSome b.waiting
    pub sender : b.sender ≡ a.sender
    pub full : FoundFull may capacity a.sender

  -- all was sent, and more is to come; or nothing came; or a message waits; or all was sent, and that was the end
  abbrev pub Tells : (List Msg → List Msg → Type 0) → (List Msg → List Msg → Type 0) → ℕ → Branch F → Branch F → BranchTurn → Type 0
  Tells may_get may_send capacity a b turn.More = b.waiting ≡ None
  Tells may_get may_send capacity a b turn.Empty = IsIdle may_get a b
  Tells may_get may_send capacity a b turn.Blocked = IsBlocked may_send capacity a b
  Tells may_get may_send capacity a b turn.Over = IsOver b
