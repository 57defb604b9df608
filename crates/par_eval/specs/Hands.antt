-- What contracts see of a hand, and what a turn does.
use Rattle.std.specs.Prelude.{◌≡◌, ℕ, ◌⊎◌, Bool, true, List, [], ◌∷◌, ◌++◌, length, Option, Some, None, option_to_list}
use Rattle.chunk_core.specs.Totals.{IsAt}
use Rattle.chunk_core.specs.declared.code.How.{How}
use Rattle.chunk_core.specs.declared.load.Load.{Load as Piece}
use Rattle.channel_bounded.specs.Ends.{ReceiverSeen, ReceiverSees, SenderSeen, MaySend}
use Rattle.channel_bounded.specs.declared.message.Body.{Body}
use Rattle.channel_bounded.specs.declared.message.Body.TheVariants.{Load, End}
use Rattle.channel_bounded.specs.declared.message.Msg.{Msg}
use Rattle.par_eval.specs.Lanes.{FoundFull, LaneHubs}
use Rattle.par_eval.specs.Messages.{AreResults, IsResult, Meaning, bodies, loads_in, messages_of, results_in, the_stream}
use Rattle.par_eval.specs.declared.outbox.Outbox.{Outbox}
use Rattle.par_eval.specs.declared.turns.HandTurn.{HandTurn}
use Rattle.par_eval.specs.declared.turns.HandTurn.TheVariants as turn
use Rattle.par_eval.specs.declared.work.Worked.{Worked}

-- its number, its ends of its two queues, what it has to send before it goes on, and whether it received its end
pub record HandSeen : Type 0 where
  pub number : ℕ
  pub tasks : ReceiverSeen
  pub results : SenderSeen
  pub waiting : List Body
  pub over : Bool

abbrev pub waiting_in : Outbox → List Body
waiting_in o = option_to_list o.first ++ option_to_list o.second

-- what it sent, and what it has to send
abbrev pub said : HandSeen → List Body
said h = bodies h.results.sent ++ h.waiting

-- the loads that it received
abbrev pub received : HandSeen → List Piece
received h = loads_in (bodies h.tasks.got)

-- what it says are results of the loads that it received
abbrev pub Answers : Meaning → HandSeen → Type 0
Answers f h = AreResults f (received h) (results_in (said h))

-- the hand is at its lane
pub record IsHandAt (lanes : List LaneHubs) (h : HandSeen) : Type 0 where
  pub lane : LaneHubs
  pub place : IsAt lanes h.number lane
  pub tasks : h.tasks.hub ≡ lane.tasks.id
  pub results : h.results.hub ≡ lane.results.id

-- it stays the hand of its lane
pub record IsSameHand (a b : HandSeen) : Type 0 where
  pub number : b.number ≡ a.number
  pub tasks : b.tasks.hub ≡ a.tasks.hub
  pub results : b.results.hub ≡ a.results.hub

-- nothing waited, and a load was received, whose result waits
pub record Receives (f : Meaning) (a b : HandSeen) : Type 0 where
  pub idle : a.waiting ≡ []
  pub message : Msg
  pub load : Piece
  pub is_load : message.body ≡ Load load
  pub worked : Worked
  pub is_result : IsResult f load worked
  pub becomes : b ≡ record a { tasks = record a.tasks { got = a.tasks.got ++ message ∷ [] }; waiting = Load worked.out ∷ End worked.how ∷ [] }

-- the first message that waited was sent
pub record Sends (a b : HandSeen) : Type 0 where
  pub message : Msg
  pub rest : List Body
  pub first : a.waiting ≡ message.body ∷ rest
  pub becomes : b ≡ record a { results = record a.results { sent = a.results.sent ++ message ∷ [] }; waiting = rest }

-- nothing waited, and the end was received
pub record Finishes (a b : HandSeen) : Type 0 where
  pub idle : a.waiting ≡ []
  pub message : Msg
  pub how : How
  pub is_end : message.body ≡ End how
  pub becomes : b ≡ record a { tasks = record a.tasks { got = a.tasks.got ++ message ∷ [] }; over = true }

-- nothing was done, since the queue of tasks was empty at one moment of the call
pub record FindsNone (may : List Msg → List Msg → Type 0) (a b : HandSeen) : Type 0 where
  pub idle : a.waiting ≡ []
  pub same : b ≡ a
  pub sees : ReceiverSees may a.tasks []

-- nothing was done, since the queue of results was full at one moment of the call
pub record FindsFull (may : List Msg → List Msg → Type 0) (a b : HandSeen) : Type 0 where
  pub same : b ≡ a
  pub found : FoundFull may 2 a.results

-- what a turn does, by its answer
abbrev pub Turns : Meaning → (List Msg → List Msg → Type 0) → HandSeen → HandSeen → HandTurn → Type 0
Turns f may a b turn.More = Receives f a b ⊎ Sends a b
Turns f may a b turn.Empty = FindsNone may a b
Turns f may a b turn.Blocked = FindsFull may a b
Turns f may a b turn.Over = Finishes a b

-- it may send the first message that waits
abbrev pub MaySendNext : (List Msg → List Msg → Type 0) → HandSeen → Type 0
MaySendNext may h = (b : Body) (rest : List Body) → h.waiting ≡ b ∷ rest → MaySend may 2 h.results (record { stream = the_stream; body = b })

-- its queues are its own, and what it says is one result for each load that it received
pub record IsHand (number : ℕ) (tasks : ReceiverSeen) (outbox : Outbox) : Type 0 where
  pub idle : outbox.first ≡ None → outbox.second ≡ None
  pub stream : outbox.sender.stream ≡ the_stream
  pub made : tasks.made ≡ the_stream ∷ []
  pub results : List Worked
  pub says : messages_of results ≡ bodies outbox.sender.sent ++ waiting_in outbox
  pub count : length results ≡ length (loads_in (bodies tasks.got))

-- the message was sent and the next one is the first, or the queue was full at one moment of the call and nothing changed
abbrev pub OutboxSends : (List Msg → List Msg → Type 0) → ℕ → Body → Outbox → Outbox → HandTurn → Type 0
OutboxSends may capacity body a b turn.More = (b.sender ≡ record a.sender { sent = a.sender.sent ++ (record { stream = the_stream; body = body }) ∷ [] }) × (b.first ≡ a.second) × (b.second ≡ None)
OutboxSends may capacity body a b turn.Blocked = (b ≡ record a { first = Some body }) × FoundFull may capacity a.sender
OutboxSends may capacity body a b turn.Empty = ⊥
OutboxSends may capacity body a b turn.Over = ⊥
