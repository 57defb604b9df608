-- What contracts see of a dealer, and what its calls do.
use Rattle.std.specs.Prelude.{◌≡◌, ℕ, suc, ◌+◌, ◌%◌, ◌/◌, ◌<◌, ◌≤◌, ◌⊎◌, List, [], ◌∷◌, ◌++◌, length, slice_set, map, false, Option, Some, None, IsSome}
use Rattle.chunk_core.specs.Totals.{IsAt, total}
use Rattle.chunk_core.specs.declared.code.How.TheVariants as how
use Rattle.chunk_core.specs.declared.load.Load.{Load as Piece}
use Rattle.channel_bounded.specs.Ends.{MaySend, ReceiverSeen, ReceiverSees, SenderSeen}
use Rattle.channel_bounded.specs.declared.message.Body.{Body}
use Rattle.channel_bounded.specs.declared.message.Body.TheVariants.{Load, End}
use Rattle.channel_bounded.specs.declared.message.Msg.{Msg}
use Rattle.par_eval.specs.Hands.{Answers, HandSeen}
use Rattle.par_eval.specs.Inboxes.{MayReceiveOn, results_got}
use Rattle.par_eval.specs.Lanes.{FoundFull, LaneHubs}
use Rattle.par_eval.specs.Messages.{IsResult, Meaning, bodies, loads_in, the_stream}
use Rattle.par_eval.specs.declared.work.Worked.{Worked}

-- the dealer's ends of a hand's two queues, and the hand, once it was collected
pub record LaneSeen : Type 0 where
  pub tasks : SenderSeen
  pub results : ReceiverSeen
  pub collected : Option HandSeen

-- the lanes, by the numbers of their hands, how many groups are out, and to how many hands their end was sent, once the dealer was to end
pub record DealerSeen : Type 0 where
  pub lanes : List LaneSeen
  pub out : ℕ
  pub ended : Option ℕ

-- the loads that were dealt to the hand, in order
abbrev pub dealt_to : LaneSeen → List Piece
dealt_to lane = loads_in (bodies lane.tasks.sent)

-- the results that were taken from the hand, in order
abbrev pub taken_from : LaneSeen → List Worked
taken_from lane = results_got lane.results

-- how many groups were dealt
abbrev pub dealt : List LaneSeen → ℕ
dealt lanes = total (λ lane. length (dealt_to lane)) lanes

-- how many results were taken
abbrev pub taken : List LaneSeen → ℕ
taken lanes = total (λ lane. length (taken_from lane)) lanes

-- group i is the load number i / jobs that was dealt to hand i mod jobs
abbrev pub IsDealt : List LaneSeen → ℕ → Piece → Type 0
IsDealt lanes i load = (lane : LaneSeen) × IsAt lanes (i % length lanes) lane × IsAt (dealt_to lane) (i / length lanes) load

-- its result is the one of that number that was taken from that hand
abbrev pub IsTaken : List LaneSeen → ℕ → Worked → Type 0
IsTaken lanes i w = (lane : LaneSeen) × IsAt lanes (i % length lanes) lane × IsAt (taken_from lane) (i / length lanes) w

-- what was taken is, in order, what comes of what was dealt, apart from results that lacked memory
abbrev pub AreInOrder : Meaning → List LaneSeen → Type 0
AreInOrder f lanes = (i : ℕ) (w : Worked) → IsTaken lanes i w → (load : Piece) × IsDealt lanes i load × IsResult f load w

-- each hand was collected, and what it said are results
abbrev pub AllAnswer : Meaning → List LaneSeen → Type 0
AllAnswer f lanes = (h : ℕ) (lane : LaneSeen) → IsAt lanes h lane → (hand : HandSeen) × (lane.collected ≡ Some hand) × Answers f hand

-- a message of the one stream
abbrev pub message : Body → Msg
message body = record { stream = the_stream; body = body }

-- the message was sent to the hand
abbrev pub posted : LaneSeen → Body → LaneSeen
posted lane body = record lane { tasks = record lane.tasks { sent = lane.tasks.sent ++ message body ∷ [] } }

-- the hand's end, as a message
abbrev pub the_end : Body
the_end = End how.Done

-- the dealer is at these lanes
pub record IsDealerAt (hubs : List LaneHubs) (lanes : List LaneSeen) : Type 0 where
  pub count : length lanes ≡ length hubs
  pub places : (h : ℕ) (lane : LaneSeen) (hub : LaneHubs) → IsAt lanes h lane → IsAt hubs h hub → (lane.tasks.hub ≡ hub.tasks.id) × (lane.results.hub ≡ hub.results.id)

-- the load was dealt to the hand whose turn it is
pub record Puts (load : Piece) (a b : DealerSeen) : Type 0 where
  pub lane : LaneSeen
  pub place : IsAt a.lanes (dealt a.lanes % length a.lanes) lane
  pub becomes : b ≡ record a { lanes = slice_set a.lanes (dealt a.lanes % length a.lanes) (posted lane (Load load)); out = a.out + 1 }

-- these results of the hand were received
pub record LaneTakes (ws : List Worked) (a b : LaneSeen) : Type 0 where
  pub tasks : b.tasks ≡ a.tasks
  pub hub : b.results.hub ≡ a.results.hub
  pub collected : b.collected ≡ a.collected
  pub takes : taken_from b ≡ taken_from a ++ ws

-- these results were taken from the hand whose turn it is
pub record Takes (ws : List Worked) (a b : DealerSeen) : Type 0 where
  pub lane : LaneSeen
  pub after : LaneSeen
  pub place : IsAt a.lanes (taken a.lanes % length a.lanes) lane
  pub takes : LaneTakes ws lane after
  pub lanes : b.lanes ≡ slice_set a.lanes (taken a.lanes % length a.lanes) after
  pub out : b.out + length ws ≡ a.out
  pub ended : b.ended ≡ a.ended

-- the queue of hand h was full at one moment of the call
abbrev pub FoundFullAt : (List Msg → List Msg → Type 0) → List LaneSeen → ℕ → Type 0
FoundFullAt may lanes h = (lane : LaneSeen) × IsAt lanes h lane × FoundFull may 1 lane.tasks

-- to how many hands their end was sent
abbrev pub ends_sent : Option ℕ → ℕ
ends_sent None = 0
ends_sent (Some n) = n

-- the ends of the hands from number m up to n were sent, and nothing else
pub record SendsEnds (m n : ℕ) (a b : List LaneSeen) : Type 0 where
  pub count : length b ≡ length a
  pub sent : (h : ℕ) (lane : LaneSeen) → IsAt a h lane → m ≤ h → h < n → IsAt b h (posted lane the_end)
  pub others : (h : ℕ) (lane : LaneSeen) → IsAt a h lane → (h < m) ⊎ (n ≤ h) → IsAt b h lane

-- the hand was taken in
abbrev pub collects : LaneSeen → HandSeen → LaneSeen
collects lane hand = record lane { results = record lane.results { closed = lane.results.closed ++ (hand.results.stream, hand.results.sent) ∷ [] }; collected = Some hand }

-- it may send this message to the hand
abbrev pub MayPost : (List Msg → List Msg → Type 0) → List LaneSeen → ℕ → Body → Type 0
MayPost may lanes h body = (lane : LaneSeen) → IsAt lanes h lane → MaySend may 1 lane.tasks (message body)

-- what a hand got is a front of what was dealt to it, and what was taken from it is a front of what it sent
pub record IsSettled (lane : LaneSeen) (hand : HandSeen) : Type 0 where
  pub queued : List Body
  pub tasks : bodies hand.tasks.got ++ queued ≡ bodies lane.tasks.sent
  pub unread : List Body
  pub results : bodies lane.results.got ++ unread ≡ bodies hand.results.sent

-- the hands take turns: each one before the next has one more than the others
pub record InTurn (count : LaneSeen → ℕ) (next : ℕ) (lanes : List LaneSeen) : Type 0 where
  pub within : next < length lanes
  pub rounds : ℕ
  pub before : (h : ℕ) (lane : LaneSeen) → IsAt lanes h lane → h < next → count lane ≡ suc rounds
  pub behind : (h : ℕ) (lane : LaneSeen) → IsAt lanes h lane → next ≤ h → count lane ≡ rounds

-- what holds of every dealer
pub record IsDealer (lanes : List LaneSeen) (putting taking out : ℕ) (ended : Option ℕ) : Type 0 where
  pub few : length lanes ≤ 64
  pub deals : InTurn (λ lane. length (dealt_to lane)) putting lanes
  pub takes : InTurn (λ lane. length (taken_from lane)) taking lanes
  pub counts : taken lanes + out ≡ dealt lanes
  pub idle : IsSome ended → out ≡ 0
  pub open_until : ¬ (ended ≡ Some (length lanes)) → (h : ℕ) (lane : LaneSeen) → IsAt lanes h lane → lane.collected ≡ None
  pub settled : (h : ℕ) (lane : LaneSeen) (hand : HandSeen) → IsAt lanes h lane → lane.collected ≡ Some hand → IsSettled lane hand

-- the dealer's ends of new queues
abbrev pub new_lane : LaneHubs → LaneSeen
new_lane hubs = record {
  tasks = record { hub = hubs.tasks.id; stream = the_stream; sent = [] };
  results = record { hub = hubs.results.id; got = []; made = the_stream ∷ []; closed = [] };
  collected = None;
}

-- a new hand at its queues
abbrev pub new_hand : ℕ → LaneHubs → HandSeen
new_hand h hubs = record {
  number = h;
  tasks = record { hub = hubs.tasks.id; got = []; made = the_stream ∷ []; closed = [] };
  results = record { hub = hubs.results.id; stream = the_stream; sent = [] };
  waiting = [];
  over = false;
}

-- so many lanes, with a new side of the dealer and a new hand for each
pub record IsTeam (jobs : ℕ) (hubs : List LaneHubs) (lanes : List LaneSeen) (hands : List HandSeen) : Type 0 where
  pub count : length hubs ≡ jobs
  pub lanes_are : lanes ≡ map new_lane hubs
  pub hands_count : length hands ≡ jobs
  pub hands_are : (h : ℕ) (hub : LaneHubs) → IsAt hubs h hub → IsAt hands h (new_hand h hub)

-- the message was sent to hand h
abbrev pub PostsAt : Body → ℕ → List LaneSeen → List LaneSeen → Type 0
PostsAt body h a b = (lane : LaneSeen) × IsAt a h lane × (b ≡ slice_set a h (posted lane body))

-- these results of hand h were received
abbrev pub TakesAt : List Worked → ℕ → List LaneSeen → List LaneSeen → Type 0
TakesAt ws h a b = (lane : LaneSeen) × (after : LaneSeen) × IsAt a h lane × LaneTakes ws lane after × (b ≡ slice_set a h after)

-- the queue of hand h was empty at one moment of the call
abbrev pub FoundEmptyAt : (List Msg → List Msg → Type 0) → List LaneSeen → ℕ → Type 0
FoundEmptyAt may lanes h = (lane : LaneSeen) × IsAt lanes h lane × ReceiverSees may lane.results []

-- the hand was taken in
abbrev pub CollectsAt : HandSeen → List LaneSeen → List LaneSeen → Type 0
CollectsAt hand a b = (lane : LaneSeen) × IsAt a hand.number lane × (b ≡ slice_set a hand.number (collects lane hand)) × IsSettled (collects lane hand) hand

-- hand h wasn't collected
abbrev pub IsOpenAt : List LaneSeen → ℕ → Type 0
IsOpenAt lanes h = (lane : LaneSeen) → IsAt lanes h lane → lane.collected ≡ None

-- it may receive what hand h sends
abbrev pub MayTakeAt : (List Msg → List Msg → Type 0) → List LaneSeen → ℕ → Type 0
MayTakeAt may lanes h = (lane : LaneSeen) → IsAt lanes h lane → MayReceiveOn may lane.results
