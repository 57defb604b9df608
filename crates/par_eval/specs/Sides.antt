-- What a dealer keeps of the queue of tasks.
use Rattle.std.specs.Prelude.{◌≡◌, ⊤, Option, Some, None}
use Rattle.channel_bounded.specs.Ends.{SenderSeen}
use Rattle.par_eval.specs.Hands.{HandSeen}
use Rattle.par_eval.specs.Messages.{the_stream}
use Rattle.par_eval.specs.declared.seat.Side.{Side}
use Rattle.par_eval.specs.declared.seat.Side.TheVariants.{Open, Closed}

-- the sender, or what it was
abbrev pub sender_of : Side → SenderSeen
sender_of (Open sender) = sender
sender_of (Closed sent hand) = sent.value

-- the hand, as it was collected
abbrev pub hand_of : Side → Option HandSeen
hand_of (Open sender) = None
hand_of (Closed sent hand) = Some hand.value

-- an open sender is that of the one stream
abbrev pub IsSide : Side → Type 0
IsSide (Open sender) = sender.stream ≡ the_stream
IsSide (Closed sent hand) = ⊤
