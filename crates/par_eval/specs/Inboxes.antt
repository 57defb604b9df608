-- What a dealer received of a hand.
use Rattle.std.specs.Prelude.{◌≡◌, ℕ, List, [], ◌∷◌, ◌++◌, map, Option, Some, None, IfNone, IfSome, option_to_list}
use Rattle.chunk_core.specs.declared.code.How.{How}
use Rattle.chunk_core.specs.declared.load.Load.{Load as Piece}
use Rattle.channel_bounded.specs.Ends.{MayReceive, ReceiverSeen, ReceiverSees}
use Rattle.channel_bounded.specs.declared.message.Body.{Body}
use Rattle.channel_bounded.specs.declared.message.Body.TheVariants.{Load, End}
use Rattle.channel_bounded.specs.declared.message.Msg.{Msg}
use Rattle.par_eval.specs.Messages.{bodies, messages_of, results_in, the_stream}
use Rattle.par_eval.specs.declared.work.Worked.{Worked}

-- the results that were received whole
abbrev pub results_got : ReceiverSeen → List Worked
results_got r = results_in (bodies r.got)

-- one more message was received
abbrev pub with_got : ReceiverSeen → Msg → ReceiverSeen
with_got r m = record r { got = r.got ++ m ∷ [] }

-- it may receive as many messages as there are
abbrev pub MayReceiveOn : (List Msg → List Msg → Type 0) → ReceiverSeen → Type 0
MayReceiveOn may r = (more : List Msg) → MayReceive may (record r { got = r.got ++ more })

-- whole results were received of the one stream, and then these messages
pub record ReceivedThen (r : ReceiverSeen) (rest : List Body) : Type 0 where
  pub made : r.made ≡ the_stream ∷ []
  pub results : List Worked
  pub holds : bodies r.got ≡ messages_of results ++ rest

-- whole results were received, and then the load of a further one, if any
abbrev pub IsInbox : ReceiverSeen → Option Piece → Type 0
IsInbox r half = ReceivedThen r (map Load (option_to_list half))

-- what is left of a receipt: the message with this body was received
abbrev pub Gets : ReceiverSeen → ReceiverSeen → Body → Type 0
Gets a b body = (m : Msg) × (m.body ≡ body) × (b ≡ with_got a m)

-- the end came and makes the result whole, or the queue was empty at one moment of the call, and the load is kept
abbrev pub GetsEnd : (List Msg → List Msg → Type 0) → ReceiverSeen → ReceiverSeen → Piece → Option Piece → Option Worked → Type 0
GetsEnd may a b out half (Some w) = (w.out ≡ out) × (half ≡ None) × Gets a b (End w.how)
GetsEnd may a b out half None = (half ≡ Some out) × (b ≡ a) × ReceiverSees may a []

-- it is the same queue, with the same senders
pub record IsSameInbox (a b : ReceiverSeen) : Type 0 where
  pub hub : b.hub ≡ a.hub
  pub made : b.made ≡ a.made
  pub closed : b.closed ≡ a.closed

-- a whole result was received, or the queue was empty at one moment of the call
pub record TakesNext (may : List Msg → List Msg → Type 0) (a b : ReceiverSeen) (half : Option Piece) (result : Option Worked) : Type 0 where
  pub inbox : IsInbox b half
  pub some : IfSome result (λ w. results_got b ≡ results_got a ++ w ∷ [])
  pub none : IfNone result (results_got b ≡ results_got a)
  pub empty : IfNone result (ReceiverSees may b [])
  pub same : IsSameInbox a b
